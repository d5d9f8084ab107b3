-- The globals that name objects, as they are noted.
use Rattle.std.specs.Prelude.{◌≡◌, ℕ, ◌<◌, ◌≤◌, nat_le, Bool, true, false, ◌&&◌, List, [], ◌∷◌, Option, None, Some, slice_get, unwrap_or}
use Rattle.zk_base.specs.declared.numbers.ObjectNo.{ObjectNo}
use Rattle.zk_tree.specs.Value.{Value}
use Rattle.zk_table.specs.Dues.{is_watched}
use Rattle.zk_typed.specs.Does.{named}
use Rattle.zk_machine.specs.Entries.{object_named}
use Rattle.zk_machine.specs.declared.globals.Owner.{Owner}

-- the object that the global of a number names
abbrev pub object_of : List (Option Value) → ℕ → Option ObjectNo
object_of values global = object_named (named values global)

-- a global names an object of this number, and of these globals none that names a later one below the end has a lower number
pub record IsOwner (values : List (Option Value)) (globals : List ℕ) (global object end : ℕ) : Type 0 where
  pub names : object_of values global ≡ Some (record { 0 = object })
  pub first : (place other : ℕ) → slice_get globals place ≡ Some other → (later : ObjectNo) → object_of values other ≡ Some later → object ≤ later.0 → later.0 < end → global ≤ other

-- Notes ------------------------------------------------------------------------------------------------------------

-- this one stands among those that are noted
abbrev pub IsNoted : Owner → List Owner → Type 0
IsNoted owner owners = (place : ℕ) × (slice_get owners place ≡ Some owner)

-- behind an owner stand only such as have greater numbers, of the object and of the global
abbrev pub RisesTo : Owner → Owner → Type 0
RisesTo one other = (one.object.0 < other.object.0) × (one.global < other.global)

abbrev pub Rises : List Owner → Type 0
Rises owners = (place later : ℕ) (one other : Owner) → place < later → slice_get owners place ≡ Some one → slice_get owners later ≡ Some other → RisesTo one other

-- this one is among those that are noted, or one of the same object that is no later global
abbrev pub IsSeen : Owner → List Owner → Type 0
IsSeen owner owners = (first : ℕ) × (first ≤ owner.global) × IsNoted (record { object = owner.object; global = first }) owners

-- each of these globals that names an object below the limit is seen among those that are noted
abbrev pub NotedBelow : (ℕ → Bool) → List (Option Value) → List Owner → ℕ → Type 0
NotedBelow these values owners limit = (global : ℕ) (object : ObjectNo) → these global ≡ true → object_of values global ≡ Some object → object.0 < limit
    → IsSeen (record { object = object; global = global }) owners

-- the numbers of those that are noted rise, and each of these globals is seen that names an object below the limit
pub record AreNoted (these : ℕ → Bool) (values : List (Option Value)) (owners : List Owner) (limit : ℕ) : Type 0 where
  pub rises : Rises owners
  pub noted : NotedBelow these values owners limit

-- all globals
abbrev pub each_global : ℕ → Bool
each_global global = true

-- whether the entries of a global expire
abbrev pub expires_in : List Bool → ℕ → Bool
expires_in truths global = unwrap_or (slice_get truths global) false

-- the entries of each of these globals expire
abbrev pub AllExpire : List Bool → List ℕ → Type 0
AllExpire truths globals = (place global : ℕ) → slice_get globals place ≡ Some global → expires_in truths global ≡ true

-- What is watched ---------------------------------------------------------------------------------------------------

-- no global names an object
abbrev pub NamesNothing : List (Option Value) → Type 0
NamesNothing values = (global : ℕ) (object : ObjectNo) → object_of values global ≡ Some object → ⊥

-- each object that a global names passes a test of numbers
abbrev pub AllNamed : List (Option Value) → (ℕ → Bool) → Type 0
AllNamed values test = (global : ℕ) (object : ObjectNo) → object_of values global ≡ Some object → test object.0 ≡ true

-- whether that is so
abbrev pub passes : (ℕ → Bool) → Option ObjectNo → Bool
passes test None = true
passes test (Some object) = test object.0

abbrev pub all_named : List (Option Value) → (ℕ → Bool) → Bool
all_named [] test = true
all_named (value ∷ values) test = passes test (object_named value) && all_named values test

-- whether a heap watches each object that a global names
unfoldable pub all_watched : List (Option Value) → List Bool → Bool
all_watched values unwatched = all_named values (is_watched unwatched)

-- whether a number is at most that of the last object that was named
abbrev pub is_up_to : Option ObjectNo → ℕ → Bool
is_up_to None number = false
is_up_to (Some last) number = nat_le number last.0

-- whether that of each object that a global names is
unfoldable pub all_up_to : List (Option Value) → Option ObjectNo → Bool
all_up_to values last = all_named values (is_up_to last)

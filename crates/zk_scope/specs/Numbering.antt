-- The numbers of names among those of their kinds, and of record types and enums, told by maps.
use Rattle.std.specs.Prelude.{◌≡◌, ℕ, Bool, true, false, ◌&&◌, List, [], ◌∷◌, length, flat_map, nat_eq, if◌then◌else◌}
use Rattle.std.specs.Bool.{beq}
use Rattle.std.specs.HashMap.{get}
use Rattle.std.specs.Str.{bytes_eq}
use Rattle.zk_typed.specs.Names.{Declared, Node, RecordNode, EnumNode, is_record}
use Rattle.zk_scope.specs.declared.first_places.FirstPlaces.{FirstPlaces}
use Rattle.zk_scope.specs.declared.kind.Kind.{Kind}
use Rattle.zk_scope.specs.declared.kind.Kind.TheVariants as kind
use Rattle.zk_scope.specs.declared.numbers.Numbers.{Numbers}
use Rattle.zk_scope.specs.Indexing.{first_place}
use Rattle.zk_scope.specs.Kinds.{is_of}

-- where each key of a list stands first, and how many keys there are
abbrev pub Stands : {K : Type 0} → (K → K → Bool) → FirstPlaces K → List K → Type 0
Stands eq first keys = (first.count ≡ length keys) × ((key : _) → get eq first.places key ≡ first_place (λ other. eq other key) keys)

-- the names of a kind
abbrev pub own_name : Kind → Declared → List (List ℕ)
own_name kind one = if is_of kind one then one.name ∷ [] else []

abbrev pub names_of : Kind → List Declared → List (List ℕ)
names_of kind names = flat_map (own_name kind) names

-- where the text of a record type or an enum begins: the file and the place in it
abbrev pub spot : Node → ℕ × ℕ
spot (RecordNode home place fields) = (home.file, place)
spot (EnumNode home place words) = (home.file, place)

abbrev pub spot_eq : ℕ × ℕ → ℕ × ℕ → Bool
spot_eq one other = nat_eq one.0 other.0 && nat_eq one.1 other.1

-- where the texts of record types begin, or those of enums
abbrev pub own_spot : Bool → Node → List (ℕ × ℕ)
own_spot records node = if beq (is_record node) records then spot node ∷ [] else []

abbrev pub spots : Bool → List Node → List (ℕ × ℕ)
spots records nodes = flat_map (own_spot records) nodes

abbrev pub of_kind : Kind → Numbers → FirstPlaces (List ℕ)
of_kind kind.Variable numbers = numbers.variables
of_kind kind.Event numbers = numbers.events
of_kind kind.Hook numbers = numbers.hooks
of_kind kind.Function numbers = numbers.functions
of_kind kind.LogWord numbers = numbers.log_words

abbrev pub IsNumbered : Numbers → List Node → List Declared → Type 0
IsNumbered numbers nodes names =
    ((kind : Kind) → Stands bytes_eq (of_kind kind numbers) (names_of kind names)) ×
    Stands spot_eq numbers.records (spots true nodes) × Stands spot_eq numbers.enums (spots false nodes)

-- Names that lead back to themselves.
use Rattle.std.proofs.Common.{◌≡◌, ℕ, zero, suc, ◌+◌, ◌≤◌, Bool, true, false, List, [], ◌∷◌, ◌++◌, length, Option, Some, None, slice_get, refl, ap, sym, ◌∙◌, subst, arith}
use Rattle.std.specs.List.{list_any}
use Rattle.std.specs.Option.{option_map}
use Rattle.zk_typed.specs.Names.{Declared, Meant, KnownType, WrittenType, Word, Variable, Event, Hook, Function, BuiltInFunction, Log}
use Rattle.zk_typed.specs.Resolving.{Scripts}
use Rattle.zk_typed.specs.Within.{mentions}
use Rattle.zk_scope.specs.declared.declared.Declared.{Declared as LentDeclared}
use Rattle.zk_scope.specs.Indexing.{is_marked, mark_at}
use Rattle.zk_scope.specs.Leading.{AreCircles, declared_steps, is_circle, led, meant_circle, meant_steps, steps}
use Rattle.zk_scope.specs.Lent.{declared_lent, declared_of}
use Rattle.zk_scope.proofs.IndexLaws.{get_of_map}
use Rattle.zk_scope.proofs.LeadLaws.{leads_up, lent_length}
use Rattle.zk_scope.proofs.WayLaws.{all_more, longer, none_past, past_end}

circle_by : (scripts : Scripts) (target : List ℕ) (meant : Meant) → list_any (led scripts target (length scripts.names)) (meant_steps scripts.names meant) ≡ meant_circle scripts target meant
circle_by scripts target (WrittenType home tree) = sym (leads_up scripts target (length scripts.names) home (mentions tree))
circle_by scripts target (KnownType type) = refl
circle_by scripts target (Word number) = refl
circle_by scripts target (Variable home lasting tree init attrs) = refl
circle_by scripts target (Event signature) = refl
circle_by scripts target (Hook signature) = refl
circle_by scripts target (Function signature) = refl
circle_by scripts target (BuiltInFunction function) = refl
circle_by scripts target (Log function) = refl

-- a name leads back to itself where a search from what it mentions finds it
circle_here : (scripts : Scripts) (place : ℕ) (one : Declared) (found : Bool) → slice_get scripts.names place ≡ Some one →
    found ≡ list_any (led scripts one.name (length scripts.names)) (steps scripts.names place) → found ≡ is_circle scripts (slice_get scripts.names place)
circle_here scripts place one found at told =
    told ∙ ap (λ (x : Option Declared). list_any (led scripts one.name (length scripts.names)) (declared_steps scripts.names x)) at ∙ circle_by scripts one.name one.meant ∙ sym (ap (is_circle scripts) at)

at_lent : (items : List LentDeclared) (place : ℕ) (found : Option LentDeclared) → found ≡ slice_get items place → (scripts : Scripts) → scripts.names ≡ declared_lent items →
    slice_get scripts.names place ≡ option_map declared_of found
at_lent items place found at scripts e = ap (λ (x : List Declared). slice_get x place) e ∙ get_of_map declared_of items place ∙ ap (option_map declared_of) (sym at)

-- no name stands at a place
pub circle_absent : (items : List LentDeclared) (place : ℕ) → None ≡ slice_get items place → (scripts : Scripts) → scripts.names ≡ declared_lent items →
    false ≡ is_circle scripts (slice_get scripts.names place)
circle_absent items place at scripts e = sym (ap (is_circle scripts) (at_lent items place None at scripts e))

-- a name stands at a place, and a search began where it leads
pub circle_found : (items : List LentDeclared) (place : ℕ) (one : LentDeclared) (starts target : List ℕ) (found : Bool) → Some one ≡ slice_get items place → starts ≡ steps (declared_lent items) place → target ≡ one.name.items →
    ((scripts : Scripts) → scripts.names ≡ declared_lent items → found ≡ list_any (led scripts target (length scripts.names)) starts) →
    (scripts : Scripts) → scripts.names ≡ declared_lent items → found ≡ is_circle scripts (slice_get scripts.names place)
circle_found items place one starts target found at begun named told scripts e =
    circle_here scripts place (declared_of one) found (at_lent items place (Some one) at scripts e)
    (told scripts e ∙ ap (λ (x : List ℕ). list_any (led scripts x (length scripts.names)) starts) named ∙
    ap (list_any (led scripts one.name.items (length scripts.names))) (begun ∙ ap (λ (x : List Declared). steps x place) (sym e)))

-- Of all names ---------------------------------------------------------------------------------------------------------

-- whether each name leads back to itself, of as many names as were looked at
abbrev pub AreSeen : List Bool → List Declared → Type 0
AreSeen all names = (scripts : Scripts) → scripts.names ≡ names → (place : ℕ) (circle : Bool) → slice_get all place ≡ Some circle → circle ≡ is_circle scripts (slice_get names place)

pub first_seen : (names : List Declared) (all : List Bool) → all ≡ [] → (length all ≡ 0) × AreSeen all names
first_seen names all none = (ap length none, subst (λ (x : List Bool). AreSeen x names) (sym none) (λ scripts e place circle found. nowhere scripts place circle found))
  where
    nowhere : (scripts : Scripts) (place : ℕ) (circle : Bool) → slice_get {X = Bool} [] place ≡ Some circle → circle ≡ is_circle scripts (slice_get names place)
    nowhere scripts zero circle found = cc
    nowhere scripts (suc place) circle found = cc

pub more_seen : (names : List Declared) (old new : List Bool) (circle : Bool) (place : ℕ) → (length old ≡ place) × AreSeen old names →
    ((scripts : Scripts) → scripts.names ≡ names → circle ≡ is_circle scripts (slice_get scripts.names place)) → new ≡ old ++ circle ∷ [] → (length new ≡ place + 1) × AreSeen new names
more_seen names old new circle place before here pushed = (
  longer old new circle place before.0 pushed,
  subst (λ (x : List Bool). AreSeen x names) (sym pushed)
      (λ scripts e. all_more (λ (at : ℕ) (one : Bool). one ≡ is_circle scripts (slice_get names at)) old circle (before.1 scripts e)
      (here scripts e ∙ ap (λ (x : List Declared). is_circle scripts (slice_get x place)) e ∙ ap (λ (at : ℕ). is_circle scripts (slice_get names at)) (sym before.0))),
)

pub whole_circles : (items : List LentDeclared) (all : List Bool) → length all ≡ length items → AreSeen all (declared_lent items) → AreCircles all (declared_lent items)
whole_circles items all long seen scripts e place = by_found (slice_get all place) refl
  where
    by_found : (found : Option Bool) → slice_get all place ≡ found → mark_at all place ≡ is_circle scripts (slice_get (declared_lent items) place)
    by_found (Some circle) found = ap is_marked found ∙ seen scripts e place circle found
    by_found None found =
        let past : length (declared_lent items) ≤ place = omega (arith, past_end all place found, long, lent_length items) in
        ap is_marked found ∙ sym (ap (is_circle scripts) (none_past (declared_lent items) place past))

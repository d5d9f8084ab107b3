-- Names that stand for others, followed step by step.
use Rattle.std.proofs.Common.{◌≡◌, ℕ, suc, ◌-◌, ◌+◌, ◌<◌, true, List, Option, Some, None, is_some, slice_get, refl, ap, sym, ◌∙◌, arith, append-nil}
use Rattle.std.specs.Option.{option_and_then}
use Rattle.zk_tree.specs.declared.name.Name.{Name}
use Rattle.zk_tree.specs.declared.types.Type.{«Type»}
use Rattle.zk_tree.specs.declared.types.Type as tree
use Rattle.zk_tree.specs.Opening.{trees}
use Rattle.zk_typed.specs.Checked.{Checked, elsewhere}
use Rattle.zk_typed.specs.LoadOrder.{Home}
use Rattle.zk_typed.specs.Names.{Declared, Meant, KnownType, WrittenType, Word, Variable, Event, Hook, Function, BuiltInFunction, Log, look_up}
use Rattle.zk_typed.specs.Resolving.{Scripts, behind_names, followed, followed_to, formed, next_text}
use Rattle.zk_typed.specs.Types.{ValueType}
use Rattle.zk_typed.specs.Within.{maybe_one, mentions}
use Rattle.zk_scope.specs.Leading.{Text, declared_steps, next_of, place_up, places, steps, text_at, text_in, text_of}
use Rattle.zk_scope.proofs.LeadLaws.{up_found}

pub by_one : (scripts : Scripts) (home : Home) (tree : «Type») (left : ℕ) (next : Text) → next_text scripts home tree ≡ Some next → followed_to (suc left) scripts home tree ≡ followed_to left scripts next.0 next.1
by_one scripts home tree left next is = rw is refl

pub at_end : (scripts : Scripts) (home : Home) (tree : «Type») (left : ℕ) → next_text scripts home tree ≡ None → followed_to (suc left) scripts home tree ≡ Some (home, tree)
at_end scripts home tree left is = rw is refl

-- a name that stands for another is followed to it
follow_on : (scripts : Scripts) (now next : Text) (most step : ℕ) (end : Option Text) → step < suc most → next_text scripts now.0 now.1 ≡ Some next →
    followed_to (suc most - step) scripts now.0 now.1 ≡ end → followed_to (suc most - (step + 1)) scripts next.0 next.1 ≡ end
follow_on scripts now next most step end within is before =
    let left : suc most - step ≡ suc (suc most - (step + 1)) = omega arith in
    sym (ap (λ (n : ℕ). followed_to n scripts now.0 now.1) left ∙ by_one scripts now.0 now.1 (suc most - (step + 1)) next is) ∙ before

follow_end : (scripts : Scripts) (now : Text) (most step : ℕ) (end : Option Text) → step < suc most → next_text scripts now.0 now.1 ≡ None → followed_to (suc most - step) scripts now.0 now.1 ≡ end → Some now ≡ end
follow_end scripts now most step end within is before =
    let left : suc most - step ≡ suc (suc most - (step + 1)) = omega arith in
    sym (ap (λ (n : ℕ). followed_to n scripts now.0 now.1) left ∙ at_end scripts now.0 now.1 (suc most - (step + 1)) is) ∙ before

-- the declared type at a place is on the way from a text on, with so many steps left
abbrev pub IsOnWay : Scripts → ℕ → ℕ → Text → Type 0
IsOnWay scripts left place first = (now : Text) × (text_at scripts.names place ≡ Some now) × (followed_to left scripts now.0 now.1 ≡ followed scripts first.0 first.1)

is_there : {A : Type 0} (one : Option A) → is_some one ≡ true → (a : A) × (one ≡ Some a)
is_there None some = cc
is_there (Some a) some = (a, refl)

-- a step more
pub way_on : (scripts : Scripts) (most step place next : ℕ) (first : Text) → step < suc most → text_at scripts.names next ≡ next_of scripts (text_at scripts.names place) → is_some (text_at scripts.names next) ≡ true →
    IsOnWay scripts (suc most - step) place first → IsOnWay scripts (suc most - (step + 1)) next first
way_on scripts most step place next first within is some way =
    let there = is_there (text_at scripts.names next) some in
    let now = way.0 in
    let text = there.0 in
    (text, there.1, follow_on scripts now text most step (followed scripts first.0 first.1) within (sym (ap (next_of scripts) way.1) ∙ sym is ∙ there.1) way.2)

-- the end of the way
pub way_end : (scripts : Scripts) (most step place : ℕ) (first : Text) → step < suc most → None ≡ next_of scripts (text_at scripts.names place) → IsOnWay scripts (suc most - step) place first →
    text_at scripts.names place ≡ followed scripts first.0 first.1
way_end scripts most step place first within none way =
    let now = way.0 in
    way.1 ∙ follow_end scripts now most step (followed scripts first.0 first.1) within (sym (ap (next_of scripts) way.1) ∙ sym none) way.2

-- The name that a text is ---------------------------------------------------------------------------------------------

named_text : (names : List Declared) (place : Option ℕ) → option_and_then (text_at names) place ≡ text_of (option_and_then (slice_get names) place)
named_text names None = refl
named_text names (Some place) = refl

next_by : (scripts : Scripts) (home : Home) (name : Name) (one : Declared) (meant : Meant) → look_up scripts.names home.module_name name.text ≡ Some one → one.meant ≡ meant → next_text scripts home (tree.Named name) ≡ text_in meant
unfolding trees
next_by scripts home name one (WrittenType other inner) e means = rw (e, means) refl
next_by scripts home name one (KnownType type) e means = rw (e, means) refl
next_by scripts home name one (Word number) e means = rw (e, means) refl
next_by scripts home name one (Variable other lasting given init attrs) e means = rw (e, means) refl
next_by scripts home name one (Event signature) e means = rw (e, means) refl
next_by scripts home name one (Hook signature) e means = rw (e, means) refl
next_by scripts home name one (Function signature) e means = rw (e, means) refl
next_by scripts home name one (BuiltInFunction function) e means = rw (e, means) refl
next_by scripts home name one (Log function) e means = rw (e, means) refl

next_none : (scripts : Scripts) (home : Home) (name : Name) → look_up scripts.names home.module_name name.text ≡ None → next_text scripts home (tree.Named name) ≡ None
unfolding trees
next_none scripts home name e = rw e refl

next_in : (scripts : Scripts) (home : Home) (name : Name) (found : Option Declared) → look_up scripts.names home.module_name name.text ≡ found → next_text scripts home (tree.Named name) ≡ text_of found
next_in scripts home name None e = next_none scripts home name e
next_in scripts home name (Some one) e = next_by scripts home name one one.meant e refl

first_of_one : (place : Option ℕ) → slice_get (maybe_one place) 0 ≡ place
first_of_one None = refl
first_of_one (Some place) = refl

named_places : (names : List Declared) (from_module : List ℕ) (name : Name) → places names from_module (mentions (tree.Named name)) ≡ maybe_one (place_up names from_module name.text)
unfolding trees
named_places names from_module name = append-nil (maybe_one (place_up names from_module name.text))

steps_of : (names : List Declared) (found : Option Declared) (home : Home) (inner : «Type») → text_of found ≡ Some (home, inner) → declared_steps names found ≡ places names home.module_name (mentions inner)
steps_of names None home inner e = cc
steps_of names (Some one) home inner e = of_meant one.meant e
  where
    of_meant : (meant : Meant) → text_in meant ≡ Some (home, inner) → declared_steps names (Some (record { name = one.name; exported = one.exported; meant = meant })) ≡ places names home.module_name (mentions inner)
    of_meant (WrittenType other tree) e =
        let same : (other, tree) ≡ (home, inner) = cc in
        ap (λ (text : Text). places names text.0.module_name (mentions text.1)) same
    of_meant (KnownType type) e = cc
    of_meant (Word number) e = cc
    of_meant (Variable other lasting tree init attrs) e = cc
    of_meant (Event signature) e = cc
    of_meant (Hook signature) e = cc
    of_meant (Function signature) e = cc
    of_meant (BuiltInFunction function) e = cc
    of_meant (Log function) e = cc

-- a text that is a name stands for what stands where the name leads first
pub named_next : (scripts : Scripts) (place : ℕ) (home : Home) (name : Name) → text_at scripts.names place ≡ Some (home, tree.Named name) →
    option_and_then (text_at scripts.names) (slice_get (steps scripts.names place) 0) ≡ next_of scripts (text_at scripts.names place)
named_next scripts place home name is =
    let names = scripts.names in
    let up = place_up names home.module_name name.text in
    ap (λ (x : List ℕ). option_and_then (text_at names) (slice_get x 0)) (steps_of names (slice_get names place) home (tree.Named name) is ∙ named_places names home.module_name name) ∙
    ap (option_and_then (text_at names)) (first_of_one up) ∙ named_text names up ∙
    sym (ap (next_of scripts) is ∙ next_in scripts home name (option_and_then (slice_get names) up) (up_found names home.module_name name.text))

-- What stands behind names ----------------------------------------------------------------------------------------------

pub behind_end : (check : Home → «Type» → Checked ValueType) (scripts : Scripts) (text end : Text) → Some end ≡ followed scripts text.0 text.1 → behind_names check scripts text.0 text.1 ≡ formed check scripts end.0 end.1
behind_end check scripts text end is = rw (sym is) refl

pub behind_none : (check : Home → «Type» → Checked ValueType) (scripts : Scripts) (text : Text) → None ≡ followed scripts text.0 text.1 → behind_names check scripts text.0 text.1 ≡ elsewhere
behind_none check scripts text is = rw (sym is) refl

-- Names lead where the search over their places leads.
use Rattle.std.proofs.Common.{◌≡◌, ℕ, zero, suc, ◌+◌, ◌<◌, Bool, true, false, ◌&&◌, ◌||◌, List, [], ◌∷◌, ◌++◌, length, get_or, flat_map, nat_eq, Option, Some, None, slice_get, refl, ap, sym, ◌∙◌, arith, find, subst, ◌≤◌, take, fold, append-nil}
use Rattle.std.proofs.lemmas.List.{take_more}
use Rattle.indexmap.specs.IndexSet.{insert_key}
use Rattle.zk_tree.specs.declared.types.Type as tree
use Rattle.zk_scope.specs.declared.declared.Declared.{Declared as LentDeclared}
use Rattle.zk_scope.specs.Lent.{declared_lent}
use Rattle.zk_scope.proofs.StepLaws.{one_pass}
use Rattle.std.proofs.lemmas.Bool.{eq-eqb}
use Rattle.std.proofs.lemmas.List.Folds.{list_any-append}
use Rattle.std.specs.List.{list_any}
use Rattle.std.specs.Option.{option_and_then, option_map}
use Rattle.std.specs.Str.{bytes_eq}
use Rattle.zk_tree.specs.declared.name.Name.{Name}
use Rattle.zk_tree.specs.declared.types.Type.{«Type»}
use Rattle.zk_tree.specs.Opening.{trees}
use Rattle.zk_typed.specs.LoadOrder.{Home}
use Rattle.zk_typed.specs.Names.{Declared, Meant, KnownType, WrittenType, Word, Variable, Event, Hook, Function, BuiltInFunction, Log, first_of, is_open, look_up, whole_name}
use Rattle.zk_typed.specs.Resolving.{Scripts, leads_by, leads_to}
use Rattle.zk_typed.specs.Within.{maybe_one, mention, mentions}
use Rattle.zk_scope.specs.Indexing.{first_place, or_else}
use Rattle.zk_scope.specs.Leading.{declared_steps, has_name, is_target, led, meant_steps, mention_places, place_up, places, steps}
use Rattle.zk_scope.proofs.IndexLaws.{find_first}
use Rattle.zk_scope.proofs.SearchLaws.{Leading, mem}

found_by : (p : Declared → Bool) (x : Declared) (xs : List Declared) (i : ℕ) (b : Bool) → p x ≡ b →
    ((j : ℕ) → first_place p xs ≡ Some j → (one : Declared) × (slice_get xs j ≡ Some one)) → first_place p (x ∷ xs) ≡ Some i → (one : Declared) × (slice_get (x ∷ xs) i ≡ Some one)
found_by p x xs i true e h is =
    let zeroth : Some 0 ≡ Some i = rw e at is in
    let at : 0 ≡ i = cc in
    subst (λ (n : ℕ). (one : Declared) × (slice_get (x ∷ xs) n ≡ Some one)) at (x, refl)
found_by p x xs i false e h is =
    let later : option_map suc (first_place p xs) ≡ Some i = rw e at is in
    of_rest (first_place p xs) refl later
  where
    of_rest : (rest : Option ℕ) → first_place p xs ≡ rest → option_map suc rest ≡ Some i → (one : Declared) × (slice_get (x ∷ xs) i ≡ Some one)
    of_rest None q later = cc
    of_rest (Some j) q later =
        let at : suc j ≡ i = cc in
        subst (λ (n : ℕ). (one : Declared) × (slice_get (x ∷ xs) n ≡ Some one)) at (h j q)

is_found : (p : Declared → Bool) (xs : List Declared) (i : ℕ) → first_place p xs ≡ Some i → (one : Declared) × (slice_get xs i ≡ Some one)
is_found p [] i is = cc
is_found p (x ∷ xs) i is = found_by p x xs i (p x) refl (is_found p xs) is

first_found : (names : List Declared) (p q : Declared → Bool) (place : Option ℕ) → first_place p names ≡ place →
    first_of (option_and_then (slice_get names) place) (find q names) ≡ option_and_then (slice_get names) (or_else place (first_place q names))
first_found names p q None is = find_first q names
first_found names p q (Some place) is =
    let one = is_found p names place is in
    ap (λ found. first_of found (find q names)) one.1 ∙ sym one.1

-- what stands in the place of a name is what the name means
pub up_found : (names : List Declared) (from_module name : List ℕ) → look_up names from_module name ≡ option_and_then (slice_get names) (place_up names from_module name)
up_found names from_module name =
    let p : Declared → Bool = λ one. bytes_eq one.name (whole_name from_module name) && (one.exported || is_open from_module (whole_name from_module name)) in
    let q : Declared → Bool = λ one. bytes_eq one.name name && (one.exported || is_open from_module name) in
    ap (λ found. first_of found (find q names)) (find_first p names) ∙ first_found names p q (first_place p names) refl

-- a name leads as what it means leads
lead_by : (scripts : Scripts) (target : List ℕ) (most : ℕ) (place : Option ℕ) →
    leads_by (leads_to most scripts target) target (option_and_then (slice_get scripts.names) place) ≡ list_any (led scripts target most) (maybe_one place)
lead_by scripts target most None = refl
lead_by scripts target most (Some place) = sym (or_false (led scripts target most place))
  where
    or_false : (b : Bool) → (b || false) ≡ b
    or_false true = refl
    or_false false = refl

pub lead_up : (scripts : Scripts) (target : List ℕ) (most : ℕ) (home : Home) (name : Name) →
    leads_to (suc most) scripts target home name ≡ list_any (led scripts target most) (maybe_one (place_up scripts.names home.module_name name.text))
lead_up scripts target most home name =
    ap (leads_by (leads_to most scripts target) target) (up_found scripts.names home.module_name name.text) ∙ lead_by scripts target most (place_up scripts.names home.module_name name.text)

pub leads_up : (scripts : Scripts) (target : List ℕ) (most : ℕ) (home : Home) (mentioned : List Name) →
    list_any (leads_to (suc most) scripts target home) mentioned ≡ list_any (led scripts target most) (places scripts.names home.module_name mentioned)
leads_up scripts target most home [] = refl
leads_up scripts target most home (name ∷ others) =
    ap (λ (b : Bool). b || list_any (leads_to (suc most) scripts target home) others) (lead_up scripts target most home name) ∙
    ap (λ (b : Bool). list_any (led scripts target most) (maybe_one (place_up scripts.names home.module_name name.text)) || b) (leads_up scripts target most home others) ∙
    sym (list_any-append (led scripts target most) (maybe_one (place_up scripts.names home.module_name name.text)) (places scripts.names home.module_name others))

none_lead : (scripts : Scripts) (target : List ℕ) (home : Home) (mentioned : List Name) → list_any (leads_to 0 scripts target home) mentioned ≡ false
none_lead scripts target home [] = refl
none_lead scripts target home (name ∷ others) = none_lead scripts target home others

at_once : (scripts : Scripts) (target : List ℕ) (one : Option Declared) → leads_by (leads_to 0 scripts target) target one ≡ has_name target one
at_once scripts target None = refl
at_once scripts target (Some one) = of_meant one.meant (bytes_eq one.name target)
  where
    or_false : (b : Bool) → (b || false) ≡ b
    or_false true = refl
    or_false false = refl

    of_meant : (meant : Meant) (b : Bool) → leads_by (leads_to 0 scripts target) target (Some (record { name = one.name; exported = one.exported; meant = meant })) ≡ bytes_eq one.name target
    of_meant (WrittenType home tree) b = ap (λ (x : Bool). bytes_eq one.name target || x) (none_lead scripts target home (mentions tree)) ∙ or_false (bytes_eq one.name target)
    of_meant (KnownType type) b = or_false (bytes_eq one.name target)
    of_meant (Word number) b = or_false (bytes_eq one.name target)
    of_meant (Variable home lasting tree init attrs) b = or_false (bytes_eq one.name target)
    of_meant (Event signature) b = or_false (bytes_eq one.name target)
    of_meant (Hook signature) b = or_false (bytes_eq one.name target)
    of_meant (Function signature) b = or_false (bytes_eq one.name target)
    of_meant (BuiltInFunction function) b = or_false (bytes_eq one.name target)
    of_meant (Log function) b = or_false (bytes_eq one.name target)

by_step : (scripts : Scripts) (target : List ℕ) (most : ℕ) (one : Option Declared) →
    leads_by (leads_to (suc most) scripts target) target one ≡ (has_name target one || list_any (led scripts target most) (declared_steps scripts.names one))
by_step scripts target most None = refl
by_step scripts target most (Some one) = of_meant one.meant
  where
    of_meant : (meant : Meant) → leads_by (leads_to (suc most) scripts target) target (Some (record { name = one.name; exported = one.exported; meant = meant })) ≡
        (bytes_eq one.name target || list_any (led scripts target most) (meant_steps scripts.names meant))
    of_meant (WrittenType home tree) = ap (λ (x : Bool). bytes_eq one.name target || x) (leads_up scripts target most home (mentions tree))
    of_meant (KnownType type) = refl
    of_meant (Word number) = refl
    of_meant (Variable home lasting tree init attrs) = refl
    of_meant (Event signature) = refl
    of_meant (Hook signature) = refl
    of_meant (Function signature) = refl
    of_meant (BuiltInFunction function) = refl
    of_meant (Log function) = refl

pub lead_laws : (scripts : Scripts) (target : List ℕ) → Leading (λ m v. led scripts target m v) (is_target scripts.names target) (steps scripts.names)
lead_laws scripts target = record {
  at_once = λ v. at_once scripts target (slice_get scripts.names v);
  by_step = λ m v. by_step scripts target m (slice_get scripts.names v);
}

-- what is found at a place is there
pub at_place : (xs : List ℕ) (at v : ℕ) → slice_get xs at ≡ Some v → (at < length xs) × (v ≡ get_or xs at 0) × (mem v xs ≡ true)
at_place [] at v is = cc
at_place (x ∷ xs) zero v is =
    let e : x ≡ v = cc in
    (omega arith, sym e, or_left (nat_eq v x) (mem v xs) (eq-eqb v x (sym e)))
  where
    or_left : (a b : Bool) → a ≡ true → (a || b) ≡ true
    or_left a b h = rw h refl
at_place (x ∷ xs) (suc at) v is =
    let rest = at_place xs at v is in
    (omega (arith, rest.0), rest.1, or_right (nat_eq v x) (mem v xs) rest.2)
  where
    or_right : (a b : Bool) → b ≡ true → (a || b) ≡ true
    or_right true b h = refl
    or_right false b h = h

-- past the end there is nothing
pub past_all : (xs : List ℕ) (at : ℕ) → None ≡ slice_get xs at → length xs ≤ at
past_all [] at none = omega arith
past_all (x ∷ xs) zero none = cc
past_all (x ∷ xs) (suc at) none = omega (arith, past_all xs at none)

pub laws_of : (scripts : Scripts) (names : List Declared) (target : List ℕ) → scripts.names ≡ names → Leading (λ m v. led scripts target m v) (is_target names target) (steps names)
laws_of scripts names target e = subst (λ (names : List Declared). Leading (λ m v. led scripts target m v) (is_target names target) (steps names)) e (lead_laws scripts target)

-- as many names are lent as stand for them
pub lent_length : (items : List LentDeclared) → length (declared_lent items) ≡ length items
lent_length [] = refl
lent_length (one ∷ others) = ap suc (lent_length others)

pub as_long : (scripts : Scripts) (items : List LentDeclared) → scripts.names ≡ declared_lent items → length scripts.names ≡ length items
as_long scripts items e = ap length e ∙ lent_length items

pub fold_on : (ks xs : List ℕ) (at x : ℕ) → at < length xs → fold (insert_key nat_eq) ks (take (at + 1) xs) ≡ insert_key nat_eq (fold (insert_key nat_eq) ks (take at xs)) (get_or xs at x)
fold_on ks xs at x within = ap (fold (insert_key nat_eq) ks) (take_more xs at x within) ∙ fold_more ks (take at xs) (get_or xs at x)
  where
    fold_more : (ks ys : List ℕ) (y : ℕ) → fold (insert_key nat_eq) ks (ys ++ y ∷ []) ≡ insert_key nat_eq (fold (insert_key nat_eq) ks ys) y
    fold_more ks [] y = refl
    fold_more ks (z ∷ zs) y = fold_more (insert_key nat_eq ks z) zs y

-- a name is the one that it mentions
pub mentioning : (names : List Declared) (from_module : List ℕ) (name : Name) → mention_places names from_module (tree.Named name) ≡ maybe_one (place_up names from_module name.text)
unfolding trees
mentioning names from_module name = append-nil (maybe_one (place_up names from_module name.text))

-- where the types within a type lead
pub all_mentions : (names : List Declared) (from_module : List ℕ) (trees : List «Type») → flat_map (mention_places names from_module) trees ≡ places names from_module (flat_map mention trees)
all_mentions names from_module trees = sym (one_pass mention (λ name. maybe_one (place_up names from_module name.text)) trees)

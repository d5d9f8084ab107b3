-- A type that is broken has a rule that is told: where none is told, each type is one.
use Rattle.std.proofs.Common.{◌≡◌, ◌≢◌, ◌≤◌, inl, inr, length, ℕ, zero, suc, not, subst, bytes_eq, Bool, true, false, List, [], ◌∷◌, ◌++◌, Option, Some, None, Ok, Err, refl, sym, ap, ◌∙◌, arith}
use Rattle.std.specs.Prelude.{◌||◌, if◌then◌else◌, is_some}
use Rattle.std.specs.List.{AllByRecursion, list_any, list_all}
use Rattle.std.proofs.lemmas.Bool.{and_parts}
use Rattle.std.proofs.lemmas.List.Folds.{list_any-append}
use Rattle.std.proofs.lemmas.Slice.Eq.{bytes_eq-Decides}
use Rattle.zk_tree.specs.declared.decl.BodyKind.TheVariants as body
use Rattle.zk_tree.specs.declared.decl.Decl.{Decl, out-Decl}
use Rattle.zk_tree.specs.declared.decl.Decl.TheOpen.{Decl-F}
use Rattle.zk_tree.specs.declared.decl.Decl.TheOpen as decl
use Rattle.zk_tree.specs.declared.decl.Lasting.{Lasting}
use Rattle.zk_tree.specs.declared.name.Name.{Name}
use Rattle.zk_tree.specs.declared.place.Place.{Place}
use Rattle.zk_tree.specs.declared.stmt.Init.{Init}
use Rattle.zk_tree.specs.declared.types.Attr.{Attr}
use Rattle.zk_tree.specs.declared.types.Field.{Field}
use Rattle.zk_tree.specs.declared.types.Param.{Param}
use Rattle.zk_tree.specs.declared.types.Type.{«Type», out-Type, Named}
use Rattle.zk_tree.specs.declared.types.Type.TheOpen.{Type-F}
use Rattle.zk_tree.specs.declared.types.Type.TheOpen as written
use Rattle.zk_tree.specs.Places.{type_place}
use Rattle.zk_typed.specs.declared.rule.Rule.TheVariants as rule
use Rattle.zk_typed.specs.declared.script.types.SimpleType.{SimpleType}
use Rattle.zk_typed.specs.declared.refusal.Broken.{Broken}
use Rattle.zk_typed.specs.Checked.{Checked, broken, elsewhere, ◌>>=◌, both, each, require, rules_of}
use Rattle.zk_typed.specs.Declarations.{is_too_deep, parts_rules, type_rules, recursive_rules}
use Rattle.zk_typed.specs.Declaring.{predefined_names, variable_meaning, outright_of, in_module, is_foreign, by_body, scripts_of_stated, scripts_of}
use Rattle.zk_typed.specs.Errors.{is_told_before, placed, by_place, decl_rules, declares, declared_before, twice_rules, errors_of, errors_from, errors}
use Rattle.zk_typed.specs.LoadOrder.{File, Home, Stated, load_order}
use Rattle.zk_typed.specs.Names.{Declared, Meant, KnownType, WrittenType, Word, Event, Hook, Function, Written, declare, whole_name, look_up, find_whole, first_of}
use Rattle.zk_typed.specs.Resolving.{Scripts, place_in, is_deep, unless_deep, named_type, leads_to, leads, as_key, next_text, followed_to, followed, known_type, formed, behind_names, type_to, type_of}
use Rattle.zk_typed.specs.Types.{ValueType, Simple}
use Rattle.zk_typed.specs.Within.{mentions}
use Rattle.zk_sound.proofs.Growth.{all_map}
use Rattle.zk_sound.specs.Agreeing.{AreApart}
use Rattle.zk_sound.proofs.Among.{Among, all_among}
use Rattle.zk_sound.proofs.Names.{OutrightAre, BodiesAre, all_by_each, all_unless, found_among, names_all}
use Rattle.zk_sound.proofs.Tables.{all_find}

-- What is told ---------------------------------------------------------------------------------------------------------

-- what is broken has a rule that is told
abbrev pub Tells : {A : Type 0} → Checked A → Type 0
Tells (Ok a) = Unit {0}
Tells (Err []) = ⊥
Tells (Err (one ∷ rules)) = Unit {0}

tells_as : (A B : Type 0) (rules : List Broken) → Tells {A = A} (Err rules) → Tells {A = B} (Err rules)
tells_as A B [] h = absurd h
tells_as A B (one ∷ rules) h = tt

tells_both : {A B : Type 0} (a : Checked A) (b : Checked B) → Tells a → Tells b → Tells (both a b)
tells_both (Ok a) (Ok b) h k = tt
tells_both {A = A} {B = B} (Ok a) (Err rules) h k = tells_as B (A × B) rules k
tells_both (Err []) b h k = absurd h
tells_both (Err (one ∷ rules)) b h k = tt

tells_bind : {A B : Type 0} (m : Checked A) (next : A → Checked B) → Tells m → ((a : A) → Tells (next a)) → Tells (m >>= next)
tells_bind (Ok a) next h more = more a
tells_bind {A = A} {B = B} (Err rules) next h more = tells_as A B rules h

pub tells_each : {A B : Type 0} (check : A → Checked B) → ((a : A) → Tells (check a)) → (ones : List A) → Tells (each check ones)
tells_each check h [] = tt
tells_each check h (one ∷ ones) = tells_bind (both (check one) (each check ones)) (λ parts. Ok (parts.0 ∷ parts.1)) (tells_both (check one) (each check ones) (h one) (tells_each check h ones)) (λ parts. tt)

-- where none is told, what tells is right
pub right_told : {A : Type 0} (m : Checked A) → Tells m → rules_of m ≡ [] → (a : A) × (m ≡ Ok a)
right_told (Ok a) h e = (a, refl)
right_told (Err []) h e = absurd h
right_told (Err (one ∷ rules)) h e = absurd cc

-- what is broken in a part is broken in the whole
pub untold_both : {A B : Type 0} (a : Checked A) (b : Checked B) → rules_of (both a b) ≡ [] → (rules_of a ≡ []) × (rules_of b ≡ [])
untold_both (Ok a) (Ok b) e = (refl, refl)
untold_both (Ok a) (Err rules) e = (refl, e)
untold_both (Err []) b e = (refl, e)
untold_both (Err (one ∷ rules)) b e = absurd cc

pub untold_bind : {A B : Type 0} (m : Checked A) (next : A → Checked B) → rules_of (m >>= next) ≡ [] → rules_of m ≡ []
untold_bind (Ok a) next e = refl
untold_bind (Err rules) next e = e

-- Marks ----------------------------------------------------------------------------------------------------------------

-- what is broken isn't so for its depth
abbrev Unmarked : {A : Type 0} → Checked A → Type 0
Unmarked (Ok a) = Unit {0}
Unmarked (Err rules) = list_any is_deep rules ≡ false

neither : (a b : Bool) → (a || b) ≡ false → (a ≡ false) × (b ≡ false)
neither true b e = absurd cc
neither false b e = (refl, e)

unmarked_both : {A B : Type 0} (a : Checked A) (b : Checked B) → Unmarked (both a b) → Unmarked a × Unmarked b
unmarked_both (Ok a) (Ok b) h = (tt, tt)
unmarked_both (Ok a) (Err rules) h = (tt, h)
unmarked_both (Err rules) b h = let parts = neither (list_any is_deep rules) (list_any is_deep (rules_of b)) (sym (list_any-append is_deep rules (rules_of b)) ∙ h) in (parts.0, by b parts.1)
  where
    by : {B : Type 0} (b : Checked B) → list_any is_deep (rules_of b) ≡ false → Unmarked b
    by (Ok b) e = tt
    by (Err rules) e = e

unmarked_bind : {A B : Type 0} (m : Checked A) (next : A → Checked B) → Unmarked (m >>= next) → Unmarked m
unmarked_bind (Ok a) next h = tt
unmarked_bind (Err rules) next h = h

unmarked_each : {A B : Type 0} (check : A → Checked B) (one : A) (ones : List A) → Unmarked (each check (one ∷ ones)) → Unmarked (check one) × Unmarked (each check ones)
unmarked_each check one ones h = unmarked_both (check one) (each check ones) (unmarked_bind (both (check one) (each check ones)) (λ parts. Ok (parts.0 ∷ parts.1)) h)

same_each : {A B : Type 0} (check other : A → Checked B) → ((one : A) → Unmarked (check one) → other one ≡ check one) → (ones : List A) → Unmarked (each check ones) → each other ones ≡ each check ones
same_each check other same [] h = refl
same_each check other same (one ∷ ones) h =
    let parts = unmarked_each check one ones h in
    let first : other one ≡ check one = same one parts.0 in
    let rest : each other ones ≡ each check ones = same_each check other same ones parts.1 in
    rw (first, rest) refl

-- something is no nothing
some_none : {A : Type 0} (a : A) → Some a ≡ None → ⊥
some_none a e = cc

-- Lists that are apart -------------------------------------------------------------------------------------------------

without : (one : Declared) (names : List Declared) → Among one names → List Declared
without one [] h = absurd h
without one (other ∷ names) (inl is) = names
without one (other ∷ names) (inr more) = other ∷ without one names more

without_less : (one : Declared) (names : List Declared) (h : Among one names) → length names ≡ suc (length (without one names h))
unfolding without
without_less one [] h = absurd h
without_less one (other ∷ names) (inl is) = refl
without_less one (other ∷ names) (inr more) = ap suc (without_less one names more)

still_among : (one other : Declared) (names : List Declared) (h : Among one names) → one.name ≢ other.name → Among other names → Among other (without one names h)
unfolding without
still_among one other [] h differ k = absurd h
still_among one other (first ∷ names) (inl is) differ (inl same) = absurd (differ (ap (λ (d : Declared). d.name) (sym is ∙ same)))
still_among one other (first ∷ names) (inl is) differ (inr more) = more
still_among one other (first ∷ names) (inr h) differ (inl same) = inl same
still_among one other (first ∷ names) (inr h) differ (inr more) = inr (still_among one other names h differ more)

-- names that are apart and all among others are no more than these
apart_fit : (ones names : List Declared) → AreApart ones → AllByRecursion (λ one. Among one names) ones → length ones ≤ length names
apart_fit [] names apart all = omega arith
apart_fit (one ∷ ones) names apart all =
    let less = without_less one names all.0 in
    let rest = apart_fit ones (without one names all.0) apart.1 (still ones apart.0 all.1) in
    omega (arith, less, rest)
  where
    still : (others : List Declared) → AllByRecursion (λ other. one.name ≢ other.name) others → AllByRecursion (λ other. Among other names) others → AllByRecursion (λ other. Among other (without one names all.0)) others
    still [] differ among = tt
    still (other ∷ others) differ among = (still_among one other names all.0 differ.0 among.0, still others differ.1 among.1)

-- Depth ----------------------------------------------------------------------------------------------------------------

-- a type behind a name, which isn't told there where it isn't too deep
deep_same : (place : Place) (m other : Checked ValueType) → (Unmarked m → other ≡ m) → Unmarked (unless_deep place m) → unless_deep place other ≡ unless_deep place m
deep_same place (Ok of) other same h = ap (unless_deep place) (same tt)
deep_same place (Err rules) other same h = by (list_any is_deep rules) refl h
  where
    by : (deep : Bool) → list_any is_deep rules ≡ deep → Unmarked (if deep then broken {A = ValueType} rule.Recursive place else elsewhere) → unless_deep place other ≡ unless_deep place (Err rules)
    by true e h = absurd cc
    by false e h = ap (unless_deep place) (same e)

module _ (scripts : Scripts) where
  named_same : (check other : Home → «Type» → Checked ValueType) → ((home : Home) (tree : «Type») → Unmarked (check home tree) → other home tree ≡ check home tree)
      → (place : Place) (one : Option Declared) → Unmarked (named_type check scripts place one) → named_type other scripts place one ≡ named_type check scripts place one
  named_same check other same place None h = refl
  named_same check other same place (Some one) h = of_meant one.meant one h
    where
      by : (home : Home) (tree : «Type») (led : Bool) → Unmarked (elim led [ true ↦ elsewhere {A = ValueType} | false ↦ unless_deep place (check home tree) ])
          → ◌≡◌ {A = Checked ValueType} (elim led [ true ↦ elsewhere | false ↦ unless_deep place (other home tree) ]) (elim led [ true ↦ elsewhere | false ↦ unless_deep place (check home tree) ])
      by home tree true h = refl
      by home tree false h = deep_same place (check home tree) (other home tree) (same home tree) h

      of_meant : (meant : Meant) (one : Declared) → Unmarked (named_type check scripts place (Some (record one { meant = meant })))
          → named_type other scripts place (Some (record one { meant = meant })) ≡ named_type check scripts place (Some (record one { meant = meant }))
      of_meant (WrittenType home tree) one h = by home tree (list_any (leads scripts one.name home) (mentions tree)) h
      of_meant meant one h = refl

  key_same : (home : Home) (check other : Home → «Type» → Checked ValueType) → ((tree : «Type») → Unmarked (check home tree) → other home tree ≡ check home tree)
      → (one : «Type») → Unmarked (check home one >>= as_key (place_in home (type_place one))) → (other home one >>= as_key (place_in home (type_place one))) ≡ (check home one >>= as_key (place_in home (type_place one)))
  key_same home check other same one h = ap (λ (m : Checked ValueType). m >>= as_key (place_in home (type_place one))) (same one (unmarked_bind (check home one) (as_key (place_in home (type_place one))) h))

  -- a type by its parts
  formed_same : (check other : Home → «Type» → Checked ValueType) → ((home : Home) (tree : «Type») → Unmarked (check home tree) → other home tree ≡ check home tree)
      → (home : Home) (tree : «Type») → Unmarked (formed check scripts home tree) → formed other scripts home tree ≡ formed check scripts home tree
  formed_same check other same home tree h = by (out-Type tree) refl
    where
      key : (Home → «Type» → Checked ValueType) → «Type» → Checked SimpleType
      key check one = check home one >>= as_key (place_in home (type_place one))

      keys_same : (keys : List «Type») → Unmarked (each (key check) keys) → each (key other) keys ≡ each (key check) keys
      keys_same = same_each (key check) (key other) (key_same home check other (same home))

      by : (form : Type-F «Type» Field Param) → out-Type tree ≡ form → formed other scripts home tree ≡ formed check scripts home tree
      by (written.Table place keys value) is =
          let whole : Unmarked (both (each (key check) keys) (check home value)) = unmarked_bind (both (each (key check) keys) (check home value)) _ (rw is at h) in
          let parts = unmarked_both (each (key check) keys) (check home value) whole in
          let first : each (key other) keys ≡ each (key check) keys = keys_same keys parts.0 in
          let second : other home value ≡ check home value = same home value parts.1 in
          rw is (rw (first, second) refl)
      by (written.Set place keys) is =
          let whole : Unmarked (each (key check) keys) = unmarked_bind (each (key check) keys) _ (rw is at h) in
          let first : each (key other) keys ≡ each (key check) keys = keys_same keys whole in
          rw is (rw first refl)
      by (written.Vector place item) is =
          let whole : Unmarked (check home item) = unmarked_bind (check home item) _ (rw is at h) in
          let first : other home item ≡ check home item = same home item whole in
          rw is (rw first refl)
      by form is = rw is refl

  -- what stands behind names
  behind_same : (check other : Home → «Type» → Checked ValueType) → ((home : Home) (tree : «Type») → Unmarked (check home tree) → other home tree ≡ check home tree)
      → (home : Home) (tree : «Type») → Unmarked (behind_names check scripts home tree) → behind_names other scripts home tree ≡ behind_names check scripts home tree
  behind_same check other same home tree h = by (followed scripts home tree) refl
    where
      by : (end : Option (Home × «Type»)) → followed scripts home tree ≡ end → behind_names other scripts home tree ≡ behind_names check scripts home tree
      by None is = rw is refl
      by (Some end) is = rw is (formed_same check other same end.0 end.1 (rw is at h))

  -- a level deeper
  deeper_same : (depth more : ℕ) → ((home : Home) (tree : «Type») → Unmarked (type_to depth scripts home tree) → type_to more scripts home tree ≡ type_to depth scripts home tree)
      → (home : Home) (tree : «Type») → Unmarked (type_to (suc depth) scripts home tree) → type_to (suc more) scripts home tree ≡ type_to (suc depth) scripts home tree
  deeper_same depth more same home tree h = by (out-Type tree) refl
    where
      by : (form : Type-F «Type» Field Param) → out-Type tree ≡ form → type_to (suc more) scripts home tree ≡ type_to (suc depth) scripts home tree
      by (written.Named name) is = rw is (named_same (behind_names (type_to depth scripts) scripts) (behind_names (type_to more scripts) scripts) (behind_same (type_to depth scripts) (type_to more scripts) same)
          (place_in home name.place) (look_up scripts.names home.module_name name.text) (rw is at h))
      by form is = rw is (formed_same (type_to depth scripts) (type_to more scripts) same home tree (rw is at h))

  -- a type that isn't too deep is the same at each greater depth
  depth_same : (depth more : ℕ) → depth ≤ more → (home : Home) (tree : «Type») → Unmarked (type_to depth scripts home tree) → type_to more scripts home tree ≡ type_to depth scripts home tree
  depth_same zero more within home tree h = absurd cc
  depth_same (suc depth) zero within home tree h = absurd (omega arith)
  depth_same (suc depth) (suc more) within home tree h = deeper_same depth more (depth_same depth more (omega arith)) home tree h

  -- Names that stand for texts ---------------------------------------------------------------------------------------

  -- the next text is that of a declared type which the name means
  pub record Next (home : Home) (tree : «Type») (next : Home × «Type») : Type 0 where
    pub name : Name
    pub one : Declared
    pub named : out-Type tree ≡ written.Named name
    pub found : look_up scripts.names home.module_name name.text ≡ Some one
    pub means : one.meant ≡ WrittenType next.0 next.1

  pub next_is : (home : Home) (tree : «Type») (next : Home × «Type») → next_text scripts home tree ≡ Some next → Next home tree next
  next_is home tree next is = by (out-Type tree) refl
    where
      of_meant : (meant : Meant) (name : Name) (one : Declared) → out-Type tree ≡ written.Named name → look_up scripts.names home.module_name name.text ≡ Some one → one.meant ≡ meant → Next home tree next
      of_meant (WrittenType other inner) name one named found means =
          let told : Some (other, inner) ≡ Some next = rw (named, found, means) at is in
          let same : (other, inner) ≡ next = cc in
          record { name = name; one = one; named = named; found = found; means = means ∙ ap (λ (pair : Home × «Type»). WrittenType pair.0 pair.1) same }
      of_meant meant name one named found means = let told : None ≡ Some next = rw (named, found, means) at is in absurd cc

      of_found : (found : Option Declared) (name : Name) → out-Type tree ≡ written.Named name → look_up scripts.names home.module_name name.text ≡ found → Next home tree next
      of_found None name named found = let told : None ≡ Some next = rw (named, found) at is in absurd cc
      of_found (Some one) name named found = of_meant one.meant name one named found refl

      by : (form : Type-F «Type» Field Param) → out-Type tree ≡ form → Next home tree next
      by (written.Named name) named = of_found (look_up scripts.names home.module_name name.text) name named refl
      by form named = let told : None ≡ Some next = rw named at is in absurd cc

  -- Types tell -----------------------------------------------------------------------------------------------------------

  -- a declared type is told where it is broken, and doesn't lead back to itself
  abbrev WellWritten : Declared → Type 0
  WellWritten one = (home : Home) (tree : «Type») → one.meant ≡ WrittenType home tree → (rules_of (type_of scripts home tree) ≡ []) × (list_any (leads scripts one.name home) (mentions tree) ≡ false)

  module _ (well : AllByRecursion WellWritten scripts.names) where
    named_well : (module_name name : List ℕ) (one : Declared) → look_up scripts.names module_name name ≡ Some one → WellWritten one
    named_well module_name name one is = by (find_whole scripts.names module_name (whole_name module_name name)) refl is
      where
        by : (found : Option Declared) → find_whole scripts.names module_name (whole_name module_name name) ≡ found → first_of found (find_whole scripts.names module_name name) ≡ Some one → WellWritten one
        by None e is = all_find WellWritten _ scripts.names one is well
        by (Some other) e is = all_find WellWritten _ scripts.names one (e ∙ is) well

    deep_tells : (place : Place) (m : Checked ValueType) → Tells m → (Unmarked m → rules_of m ≡ []) → Tells (unless_deep place m)
    deep_tells place (Ok of) h untold = tt
    deep_tells place (Err rules) h untold = by (list_any is_deep rules) refl
      where
        never : (rules : List Broken) → Tells {A = ValueType} (Err rules) → rules ≡ [] → ⊥
        never [] h e = h
        never (one ∷ rules) h e = cc

        by : (deep : Bool) → list_any is_deep rules ≡ deep → Tells (if deep then broken {A = ValueType} rule.Recursive place else elsewhere)
        by true e = tt
        by false e = never rules h (untold e)

    -- Names that stand for others ------------------------------------------------------------------------------------

    -- the declared types that a text passes when it is followed so far
    passed_to : ℕ → Home → «Type» → List Declared
    passed_to zero home tree = []
    passed_to (suc most) home tree = of_form (passed_to most) (out-Type tree)
      where
        of_meant : (Home → «Type» → List Declared) → Declared → Meant → List Declared
        of_meant pass one (WrittenType other inner) = one ∷ pass other inner
        of_meant pass one meant = []

        of_found : (Home → «Type» → List Declared) → Option Declared → List Declared
        of_found pass None = []
        of_found pass (Some one) = of_meant pass one one.meant

        of_form : (Home → «Type» → List Declared) → Type-F «Type» Field Param → List Declared
        of_form pass (written.Named name) = of_found pass (look_up scripts.names home.module_name name.text)
        of_form pass form = []

    abbrev is_named : Type-F «Type» Field Param → Bool
    is_named (written.Named name) = true
    is_named form = false

    mentions_named : (tree : «Type») (name : Name) → out-Type tree ≡ written.Named name → mentions tree ≡ name ∷ []
    unfolding out-Type denote.Hole.Carrier.out
    mentions_named (Named other) name is = let same : other ≡ name = cc in ap (λ (n : Name). n ∷ []) same
    mentions_named tree name is = absurd (no_name (ap is_named is))
      where
        no_name : false ≡ true → ⊥
        no_name e = cc

    passed_next : (most : ℕ) (home : Home) (tree : «Type») (next : Home × «Type») (is : Next home tree next) → passed_to (suc most) home tree ≡ is.one ∷ passed_to most next.0 next.1
    unfolding passed_to
    passed_next most home tree next is = rw (is.named, is.found, is.means) refl

    passed_none : (most : ℕ) (home : Home) (tree : «Type») → next_text scripts home tree ≡ None → passed_to (suc most) home tree ≡ []
    unfolding passed_to
    passed_none most home tree is = by (out-Type tree) refl
      where
        of_meant : (meant : Meant) (name : Name) (one : Declared) → out-Type tree ≡ written.Named name → look_up scripts.names home.module_name name.text ≡ Some one → one.meant ≡ meant → passed_to (suc most) home tree ≡ []
        of_meant (WrittenType other inner) name one named found means = let told : Some (other, inner) ≡ None = rw (named, found, means) at is in absurd (some_none (other, inner) told)
        of_meant meant name one named found means = rw (named, found, means) refl

        of_found : (found : Option Declared) (name : Name) → out-Type tree ≡ written.Named name → look_up scripts.names home.module_name name.text ≡ found → passed_to (suc most) home tree ≡ []
        of_found None name named found = rw (named, found) refl
        of_found (Some one) name named found = of_meant one.meant name one named found refl

        by : (form : Type-F «Type» Field Param) → out-Type tree ≡ form → passed_to (suc most) home tree ≡ []
        by (written.Named name) named = of_found (look_up scripts.names home.module_name name.text) name named refl
        by form named = rw named refl

    -- what is passed leads on, so it has no name to which nothing leads
    reached : (most fuel : ℕ) → most ≤ fuel → (target : List ℕ) (home : Home) (tree : «Type») → list_any (leads_to fuel scripts target home) (mentions tree) ≡ false
        → AllByRecursion (λ one. target ≢ one.name) (passed_to most home tree)
    unfolding passed_to
    reached zero fuel within target home tree never = tt
    reached (suc most) zero within target home tree never = absurd (omega arith)
    reached (suc most) (suc fuel) within target home tree never = by (next_text scripts home tree) refl (λ home tree h. reached most fuel (omega arith) target home tree h)
      where
        Later : Type 0
        Later = (home : Home) (tree : «Type») → list_any (leads_to fuel scripts target home) (mentions tree) ≡ false → AllByRecursion (λ one. target ≢ one.name) (passed_to most home tree)

        by : (next : Option (Home × «Type»)) → next_text scripts home tree ≡ next → Later → AllByRecursion (λ one. target ≢ one.name) (passed_to (suc most) home tree)
        by None is later = rw (passed_none most home tree is) tt
        by (Some next) is later =
            let step = next_is home tree next is in
            let led : (leads_to (suc fuel) scripts target home step.name || false) ≡ false = rw (mentions_named tree step.name step.named) at never in
            let parts : (bytes_eq step.one.name target ≡ false) × (list_any (leads_to fuel scripts target next.0) (mentions next.1) ≡ false) =
            neither (bytes_eq step.one.name target) (list_any (leads_to fuel scripts target next.0) (mentions next.1)) (rw (step.found, step.means) at (neither (leads_to (suc fuel) scripts target home step.name) false led).0) in
            rw (passed_next most home tree next step) ((λ same. other (sym parts.0 ∙ (bytes_eq-Decides step.one.name target).1 (sym same))), later next.0 next.1 parts.1)
          where
            other : false ≡ true → ⊥
            other e = cc

    -- so what is passed is apart
    passed_apart : (most : ℕ) → most ≤ suc (length scripts.names) → (home : Home) (tree : «Type») → AreApart (passed_to most home tree) × AllByRecursion (λ one. Among one scripts.names) (passed_to most home tree)
    unfolding passed_to
    passed_apart zero within home tree = (tt, tt)
    passed_apart (suc most) within home tree = by (next_text scripts home tree) refl (λ home tree. passed_apart most (omega arith) home tree)
      where
        Later : Type 0
        Later = (home : Home) (tree : «Type») → AreApart (passed_to most home tree) × AllByRecursion (λ one. Among one scripts.names) (passed_to most home tree)

        by : (next : Option (Home × «Type»)) → next_text scripts home tree ≡ next → Later → AreApart (passed_to (suc most) home tree) × AllByRecursion (λ one. Among one scripts.names) (passed_to (suc most) home tree)
        by None is later = rw (passed_none most home tree is) (tt, tt)
        by (Some next) is later =
            let step = next_is home tree next is in
            let rest = later next.0 next.1 in
            let never = (named_well home.module_name step.name.text step.one step.found next.0 next.1 step.means).1 in
            rw (passed_next most home tree next step) (
              (reached most (suc (length scripts.names)) (omega arith) step.one.name next.0 next.1 never, rest.0),
              (found_among (λ one. Among one scripts.names) scripts.names (all_among scripts.names) home.module_name step.name.text step.one step.found, rest.1),
            )

    passed_all : (most : ℕ) (home : Home) (tree : «Type») → followed_to most scripts home tree ≡ None → length (passed_to most home tree) ≡ most
    unfolding passed_to
    passed_all zero home tree is = refl
    passed_all (suc most) home tree is = by (next_text scripts home tree) refl (λ home tree h. passed_all most home tree h)
      where
        by : (next : Option (Home × «Type»)) → next_text scripts home tree ≡ next → ((home : Home) (tree : «Type») → followed_to most scripts home tree ≡ None → length (passed_to most home tree) ≡ most) → length (passed_to (suc most) home tree) ≡ suc most
        by None e later = let told : Some (home, tree) ≡ None = rw e at is in absurd (some_none (home, tree) told)
        by (Some next) e later = rw (passed_next most home tree next (next_is home tree next e)) (ap suc (later next.0 next.1 (rw e at is)))

    -- a text is followed to its end
    never_lost : (home : Home) (tree : «Type») → followed scripts home tree ≡ None → ⊥
    never_lost home tree is =
        let many = passed_all (suc (length scripts.names)) home tree is in
        let parts = passed_apart (suc (length scripts.names)) (omega arith) home tree in
        let few = apart_fit (passed_to (suc (length scripts.names)) home tree) scripts.names parts.0 parts.1 in
        omega (arith, many, few)

    -- where a text ends that is followed
    record EndsWell (end : Home × «Type») : Type 0 where
      last : next_text scripts end.0 end.1 ≡ None
      untold : rules_of (type_of scripts end.0 end.1) ≡ []

    followed_well : (most : ℕ) (home : Home) (tree : «Type») (end : Home × «Type») → rules_of (type_of scripts home tree) ≡ [] → followed_to most scripts home tree ≡ Some end → EndsWell end
    followed_well zero home tree end told is = absurd cc
    followed_well (suc most) home tree end told is = by (next_text scripts home tree) refl (λ home tree told is. followed_well most home tree end told is)
      where
        by : (next : Option (Home × «Type»)) → next_text scripts home tree ≡ next → ((home : Home) (tree : «Type») → rules_of (type_of scripts home tree) ≡ [] → followed_to most scripts home tree ≡ Some end → EndsWell end) → EndsWell end
        by None e later =
            let here : Some (home, tree) ≡ Some end = rw e at is in
            let same : (home, tree) ≡ end = cc in
            subst EndsWell same (record { last = e; untold = told })
        by (Some next) e later =
            let step = next_is home tree next e in
            later next.0 next.1 (named_well home.module_name step.name.text step.one step.found next.0 next.1 step.means).0 (rw e at is)

    -- Types tell by their parts --------------------------------------------------------------------------------------

    module _ (depth : ℕ) (less : depth ≤ 199) (tells : (home : Home) (tree : «Type») → Tells (type_to depth scripts home tree)) where
      as_key_tells : (place : Place) (of : ValueType) → Tells (as_key place of)
      as_key_tells place (Simple of) = tt
      as_key_tells place of = tt

      -- where no name in front stands for a text
      known_tells : (place : Place) (found : Option Declared) → ((one : Declared) (home : Home) (tree : «Type») → found ≡ Some one → one.meant ≡ WrittenType home tree → ⊥) → Tells (known_type place found)
      known_tells place None never = tt
      known_tells place (Some one) never = of_meant one.meant one (λ home tree is. never one home tree refl is)
        where
          of_meant : (meant : Meant) (one : Declared) → ((home : Home) (tree : «Type») → meant ≡ WrittenType home tree → ⊥) → Tells (known_type place (Some (record one { meant = meant })))
          of_meant (KnownType of) one never = tt
          of_meant (WrittenType home tree) one never = absurd (never home tree refl)
          of_meant meant one never = tt

      formed_tells : (home : Home) (tree : «Type») → next_text scripts home tree ≡ None → Tells (formed (type_to depth scripts) scripts home tree)
      formed_tells home tree last = by (out-Type tree) refl
        where
          key : «Type» → Checked SimpleType
          key one = type_to depth scripts home one >>= as_key (place_in home (type_place one))

          key_tells : (one : «Type») → Tells (key one)
          key_tells one = tells_bind (type_to depth scripts home one) (as_key (place_in home (type_place one))) (tells home one) (as_key_tells (place_in home (type_place one)))

          never : (name : Name) → out-Type tree ≡ written.Named name → (one : Declared) (other : Home) (inner : «Type») → look_up scripts.names home.module_name name.text ≡ Some one → one.meant ≡ WrittenType other inner → ⊥
          never name named one other inner found means = let told : Some (other, inner) ≡ None = rw (named, found, means) at last in some_none (other, inner) told

          by : (form : Type-F «Type» Field Param) → out-Type tree ≡ form → Tells (formed (type_to depth scripts) scripts home tree)
          by (written.Named name) is = rw is (known_tells (place_in home name.place) (look_up scripts.names home.module_name name.text) (never name is))
          by (written.Table place keys value) is = rw is (tells_bind (both (each key keys) (type_to depth scripts home value)) _
              (tells_both (each key keys) (type_to depth scripts home value) (tells_each key key_tells keys) (tells home value)) (λ parts. tt))
          by (written.Set place keys) is = rw is (tells_bind (each key keys) _ (tells_each key key_tells keys) (λ parts. tt))
          by (written.Vector place item) is = rw is (tells_bind (type_to depth scripts home item) _ (tells home item) (λ parts. tt))
          by form is = rw is tt

      -- a type at its end is what its parts make, at full depth
      whole_formed : (home : Home) (tree : «Type») → next_text scripts home tree ≡ None → rules_of (type_of scripts home tree) ≡ [] → rules_of (formed (type_to 199 scripts) scripts home tree) ≡ []
      whole_formed home tree last told = by (out-Type tree) refl
        where
          of_meant : (meant : Meant) (name : Name) (one : Declared) → out-Type tree ≡ written.Named name → look_up scripts.names home.module_name name.text ≡ Some one → one.meant ≡ meant → rules_of (formed (type_to 199 scripts) scripts home tree) ≡ []
          of_meant (WrittenType other inner) name one named found means = let never : Some (other, inner) ≡ None = rw (named, found, means) at last in absurd (some_none (other, inner) never)
          of_meant meant name one named found means = rw (named, found, means) (rw (named, found, means) at told)

          of_found : (found : Option Declared) (name : Name) → out-Type tree ≡ written.Named name → look_up scripts.names home.module_name name.text ≡ found → rules_of (formed (type_to 199 scripts) scripts home tree) ≡ []
          of_found None name named found = rw (named, found) (rw (named, found) at told)
          of_found (Some one) name named found = of_meant one.meant name one named found refl

          by : (form : Type-F «Type» Field Param) → out-Type tree ≡ form → rules_of (formed (type_to 199 scripts) scripts home tree) ≡ []
          by (written.Named name) named = of_found (look_up scripts.names home.module_name name.text) name named refl
          by form named = rw named at told

      -- so what stands behind a declared name tells, and nothing of it is told where it isn't too deep
      behind_tells : (home : Home) (tree : «Type») → rules_of (type_of scripts home tree) ≡ []
          → Tells (behind_names (type_to depth scripts) scripts home tree) × (Unmarked (behind_names (type_to depth scripts) scripts home tree) → rules_of (behind_names (type_to depth scripts) scripts home tree) ≡ [])
      behind_tells home tree told = by (followed scripts home tree) refl
        where
          by : (end : Option (Home × «Type»)) → followed scripts home tree ≡ end
              → Tells (behind_names (type_to depth scripts) scripts home tree) × (Unmarked (behind_names (type_to depth scripts) scripts home tree) → rules_of (behind_names (type_to depth scripts) scripts home tree) ≡ [])
          by None is = absurd (never_lost home tree is)
          by (Some end) is =
              let well = followed_well (suc (length scripts.names)) home tree end told is in
              rw is (
                formed_tells end.0 end.1 well.last,
                (λ unmarked.
                    let same : formed (type_to 199 scripts) scripts end.0 end.1 ≡ formed (type_to depth scripts) scripts end.0 end.1 =
                    formed_same (type_to depth scripts) (type_to 199 scripts) (λ home tree h. depth_same depth 199 less home tree h) end.0 end.1 unmarked in
                    ap rules_of (sym same) ∙ whole_formed end.0 end.1 well.last well.untold),
              )

    deeper_tells : (depth : ℕ) → depth ≤ 199 → ((home : Home) (tree : «Type») → Tells (type_to depth scripts home tree)) → (home : Home) (tree : «Type») → Tells (type_to (suc depth) scripts home tree)
    deeper_tells depth less tells home tree = by (out-Type tree) refl
      where
        Behind : Home → «Type» → Checked ValueType
        Behind = behind_names (type_to depth scripts) scripts

        unled : (place : Place) (other : Home) (type_tree : «Type») (led : Bool) → led ≡ false → Tells (unless_deep place (Behind other type_tree)) → Tells {A = ValueType} (elim led [ true ↦ elsewhere | false ↦ unless_deep place (Behind other type_tree) ])
        unled place other type_tree true e h = absurd cc
        unled place other type_tree false e h = h

        named : (place : Place) (found : Option Declared) → ((one : Declared) → found ≡ Some one → WellWritten one) → Tells (named_type Behind scripts place found)
        named place None well = tt
        named place (Some one) well = of_meant one.meant one (λ home tree is. well one refl home tree is)
          where
            of_meant : (meant : Meant) (one : Declared) → ((home : Home) (tree : «Type») → meant ≡ WrittenType home tree → (rules_of (type_of scripts home tree) ≡ []) × (list_any (leads scripts one.name home) (mentions tree) ≡ false))
                → Tells (named_type Behind scripts place (Some (record one { meant = meant })))
            of_meant (KnownType of) one well = tt
            of_meant (WrittenType other type_tree) one well =
                let (untold, led) = well other type_tree refl in
                let behind = behind_tells depth less tells other type_tree untold in
                unled place other type_tree (list_any (leads scripts one.name other) (mentions type_tree)) led (deep_tells place (Behind other type_tree) behind.0 behind.1)
            of_meant meant one well = tt

        plain : (form : Type-F «Type» Field Param) → out-Type tree ≡ form → is_named form ≡ false → next_text scripts home tree ≡ None
        plain (written.Named name) is e = absurd cc
        plain form is e = rw is refl

        by : (form : Type-F «Type» Field Param) → out-Type tree ≡ form → Tells (type_to (suc depth) scripts home tree)
        by (written.Named name) is = rw is (named (place_in home name.place) (look_up scripts.names home.module_name name.text) (named_well home.module_name name.text))
        by form is = rw is (formed_tells depth less tells home tree (plain form is refl))

    types_tell : (depth : ℕ) → depth ≤ 200 → (home : Home) (tree : «Type») → Tells (type_to depth scripts home tree)
    types_tell zero within home tree = tt
    types_tell (suc depth) within home tree = deeper_tells depth (omega arith) (types_tell depth (omega arith)) home tree

  -- Declared names -------------------------------------------------------------------------------------------------------

  not_written : Meant → Bool
  not_written (WrittenType home tree) = false
  not_written other = true

  well_other : (one : Declared) → not_written one.meant ≡ true → WellWritten one
  unfolding not_written
  well_other one h home tree is = absurd (never (rw is at h))
    where
      never : false ≡ true → ⊥
      never e = cc

  all_well : (ones : List Declared) → list_all (λ one. not_written one.meant) ones ≡ true → AllByRecursion WellWritten ones
  all_well [] h = tt
  all_well (one ∷ ones) h = let parts = and_parts (not_written one.meant) (list_all (λ one. not_written one.meant) ones) h in (well_other one parts.0, all_well ones parts.1)

  -- a declaration of a type is told where the type is broken or leads back to itself
  abbrev TypeTold : Stated → Type 0
  TypeTold one = (place : ℕ) (name : Name) (tree : «Type») → out-Decl one.decl ≡ decl.Type place name tree
      → (rules_of (type_of scripts one.home tree) ≡ []) × (list_any (leads scripts (whole_name one.home.module_name name.text) one.home) (mentions tree) ≡ false)

  variable_well : (home : Home) (lasting : Lasting) (tree : Option «Type») (init : Option Init) (attrs : List Attr) → not_written (variable_meaning home lasting tree init attrs) ≡ true
  unfolding not_written
  variable_well home lasting None init attrs = refl
  variable_well home lasting (Some tree) init attrs = by (out-Type tree) refl
    where
      by : (form : Type-F «Type» Field Param) → out-Type tree ≡ form → not_written (variable_meaning home lasting (Some tree) init attrs) ≡ true
      by (written.Event place params) is = rw is refl
      by (written.Hook place params) is = rw is refl
      by (written.Procedure place params) is = rw is refl
      by (written.Function place params «result») is = rw is refl
      by form is = rw is refl

  outright_well : (one : Stated) → TypeTold one → AllByRecursion WellWritten (outright_of one)
  outright_well one told = by (out-Decl one.decl) refl
    where
      typed : (name : Name) (tree : «Type») → (rules_of (type_of scripts one.home tree) ≡ []) × (list_any (leads scripts (whole_name one.home.module_name name.text) one.home) (mentions tree) ≡ false)
          → WellWritten (declare one.home name (WrittenType one.home tree))
      typed name tree h home other is =
          let here : one.home ≡ home = cc in
          let same : tree ≡ other = cc in
          rw (← here, ← same) h

      by : (form : Decl-F Decl) → out-Decl one.decl ≡ form → AllByRecursion WellWritten (outright_of one)
      by (decl.Variable place lasting name tree init attrs) is = rw is (well_other (declare one.home name (variable_meaning one.home lasting tree init attrs)) (variable_well one.home lasting tree init attrs), tt)
      by (decl.Type place name tree) is = rw is (typed name tree (told place name tree is), tt)
      by form is = rw is tt

  body_well : (names : List Declared) (home : Home) (form : Decl-F Decl) → AllByRecursion WellWritten (by_body names home form)
  unfolding not_written
  body_well names home (decl.Body place body.Event name params attrs block) = all_unless WellWritten (is_some (look_up names home.module_name name.text) || is_foreign home name) _ (well_other (declare home name (Event (Written home params None))) refl)
  body_well names home (decl.Body place body.Hook name params attrs block) = all_unless WellWritten (is_some (look_up names home.module_name name.text) || is_foreign home name) _ (well_other (declare home name (Hook (Written home params None))) refl)
  body_well names home (decl.Function place name params «result» block) = all_unless WellWritten (in_module names home name || is_foreign home name) _ (well_other (declare home name (Function (Written home params «result»))) refl)
  body_well names home form = tt

  predefined_well : AllByRecursion WellWritten predefined_names
  unfolding not_written
  predefined_well = all_well predefined_names refl

  names_well : (stated : List Stated) → AllByRecursion TypeTold stated → AllByRecursion WellWritten (scripts_of_stated stated).names
  unfolding not_written
  names_well stated told = names_all WellWritten (λ home name number. well_other (declare home name (Word number)) refl) stated predefined_well
      (all_map TypeTold (OutrightAre WellWritten) outright_well stated told) (all_by_each (BodiesAre WellWritten) (λ one names. body_well names one.home (out-Decl one.decl)) stated)

-- Errors -----------------------------------------------------------------------------------------------------------------

pub none_in : {A : Type 0} (a b : List A) → a ++ b ≡ [] → (a ≡ []) × (b ≡ [])
none_in [] b e = (refl, e)
none_in (x ∷ a) b e = absurd cc

never_placed : (one : Broken) (others : List Broken) → placed one others ≢ []
never_placed one [] e = cc
never_placed one (other ∷ others) e = by (is_told_before other one) e
  where
    by : (before : Bool) → ◌≡◌ {A = List Broken} (elim before [ true ↦ other ∷ placed one others | false ↦ one ∷ other ∷ others ]) [] → ⊥
    by true e = cc
    by false e = cc

pub none_by_place : (rules : List Broken) → by_place rules ≡ [] → rules ≡ []
none_by_place [] e = refl
none_by_place (one ∷ rules) e = absurd (never_placed one (by_place rules) e)

module _ (scripts : Scripts) where
  leads_not : (home : Home) (whole : List ℕ) (names : List Name) → rules_of (recursive_rules scripts home whole names) ≡ [] → list_any (leads scripts whole home) names ≡ false
  leads_not home whole [] e = refl
  leads_not home whole (name ∷ names) e =
      let parts = untold_both (require (not (leads scripts whole home name)) rule.Recursive (place_in home name.place)) (recursive_rules scripts home whole names) (untold_bind (both (require (not (leads scripts whole home name)) rule.Recursive (place_in home name.place)) (recursive_rules scripts home whole names)) _ e) in
      by (leads scripts whole home name) parts.0 (leads_not home whole names parts.1)
    where
      by : (led : Bool) → rules_of (require (not led) rule.Recursive (place_in home name.place)) ≡ [] → list_any (leads scripts whole home) names ≡ false → (led || list_any (leads scripts whole home) names) ≡ false
      by true e rest = absurd cc
      by false e rest = rest

  -- no rule of a declaration is told
  pub record Untold (one : Stated) : Type 0 where
    pub earlier : List Stated
    pub none : rules_of (decl_rules scripts earlier one.home (out-Decl one.decl)) ≡ []

  untold : (one : Stated) (earlier : List Stated) → errors_of scripts earlier one ≡ [] → Untold one
  untold one earlier e = record {
    earlier = earlier;
    none = (none_in (rules_of (decl_rules scripts earlier one.home (out-Decl one.decl))) (rules_of (twice_rules one.home (declared_before earlier) (declares one.home (out-Decl one.decl))))
        (none_in (rules_of (decl_rules scripts earlier one.home (out-Decl one.decl)) ++ rules_of (twice_rules one.home (declared_before earlier) (declares one.home (out-Decl one.decl)))) _ (none_by_place _ e)).0).0;
  }

  all_untold : (earlier stated : List Stated) → errors_from scripts earlier stated ≡ [] → AllByRecursion Untold stated
  all_untold earlier [] e = tt
  all_untold earlier (one ∷ stated) e = let parts = none_in (errors_of scripts earlier one) (errors_from scripts (earlier ++ one ∷ []) stated) e in (untold one earlier parts.0, all_untold (earlier ++ one ∷ []) stated parts.1)

  -- a type by its rules
  pub type_untold : (home : Home) (tree : «Type») → rules_of (type_rules scripts home tree) ≡ [] → rules_of (type_of scripts home tree) ≡ []
  type_untold home tree e = (untold_both (type_of scripts home tree) (parts_rules (is_too_deep scripts) scripts home tree) (untold_bind (both (type_of scripts home tree) (parts_rules (is_too_deep scripts) scripts home tree)) _ e)).0

  type_told : (one : Stated) → Untold one → TypeTold scripts one
  type_told one h place name tree is =
      let rules = h.none in
      let whole = both (type_rules scripts one.home tree) (recursive_rules scripts one.home (whole_name one.home.module_name name.text) (mentions tree)) in
      let parts = untold_both (type_rules scripts one.home tree) (recursive_rules scripts one.home (whole_name one.home.module_name name.text) (mentions tree)) (untold_bind whole _ (rw is at rules)) in
      (type_untold one.home tree parts.0, leads_not one.home (whole_name one.home.module_name name.text) (mentions tree) parts.1)

-- no declaration of scripts that break no rule has one that is told
pub none_told : (files : List File) → errors files ≡ [] → AllByRecursion (Untold (scripts_of files)) (load_order files)
none_told files e = all_untold (scripts_of files) [] (load_order files) e

-- a type that is broken in scripts that break no rule is no type
pub all_types_tell : (files : List File) → errors files ≡ [] → (home : Home) (tree : «Type») → Tells (type_of (scripts_of files) home tree)
all_types_tell files e home tree =
    let scripts : Scripts = scripts_of files in
    types_tell scripts (names_well scripts (load_order files) (all_map (Untold scripts) (TypeTold scripts) (type_told scripts) (load_order files) (none_told files e))) 200 (omega arith) home tree

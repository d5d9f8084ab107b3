-- Record types have numbers among those that stand in the texts, so a program has the fields that its scripts give a type.
use Rattle.std.proofs.Common.{◌≡◌, ◌<◌, ◌≤◌, ℕ, zero, suc, ◌+◌, ◌-◌, ◌==◌, nat_lt, Bool, true, false, List, [], ◌∷◌, ◌++◌, length, map, filter, flat_map, Option, Some, None, Ok, Err, refl, sym, ap, subst, ◌∙◌, arith}
use Rattle.std.specs.Prelude.{◌&&◌, ◌||◌, is_some, if◌then◌else◌, slice_get}
use Rattle.std.specs.List.{AllByRecursion, list_any, list_all}
use Rattle.std.specs.Option.{option_map}
use Rattle.std.proofs.lemmas.Bool.{and_parts, eqb-true, eq-eqb, ltb-true, ltb-false}
use Rattle.std.proofs.lemmas.List.Elements.{filter-append}
use Rattle.std.proofs.lemmas.List.Folds.{list_any-append}
use Rattle.zk_base.specs.declared.numbers.RecordNo.{RecordNo}
use Rattle.zk_tree.specs.declared.decl.BodyKind.TheVariants as body
use Rattle.zk_tree.specs.declared.decl.Decl.{Decl, out-Decl}
use Rattle.zk_tree.specs.declared.decl.Decl.TheOpen.{Decl-F}
use Rattle.zk_tree.specs.declared.decl.Decl.TheOpen as decl
use Rattle.zk_tree.specs.declared.name.Name.{Name}
use Rattle.zk_tree.specs.declared.place.Place.{Place}
use Rattle.zk_tree.specs.declared.types.Field.{Field}
use Rattle.zk_tree.specs.declared.types.Param.{Param}
use Rattle.zk_tree.specs.declared.types.Type.{«Type», out-Type, Record'}
use Rattle.zk_tree.specs.declared.types.Type.TheOpen.{Type-F}
use Rattle.zk_tree.specs.declared.types.Type.TheOpen as written
use Rattle.zk_typed.specs.Checked.{Checked, elsewhere, broken, ◌>>=◌, both, each}
use Rattle.zk_typed.specs.Declaring.{predefined_names, variable_meaning, outright_of, by_body, is_foreign, in_module, scripts_of_stated, scripts_of}
use Rattle.zk_typed.specs.LoadOrder.{File, Home, Stated, load_order}
use Rattle.zk_typed.specs.Names.{Declared, Meant, KnownType, WrittenType, Word, Event, Hook, Function, Written, Node, declare, look_up, is_record, is_at, count_before, type_nodes, decl_nodes, all_nodes}
use Rattle.zk_typed.specs.Predefined as type
use Rattle.zk_typed.specs.Program.{Program}
use Rattle.zk_typed.specs.Programs.{numbers_from, checked_or, record_of, field_of, typed_program, Typed}
use Rattle.zk_typed.specs.Resolving.{Scripts, FieldInfo, place_in, as_key, unless_deep, named_type, leads, is_deep, next_text, followed_to, followed, known_type, formed, behind_names, type_to, is_that, written_field, type_named, own_fields, added_fields, fields_of}
use Rattle.zk_typed.specs.declared.script.types.SimpleType.{SimpleType}
use Rattle.zk_tree.specs.Places.{type_place}
use Rattle.zk_typed.specs.Types.{ValueType, Record, Table, Set, Vector}
use Rattle.zk_typed.specs.Within.{mentions}
use Rattle.zk_sound.specs.Worlds.{field_type}
use Rattle.zk_sound.proofs.Checks.{Sound, sound_bind, sound_any}
use Rattle.zk_sound.proofs.Growth.{all_map}
use Rattle.zk_sound.proofs.Names.{OutrightAre, BodiesAre, all_by_each, all_unless, found_among, names_all}
use Rattle.zk_sound.proofs.Objects.{got_map}
use Rattle.zk_sound.proofs.Told.{next_is}

-- Places in lists ----------------------------------------------------------------------------------------------------

counted_less : {A : Type 0} (passes : A → Bool) (ones : List A) → list_any passes ones ≡ true → count_before passes ones < length ones
counted_less passes [] h = absurd cc
counted_less passes (one ∷ ones) h = by (passes one) (counted_less passes ones) h
  where
    by : (first : Bool) → (list_any passes ones ≡ true → count_before passes ones < length ones) → (first || list_any passes ones) ≡ true → (elim first [ true ↦ 0 | false ↦ suc (count_before passes ones) ]) < suc (length ones)
    by true rest h = omega arith
    by false rest h = let less = rest h in omega (arith, less)

got_past : {A : Type 0} (ones : List A) (n : ℕ) → length ones ≤ n → slice_get ones n ≡ None
got_past [] n h = refl
got_past (one ∷ ones) zero h = absurd (omega arith)
got_past (one ∷ ones) (suc n) h = got_past ones n (omega arith)

got_number : {A : Type 0} (f : ℕ → A) (first count n : ℕ) → n < count → slice_get (map f (numbers_from first count)) n ≡ Some (f (first + n))
got_number f first zero n h = absurd (omega arith)
got_number f first (suc count) zero h = let same : first + 0 ≡ first = omega arith in rw same refl
got_number f first (suc count) (suc n) h = let same : first + suc n ≡ first + 1 + n = omega arith in rw same (got_number f (first + 1) count n (omega arith))

-- Nodes --------------------------------------------------------------------------------------------------------------

-- a record type stands among the nodes
HasNode : List Node → Home → «Type» → Type 0
HasNode nodes home tree = (place : ℕ) (fields : List Field) → out-Type tree ≡ written.Record place fields → list_any (is_at home.file place) (filter is_record nodes) ≡ true

left_true : (a b : Bool) → a ≡ true → (a || b) ≡ true
left_true true b e = refl
left_true false b e = absurd cc

right_true : (a b : Bool) → b ≡ true → (a || b) ≡ true
right_true true b e = refl
right_true false b e = e

node_left : (a b : List Node) (home : Home) (tree : «Type») → HasNode a home tree → HasNode (a ++ b) home tree
unfolding HasNode
node_left a b home tree h place fields is = ap (list_any (is_at home.file place)) (filter-append is_record a b) ∙ list_any-append (is_at home.file place) (filter is_record a) (filter is_record b) ∙ left_true _ _ (h place fields is)

node_right : (a b : List Node) (home : Home) (tree : «Type») → HasNode b home tree → HasNode (a ++ b) home tree
unfolding HasNode
node_right a b home tree h place fields is = ap (list_any (is_at home.file place)) (filter-append is_record a b) ∙ list_any-append (is_at home.file place) (filter is_record a) (filter is_record b) ∙ right_true _ _ (h place fields is)

is_record_form : Type-F «Type» Field Param → Bool
is_record_form (written.Record place fields) = true
is_record_form form = false

own_node : (home : Home) (tree : «Type») → HasNode (type_nodes home tree) home tree
unfolding HasNode is_record_form out-Type denote.Hole.Carrier.out
own_node home (Record' at n row) place fields is =
    let same : at ≡ place = cc in
    left_true _ _ (subst (λ (p : ℕ). (home.file == home.file && at == p) ≡ true) same (rw (eq-eqb home.file home.file refl, eq-eqb at at refl) refl))
own_node home tree place fields is = absurd (no_record (ap is_record_form is))
  where
    no_record : false ≡ true → ⊥
    no_record e = cc

-- a declared type stands among the nodes of all declarations
NodeStands : List Node → Stated → Type 0
NodeStands nodes one = (place : ℕ) (name : Name) (tree : «Type») → out-Decl one.decl ≡ decl.Type place name tree → HasNode nodes one.home tree

nodes_stand : (nodes : List Node) (stated : List Stated) → ((home : Home) (tree : «Type») → HasNode (all_nodes stated) home tree → HasNode nodes home tree) → AllByRecursion (NodeStands nodes) stated
unfolding NodeStands
nodes_stand nodes [] more = tt
nodes_stand nodes (one ∷ stated) more = (
  λ place name tree is. more one.home tree (node_left (decl_nodes one.home (out-Decl one.decl)) (all_nodes stated) one.home tree (rw is (node_left (type_nodes one.home tree) [] one.home tree (own_node one.home tree)))),
  nodes_stand nodes stated (λ home tree h. more home tree (node_right (decl_nodes one.home (out-Decl one.decl)) (all_nodes stated) home tree h)),
)

-- what `redef record` adds in one declaration
abbrev in_decl : Scripts → ℕ → Home → Decl-F Decl → List FieldInfo
in_decl scripts number home (decl.RedefRecord place name fields) = if is_that number (type_named scripts home name) then map (written_field scripts home) fields else []
in_decl scripts number home other = []

flat_none : {A B : Type 0} (f : A → List B) → ((a : A) → f a ≡ []) → (ones : List A) → flat_map f ones ≡ []
flat_none f none [] = refl
flat_none f none (one ∷ ones) = rw (none one, flat_none f none ones) refl

-- Numbers ------------------------------------------------------------------------------------------------------------

module _ (scripts : Scripts) where
  count : ℕ
  count = length type.record_types + length (filter is_record scripts.nodes)

  -- a record type has a number below the count of all
  IsBelow : ValueType → Type 0
  IsBelow (Record number) = number.0 < count
  IsBelow other = Unit {0}

  -- what a name means is such a type, or stands in the texts
  NameIsBelow : Declared → Type 0
  NameIsBelow one = ((of : ValueType) → one.meant ≡ KnownType of → IsBelow of) × ((home : Home) (tree : «Type») → one.meant ≡ WrittenType home tree → HasNode scripts.nodes home tree)

  deep_below : (place : Place) (m : Checked ValueType) → Sound IsBelow m → Sound IsBelow (unless_deep place m)
  deep_below place (Ok of) h = h
  deep_below place (Err rules) h = by (list_any is_deep rules)
    where
      by : (deep : Bool) → Sound IsBelow (if deep then broken {A = ValueType} Rattle.zk_typed.specs.declared.rule.Rule.TheVariants.Recursive place else elsewhere)
      by true = tt
      by false = tt

  named_below : (check : Home → «Type» → Checked ValueType) → ((home : Home) (tree : «Type») → HasNode scripts.nodes home tree → Sound IsBelow (check home tree)) → (place : Place) (found : Option Declared) → ((one : Declared) → found ≡ Some one → NameIsBelow one)
      → Sound IsBelow (named_type check scripts place found)
  unfolding NameIsBelow
  named_below check below place None names = tt
  named_below check below place (Some one) names = of_meant one.meant one (names one refl)
    where
      led : (home : Home) (tree : «Type») (leads : Bool) → Sound IsBelow (check home tree) → Sound {A = ValueType} IsBelow (elim leads [ true ↦ elsewhere | false ↦ unless_deep place (check home tree) ])
      led home tree true h = tt
      led home tree false h = deep_below place (check home tree) h

      of_meant : (meant : Meant) (one : Declared) → ((of : ValueType) → meant ≡ KnownType of → IsBelow of) × ((home : Home) (tree : «Type») → meant ≡ WrittenType home tree → HasNode scripts.nodes home tree)
          → Sound IsBelow (named_type check scripts place (Some (record one { meant = meant })))
      of_meant (KnownType of) one h = h.0 of refl
      of_meant (WrittenType home tree) one h = led home tree (list_any (leads scripts one.name home) (mentions tree)) (below home tree (h.1 home tree refl))
      of_meant meant one h = tt

  module _ (names : AllByRecursion NameIsBelow scripts.names) where
    -- a type by its parts
    formed_below : (check : Home → «Type» → Checked ValueType) → (home : Home) (tree : «Type») → HasNode scripts.nodes home tree → Sound IsBelow (formed check scripts home tree)
    unfolding IsBelow HasNode count NameIsBelow
    formed_below check home tree stands = by (out-Type tree) refl
      where
        key : «Type» → Checked SimpleType
        key one = check home one >>= as_key (place_in home (type_place one))

        known : (place : Place) (found : Option Declared) → ((one : Declared) → found ≡ Some one → NameIsBelow one) → Sound IsBelow (known_type place found)
        known place None names = tt
        known place (Some one) names = of_meant one.meant one (λ of is. (names one refl).0 of is)
          where
            of_meant : (meant : Meant) (one : Declared) → ((of : ValueType) → meant ≡ KnownType of → IsBelow of) → Sound IsBelow (known_type place (Some (record one { meant = meant })))
            of_meant (KnownType of) one h = h of refl
            of_meant (WrittenType home tree) one h = tt
            of_meant meant one h = tt

        by : (form : Type-F «Type» Field Param) → out-Type tree ≡ form → Sound IsBelow (formed check scripts home tree)
        by (written.Named name) is = rw is (known (place_in home name.place) (look_up scripts.names home.module_name name.text) (found_among NameIsBelow scripts.names names home.module_name name.text))
        by (written.Record place fields) is = let less = counted_less (is_at home.file place) (filter is_record scripts.nodes) (stands place fields is) in rw is (omega (arith, less))
        by (written.Table place keys value) is = rw is (sound_bind (λ parts. Unit {0}) IsBelow (both (each key keys) (check home value)) (λ parts. Ok (Table parts.0 parts.1)) (sound_any (both (each key keys) (check home value))) (λ parts any. tt))
        by (written.Set place keys) is = rw is (sound_bind (λ parts. Unit {0}) IsBelow (each key keys) (λ parts. Ok (Set parts)) (sound_any (each key keys)) (λ parts any. tt))
        by (written.Vector place item) is = rw is (sound_bind (λ part. Unit {0}) IsBelow (check home item) (λ part. Ok (Vector part)) (sound_any (check home item)) (λ part any. tt))
        by form is = rw is tt

    -- what a text is followed to stands in the texts too
    followed_stands : (most : ℕ) (home : Home) (tree : «Type») (end : Home × «Type») → HasNode scripts.nodes home tree → followed_to most scripts home tree ≡ Some end → HasNode scripts.nodes end.0 end.1
    unfolding NameIsBelow
    followed_stands zero home tree end stands is = absurd cc
    followed_stands (suc most) home tree end stands is = by (next_text scripts home tree) refl (λ home tree stands is. followed_stands most home tree end stands is)
      where
        by : (next : Option (Home × «Type»)) → next_text scripts home tree ≡ next → ((home : Home) (tree : «Type») → HasNode scripts.nodes home tree → followed_to most scripts home tree ≡ Some end → HasNode scripts.nodes end.0 end.1) → HasNode scripts.nodes end.0 end.1
        by None e later =
            let here : Some (home, tree) ≡ Some end = rw e at is in
            let same : (home, tree) ≡ end = cc in
            subst (λ (pair : Home × «Type»). HasNode scripts.nodes pair.0 pair.1) same stands
        by (Some next) e later = later next.0 next.1 (next_stands next e) (rw e at is)
          where
            next_stands : (next : Home × «Type») → next_text scripts home tree ≡ Some next → HasNode scripts.nodes next.0 next.1
            next_stands next e = let step = next_is scripts home tree next e in
                (found_among NameIsBelow scripts.names names home.module_name step.name.text step.one step.found).1 next.0 next.1 step.means

    behind_below : (check : Home → «Type» → Checked ValueType) → (home : Home) (tree : «Type») → HasNode scripts.nodes home tree → Sound IsBelow (behind_names check scripts home tree)
    behind_below check home tree stands = by (followed scripts home tree) refl
      where
        by : (end : Option (Home × «Type»)) → followed scripts home tree ≡ end → Sound IsBelow (behind_names check scripts home tree)
        by None is = rw is tt
        by (Some end) is = rw is (formed_below check end.0 end.1 (followed_stands (suc (length scripts.names)) home tree end stands is))

    deeper_below : (depth : ℕ) (home : Home) (tree : «Type») → HasNode scripts.nodes home tree → Sound IsBelow (type_to (suc depth) scripts home tree)
    deeper_below depth home tree stands = by (out-Type tree) refl
      where
        by : (form : Type-F «Type» Field Param) → out-Type tree ≡ form → Sound IsBelow (type_to (suc depth) scripts home tree)
        by (written.Named name) is = rw is (named_below (behind_names (type_to depth scripts) scripts) (behind_below (type_to depth scripts)) _ (look_up scripts.names home.module_name name.text) (found_among NameIsBelow scripts.names names home.module_name name.text))
        by form is = rw is (formed_below (type_to depth scripts) home tree stands)

    types_below : (depth : ℕ) (home : Home) (tree : «Type») → HasNode scripts.nodes home tree → Sound IsBelow (type_to depth scripts home tree)
    types_below zero home tree stands = tt
    types_below (suc depth) home tree stands = deeper_below depth home tree stands

    type_named_below : (home : Home) (name : Name) → Sound IsBelow (type_named scripts home name)
    type_named_below home name = named_below (behind_names (type_to 199 scripts) scripts) (behind_below (type_to 199 scripts)) _ (look_up scripts.names home.module_name name.text) (found_among NameIsBelow scripts.names names home.module_name name.text)

    -- no `redef record` adds to a record type past all
    not_that : (number : ℕ) (m : Checked ValueType) → Sound IsBelow m → count ≤ number → is_that number m ≡ false
    unfolding IsBelow
    not_that number (Ok (Record other)) h past = by (other.0 == number) refl
      where
        by : (same : Bool) → (other.0 == number) ≡ same → (other.0 == number) ≡ false
        by true e = let equal : other.0 ≡ number = eqb-true other.0 number e in absurd (omega (arith, equal))
        by false e = e
    not_that number (Ok of) h past = refl
    not_that number (Err rules) h past = refl

    none_in_decl : (number : ℕ) → count ≤ number → (home : Home) (form : Decl-F Decl) → in_decl scripts number home form ≡ []
    none_in_decl number past home (decl.RedefRecord place name fields) = rw (not_that number (type_named scripts home name) (type_named_below home name) past) refl
    none_in_decl number past home form = refl

    no_fields : (number : ℕ) → count ≤ number → fields_of scripts number ≡ []
    unfolding count
    no_fields number past =
        let own : own_fields scripts number ≡ [] = none_own number (got_past type.record_types number (omega arith)) (got_past (filter is_record scripts.nodes) (number - length type.record_types) (omega arith)) in
        let added : added_fields scripts number ≡ [] = flat_none (λ (one : Stated). in_decl scripts number one.home (out-Decl one.decl)) (λ one. none_in_decl number past one.home (out-Decl one.decl)) scripts.stated in
        rw (own, added) refl
      where
        none_own : (number : ℕ) → slice_get type.record_types number ≡ None → slice_get (filter is_record scripts.nodes) (number - length type.record_types) ≡ None → own_fields scripts number ≡ []
        none_own number e k = rw (e, k) refl

-- The names of scripts -----------------------------------------------------------------------------------------------

module _ (stated : List Stated) where
  all : Scripts
  all = scripts_of_stated stated

  -- a name that means no type, or a predefined one
  is_low : Meant → Bool
  is_low (KnownType (Record number)) = nat_lt number.0 8
  is_low (WrittenType home tree) = false
  is_low other = true

  low_below : (one : Declared) → is_low one.meant ≡ true → NameIsBelow all one
  unfolding is_low NameIsBelow IsBelow count all
  low_below one h = (λ of is. known of (rw is at h), λ home tree is. absurd (never (rw is at h)))
    where
      never : false ≡ true → ⊥
      never e = cc

      known : (of : ValueType) → is_low (KnownType of) ≡ true → IsBelow all of
      known (Record number) e = let less : number.0 < 8 = ltb-true number.0 8 e in omega (arith, less)
      known of e = tt

  all_low : (ones : List Declared) → list_all (λ one. is_low one.meant) ones ≡ true → AllByRecursion (NameIsBelow all) ones
  all_low [] h = tt
  all_low (one ∷ ones) h = let parts = and_parts (is_low one.meant) (list_all (λ one. is_low one.meant) ones) h in (low_below one parts.0, all_low ones parts.1)

  variable_low : (home : Home) (lasting : _) (tree : Option «Type») (init : _) (attrs : _) → is_low (variable_meaning home lasting tree init attrs) ≡ true
  unfolding is_low
  variable_low home lasting None init attrs = refl
  variable_low home lasting (Some tree) init attrs = by (out-Type tree) refl
    where
      by : (form : Type-F «Type» Field Param) → out-Type tree ≡ form → is_low (variable_meaning home lasting (Some tree) init attrs) ≡ true
      by (written.Event place params) is = rw is refl
      by (written.Hook place params) is = rw is refl
      by (written.Procedure place params) is = rw is refl
      by (written.Function place params «result») is = rw is refl
      by form is = rw is refl

  outright_below : (one : Stated) → NodeStands (all_nodes stated) one → OutrightAre (NameIsBelow all) one
  unfolding NameIsBelow NodeStands all
  outright_below one stands = by (out-Decl one.decl) refl
    where
      typed : (home : Home) (name : Name) (tree : «Type») → HasNode (all_nodes stated) home tree → NameIsBelow all (declare home name (WrittenType home tree))
      typed home name tree h = (λ of is. absurd cc, λ other given is. let here : home ≡ other = cc in let same : tree ≡ given = cc in rw (← here, ← same) h)

      by : (form : Decl-F Decl) → out-Decl one.decl ≡ form → AllByRecursion (NameIsBelow all) (outright_of one)
      by (decl.Variable place lasting name tree init attrs) is = rw is (low_below (declare one.home name (variable_meaning one.home lasting tree init attrs)) (variable_low one.home lasting tree init attrs), tt)
      by (decl.Type place name tree) is = rw is (typed one.home name tree (stands place name tree is), tt)
      by form is = rw is tt

  body_below : (names : List Declared) (home : Home) (form : Decl-F Decl) → AllByRecursion (NameIsBelow all) (by_body names home form)
  unfolding is_low
  body_below names home (decl.Body place body.Event name params attrs block) = all_unless (NameIsBelow all) (is_some (look_up names home.module_name name.text) || is_foreign home name) _ (low_below (declare home name (Event (Written home params None))) refl)
  body_below names home (decl.Body place body.Hook name params attrs block) = all_unless (NameIsBelow all) (is_some (look_up names home.module_name name.text) || is_foreign home name) _ (low_below (declare home name (Hook (Written home params None))) refl)
  body_below names home (decl.Function place name params «result» block) = all_unless (NameIsBelow all) (in_module names home name || is_foreign home name) _ (low_below (declare home name (Function (Written home params «result»))) refl)
  body_below names home form = tt

  predefined_below : AllByRecursion (NameIsBelow all) predefined_names
  unfolding is_low
  predefined_below = all_low predefined_names refl

  all_names_below : AllByRecursion (NameIsBelow all) all.names
  unfolding is_low all
  all_names_below = names_all (NameIsBelow all) (λ home name number. low_below (declare home name (Word number)) refl) stated predefined_below
      (all_map (NodeStands (all_nodes stated)) (OutrightAre (NameIsBelow all)) outright_below stated (nodes_stand (all_nodes stated) stated (λ home tree h. h)))
      (all_by_each (BodiesAre (NameIsBelow all)) (λ one names. body_below names one.home (out-Decl one.decl)) stated)

-- Fields of programs -------------------------------------------------------------------------------------------------

pub fields_of_files : (files : List File) (number : RecordNo) (n : ℕ) (field : FieldInfo) (of : ValueType) → slice_get (fields_of (scripts_of files) number.0) n ≡ Some field → field.field_type ≡ Ok of → field_type (typed_program files) number n ≡ Some of
unfolding count all
fields_of_files files number n field of there is = by (nat_lt number.0 (count scripts)) refl
  where
    scripts : Scripts
    scripts = scripts_of files

    stands : slice_get (typed_program files).records number.0 ≡ Some (record_of scripts number.0) → field_type (typed_program files) number n ≡ Some of
    stands e = rw e (ap (option_map (λ one. one.field_type)) (got_map (field_of scripts) (fields_of scripts number.0) n ∙ ap (option_map (field_of scripts)) there) ∙ ap (λ (m : Checked ValueType). Some (checked_or type.bool m)) is)

    never : slice_get (fields_of scripts number.0) n ≡ Some field → fields_of scripts number.0 ≡ [] → ⊥
    never there e = nothing n (rw e at there)
      where
        nothing : (n : ℕ) → (let empty : List FieldInfo = [] in slice_get empty n) ≡ Some field → ⊥
        nothing n e = cc

    by : (below : Bool) → nat_lt number.0 (count scripts) ≡ below → field_type (typed_program files) number n ≡ Some of
    by true e = let less : number.0 < count scripts = ltb-true number.0 (count scripts) e in
        let got = got_number (record_of scripts) 0 (count scripts) number.0 less in
        let same : 0 + number.0 ≡ number.0 = omega arith in
        stands (rw same at got)
    by false e = absurd (never there (no_fields scripts (all_names_below (load_order files)) number.0 (ltb-false number.0 (count scripts) e)))

pub fields_agree : (files : List File) (program : Program) → Typed files program → (number : RecordNo) (n : ℕ) (field : FieldInfo) (of : ValueType) → slice_get (fields_of (scripts_of files) number.0) n ≡ Some field → field.field_type ≡ Ok of → field_type program number n ≡ Some of
fields_agree files program typed number n field of there is = subst (λ (p : Program). field_type p number n ≡ Some of) (sym typed.whole) (fields_of_files files number n field of there is)

-- Typed forms that the rules make of forms that spare globals spare these too: operators, fields, records and containers.
use Rattle.std.proofs.Common.{◌≡◌, ℕ, ◌==◌, Bool, true, false, ◌&&◌, List, [], ◌∷◌, ◌++◌, length, map, drop, Option, Some, None, Ok, Err, refl, subst, sym, ◌∙◌}
use Rattle.std.specs.Prelude.{if◌then◌else◌}
use Rattle.std.specs.List.{AllByRecursion}
use Rattle.zk_agenda.specs.Sparing.{Numbers, SparesExpr, SpareExprs, SpareGivens}
use Rattle.zk_base.specs.declared.numbers.RecordNo.{RecordNo}
use Rattle.zk_tree.specs.declared.expr.Expr.{Expr, out-Expr}
use Rattle.zk_tree.specs.declared.expr.Expr.TheOpen.{Expr-F, Item-F}
use Rattle.zk_tree.specs.declared.expr.Expr.TheOpen as written
use Rattle.zk_tree.specs.declared.expr.Item.{Item, out-Item}
use Rattle.zk_tree.specs.declared.expr.Link.{Link, out-Link}
use Rattle.zk_tree.specs.declared.expr.Literal.{Literal}
use Rattle.zk_tree.specs.declared.expr.Literal.TheVariants as literal
use Rattle.zk_tree.specs.declared.expr.Part.{Part}
use Rattle.zk_tree.specs.declared.name.Name.{Name}
use Rattle.zk_tree.specs.declared.operator.Assigning.TheVariants as assigning
use Rattle.zk_tree.specs.declared.operator.Container.{Container}
use Rattle.zk_tree.specs.declared.operator.Container.TheVariants as container
use Rattle.zk_tree.specs.declared.operator.Level.{Level}
use Rattle.zk_tree.specs.declared.operator.Level.TheVariants as level
use Rattle.zk_tree.specs.declared.place.Place.{Place}
use Rattle.zk_typed.specs.declared.rule.Rule.{Rule}
use Rattle.zk_typed.specs.declared.rule.Rule.TheVariants as rule
use Rattle.zk_typed.specs.declared.script.primitive.Binary.{Binary}
use Rattle.zk_typed.specs.declared.script.primitive.FieldNo.{FieldNo}
use Rattle.zk_typed.specs.declared.script.primitive.Primitive.{Primitive}
use Rattle.zk_typed.specs.declared.script.primitive.Primitive.TheVariants as primitive
use Rattle.zk_typed.specs.declared.script.primitive.Relation.{Relation}
use Rattle.zk_typed.specs.declared.script.types.SimpleType.{SimpleType}
use Rattle.zk_typed.specs.declared.script.types.SimpleType.TheVariants as simple
use Rattle.zk_typed.specs.Checked.{Checked, broken, broken_anyway, with_rule, require, elsewhere, ◌>>=◌, ◌>>◌, both, each, or_broken}
use Rattle.zk_typed.specs.Forms as form
use Rattle.zk_typed.specs.Making.{argument, matched, as_many, arguments, field_named, fitted_keys, keys_fit, element, GivenField, wire_read, and_given, givens, given_field, given_once, all_given, record_typed, plain_shape, Members, one_value, bracketed, each_key, member_keys, joined, entry, item_values, loosely, loose, wanted_container, types_same, vector_alone, simple_types, set_alone, container_alone, container_typed, braces_typed, brackets_typed}
use Rattle.zk_typed.specs.Operations.{same_type, binary_of, relates}
use Rattle.zk_typed.specs.Predefined as type
use Rattle.zk_typed.specs.Resolving.{FieldInfo, fields_of}
use Rattle.zk_typed.specs.Types.{ValueType, Simple, Record, Table, Set, Vector}
use Rattle.zk_typed.specs.Typing.{Typed, typed, Env, at, exprs, apply, expr_place, Wanted, Nothing, Wants, Unclear, wanted_of, Check, to_int, fits, fit, printable, simple_type, literal_typed, beside, arithmetic_type, arithmetic_typed, related, truths, linked, chained, as_keys, in_form, negated, membership, on_item, value_in, left_of_in}
use Rattle.zk_sound.proofs.Checks.{Sound, sound_bind, sound_after, never_ok, sound_require, sound_along, sound_held, sound_both, sound_each, sound_or, sound_any, sound_more}
use Rattle.zk_sound.proofs.Constructed.{MembersWell, wire_is}
use Rattle.zk_sound.proofs.Formed.{as_told, told_form, in_two, KeyForm}
use Rattle.zk_sound.proofs.Growth.{all_append}

-- an item of a vector by its index
abbrev item_of : Place → Typed → ValueType → List Typed → Checked Typed
item_of place one item (index ∷ []) = Ok (typed item (apply primitive.Item (one ∷ index ∷ [])))
item_of place one item other = broken rule.WrongType place

module _ (spared : Numbers) where
  abbrev pub Spare : Typed → Type 0
  Spare one = SparesExpr spared one.expr

  abbrev pub AllSpare : List Typed → Type 0
  AllSpare ones = AllByRecursion Spare ones

  -- what checks the parts gives forms that spare these
  abbrev pub SparesWell : Check → Type 0
  SparesWell check = (wanted : Wanted) (one : Expr) → Sound Spare (check wanted one)

  pub exprs_spare : (ones : List Typed) → AllSpare ones → SpareExprs spared (exprs ones)
  exprs_spare [] all = tt
  exprs_spare (one ∷ ones) all = (all.0, exprs_spare ones all.1)

  fits_spare : (wanted : ValueType) (one made : Typed) → Spare one → fits wanted one ≡ Some made → Spare made
  fits_spare wanted one made h is = by (same_type wanted one.type) (same_type wanted type.int && same_type one.type type.count) is
    where
      by : (a b : Bool) → (if a then Some one else (if b then Some (to_int one) else None)) ≡ Some made → Spare made
      by true b e = let same : one ≡ made = cc in subst Spare same h
      by false true e = let same : to_int one ≡ made = cc in subst Spare same (tt, (h, tt))
      by false false e = absurd cc

  pub fit_spare : (place : Place) (wanted : Wanted) (one : Typed) → Spare one → Sound Spare (fit place wanted one)
  fit_spare place Nothing one h = h
  fit_spare place Unclear one h = h
  fit_spare place (Wants wanted) one h = sound_or Spare (fits wanted one) rule.WrongType place (λ made is. fits_spare wanted one made h is)

  pub printable_spare : (env : Env) (one : Expr) (made : Typed) → Spare made → Sound Spare (printable env one made)
  printable_spare env one made h = sound_after Spare (simple_type (expr_place env one) made) (Ok made) h

  pub literal_spares : (one : Literal) → Spare (literal_typed one)
  literal_spares (literal.String bytes) = tt
  literal_spares (literal.Port port proto) = tt
  literal_spares (literal.Address address) = tt
  literal_spares (literal.Subnet prefix width) = tt

  -- Operators --------------------------------------------------------------------------------------------------------

  abbrev Two : Typed × Typed → Type 0
  Two pair = Spare pair.0 × Spare pair.1

  pub beside_spare : (a b : Typed) → Spare a → Spare b → Two (beside a b)
  beside_spare a b h k = by (same_type a.type type.count && same_type b.type type.int) (same_type a.type type.int && same_type b.type type.count)
    where
      by : (p q : Bool) → Two (if p then (to_int a, b) else (if q then (a, to_int b) else (a, b)))
      by true q = ((tt, (h, tt)), k)
      by false true = (h, (tt, (k, tt)))
      by false false = (h, k)

  arithmetic_spares : (operator : Binary) (first second : Place) (pair : Typed × Typed) → Two pair → Sound Spare (arithmetic_typed operator first second pair)
  arithmetic_spares operator first second pair h = by (arithmetic_type operator pair.0.type pair.1.type) refl
    where
      by : (row : Option SimpleType) → arithmetic_type operator pair.0.type pair.1.type ≡ row → Sound Spare (arithmetic_typed operator first second pair)
      by (Some gives) is = rw is (tt, (h.0, (h.1, tt)))
      by None is = rw is tt

  pub related_spares : (relation : Relation) (first second : Place) (pair : Typed × Typed) → Two pair → Sound Spare (related relation first second pair)
  related_spares relation first second pair h = sound_require Spare (relates relation pair.0.type) rule.WrongType first _ (λ simple.
      sound_require Spare (same_type pair.0.type pair.1.type) rule.WrongType second (Ok (typed type.bool (apply (primitive.Compare relation) (pair.0 ∷ pair.1 ∷ [])))) (λ same. (tt, (h.0, (h.1, tt)))))

  truths_spare : (level : Level) (a b : Typed) → Spare a → Spare b → Spare (truths level a b)
  truths_spare level.Or a b h k = (h, k)
  truths_spare level a b h k = (h, k)

  module _ (check : Check) (well : SparesWell check) (env : Env) (level : Level) (place : Place) where
    linked_spares : (before : Checked Typed) (link : Link) → Sound Spare before → Sound Spare (linked check env level place before link)
    linked_spares before link h = by (binary_of (out-Link link).operator) refl
      where
        by : (operator : Option Binary) → binary_of (out-Link link).operator ≡ operator → Sound Spare (linked check env level place before link)
        by None is = rw is (sound_bind Two Spare (both (before >>= fit place (Wants type.bool)) (check (Wants type.bool) (out-Link link).operand)) (λ pair. Ok (truths level pair.0 pair.1))
            (sound_both Spare Spare (before >>= fit place (Wants type.bool)) (check (Wants type.bool) (out-Link link).operand)
            (sound_bind Spare Spare before (fit place (Wants type.bool)) h (λ one k. fit_spare place (Wants type.bool) one k)) (well (Wants type.bool) (out-Link link).operand))
            (λ pair both. truths_spare level pair.0 pair.1 both.0 both.1))
        by (Some operator) is = rw is (sound_bind Two Spare (both before (check Nothing (out-Link link).operand)) (λ pair. arithmetic_typed operator place (expr_place env (out-Link link).operand) (beside pair.0 pair.1))
            (sound_both Spare Spare before (check Nothing (out-Link link).operand) h (well Nothing (out-Link link).operand))
            (λ pair both. arithmetic_spares operator place (expr_place env (out-Link link).operand) (beside pair.0 pair.1) (beside_spare pair.0 pair.1 both.0 both.1)))

    pub chained_spares : (links : List Link) (before : Checked Typed) → Sound Spare before → Sound Spare (chained check env level place before links)
    chained_spares [] before h = h
    chained_spares (link ∷ links) before h = chained_spares links (linked check env level place before link) (linked_spares before link h)

  -- Membership -------------------------------------------------------------------------------------------------------

  as_keys_spare : (types : List SimpleType) (ones made : List Typed) → AllSpare ones → as_keys types ones ≡ Some made → AllSpare made
  as_keys_spare [] [] made all is = let same : [] ≡ made = cc in subst AllSpare same tt
  as_keys_spare [] (one ∷ ones) made all is = absurd cc
  as_keys_spare (key ∷ keys) [] made all is = absurd cc
  as_keys_spare (key ∷ keys) (one ∷ ones) made (first, others) is = by (fits (Simple key) one) (as_keys keys ones) refl refl (λ more e. as_keys_spare keys ones more others e)
    where
      by : (a : Option Typed) (b : Option (List Typed)) → fits (Simple key) one ≡ a → as_keys keys ones ≡ b → ((more : List Typed) → as_keys keys ones ≡ Some more → AllSpare more) → AllSpare made
      by (Some head) (Some more) p q rest =
          let told : Some (head ∷ more) ≡ Some made = rw (p, q) at is in
          let whole : head ∷ more ≡ made = cc in
          subst AllSpare whole (fits_spare (Simple key) one head first p, rest more q)
      by None b p q rest = let told : None ≡ Some made = rw p at is in absurd cc
      by (Some head) None p q rest = let told : None ≡ Some made = rw (p, q) at is in absurd cc

  abbrev Made : form.Expr → Type 0
  Made one = SparesExpr spared one

  key_form_spares : (right : Typed) (found : Option (List Typed)) (made : form.Expr) → Spare right → ((ones : List Typed) → found ≡ Some ones → AllSpare ones) → KeyForm right found ≡ Some made → Made made
  key_form_spares right None made h all is = absurd cc
  key_form_spares right (Some ones) made h all is = let same : apply primitive.HasKey (ones ++ right ∷ []) ≡ made = cc in
      subst Made same (tt, exprs_spare (ones ++ right ∷ []) (all_append Spare ones (right ∷ []) (all ones refl) (h, tt)))

  two_spare : (one : Primitive) (keys : List Typed) (right : Typed) (wanted : ValueType) (made : form.Expr) → ((left : Typed) → Spare left → Made (apply one (left ∷ right ∷ []))) → AllSpare keys → in_two one right wanted keys ≡ Some made → Made made
  two_spare one [] right wanted made h all is = absurd cc
  two_spare one (left ∷ []) right wanted made h all is = by (same_type left.type wanted) is
    where
      by : (same : Bool) → (if same then Some (apply one (left ∷ right ∷ [])) else None) ≡ Some made → Made made
      by true e = let same : apply one (left ∷ right ∷ []) ≡ made = cc in subst Made same (h left all.0)
      by false e = absurd cc
  two_spare one (left ∷ other ∷ keys) right wanted made h all is = absurd cc

  in_form_spares : (keys : List Typed) (right : Typed) (made : form.Expr) → AllSpare keys → Spare right → in_form keys right ≡ Some made → Made made
  in_form_spares keys right made all h e = by right.type (sym (as_told keys right) ∙ e)
    where
      by : (of : ValueType) → told_form keys right of ≡ Some made → Made made
      by (Table types item) e = key_form_spares right (as_keys types keys) made h (λ ones is. as_keys_spare types keys ones all is) e
      by (Set types) e = key_form_spares right (as_keys types keys) made h (λ ones is. as_keys_spare types keys ones all is) e
      by (Simple simple.String) e = two_spare primitive.HasText keys right type.string made (λ left k. (tt, (k, (h, tt)))) all e
      by (Simple simple.Subnet) e = two_spare primitive.HasAddress keys right type.addr made (λ left k. (tt, (k, (h, tt)))) all e
      by (Vector item) e = two_spare primitive.HasIndex keys right type.count made (λ left k. (tt, (k, (h, tt)))) all e
      by of e = absurd cc

  negated_spares : (turned : Bool) (one : form.Expr) → Made one → Made (negated turned one)
  negated_spares true one h = (tt, (h, tt))
  negated_spares false one h = h

  pub membership_spares : (turned : Bool) (first second : Place) (keys : List Typed) (right : Typed) → AllSpare keys → Spare right → Sound Spare (membership turned first second keys right)
  membership_spares turned first second keys right all h = by (in_form keys right) refl
    where
      by : (made : Option form.Expr) → in_form keys right ≡ made → Sound Spare (membership turned first second keys right)
      by None is = rw is tt
      by (Some one) is = rw is (negated_spares turned one (in_form_spares keys right one all h is))

  -- Items ------------------------------------------------------------------------------------------------------------

  module _ (check : Check) (env : Env) where
    value_spares : {A : Type 0} (P : A → Type 0) (judge : Expr → Checked A) → ((one : Expr) → Sound P (judge one)) → (item : Item-F Expr Item Part Link) → Sound P (value_in check env judge item)
    value_spares P judge h (written.Value one) = h one
    value_spares P judge h (written.Item::Field place name one) = never_ok P (check Nothing one) rule.WrongType (at env place)

    pub item_spares : {A : Type 0} (P : A → Type 0) (judge : Expr → Checked A) → ((one : Expr) → Sound P (judge one)) → (item : Item) → Sound P (on_item check env judge item)
    item_spares P judge h item = value_spares P judge h (out-Item item)

  module _ (check : Check) (well : SparesWell check) (env : Env) where
    pub left_spare : (one : Expr) → Sound AllSpare (left_of_in check env one)
    left_spare one = by (out-Expr one) refl
      where
        ones : (items : List Item) → Sound AllSpare (each (on_item check env (check Nothing)) items)
        ones items = sound_each Spare (on_item check env (check Nothing)) (item_spares check env Spare (check Nothing) (well Nothing)) items

        several : (place : ℕ) (items : List Item) → out-Expr one ≡ written.List place items → Sound AllSpare (left_of_in check env one)
        several place [] is = rw is (never_ok AllSpare (each (on_item check env (check Nothing)) []) rule.WrongType (at env place))
        several place (item ∷ []) is = rw is (never_ok AllSpare (each (on_item check env (check Nothing)) (item ∷ [])) rule.WrongType (at env place))
        several place (first ∷ second ∷ others) is = rw is (ones (first ∷ second ∷ others))

        by : (f : Expr-F Expr Item Part Link) → out-Expr one ≡ f → Sound AllSpare (left_of_in check env one)
        by (written.List place items) is = several place items is
        by f is = rw is (sound_bind Spare AllSpare (check Nothing one) (λ key. Ok (key ∷ [])) (well Nothing one) (λ key h. (h, tt)))

    pub argument_spares : (wanted : Wanted) (item : Item) → Sound Spare (argument check env wanted item)
    argument_spares wanted item = item_spares check env Spare (check wanted) (well wanted) item

    pub matched_spare : (params : List ValueType) (items : List Item) → Sound AllSpare (matched check env params items)
    matched_spare [] items = tt
    matched_spare (param ∷ params) [] = tt
    matched_spare (param ∷ params) (item ∷ items) = sound_bind (λ pair. Spare pair.0 × AllSpare pair.1) AllSpare (both (argument check env (Wants param) item) (matched check env params items)) (λ parts. Ok (parts.0 ∷ parts.1))
        (sound_both Spare AllSpare (argument check env (Wants param) item) (matched check env params items) (argument_spares (Wants param) item) (matched_spare params items)) (λ parts h. h)

    pub many_spare : (rule : Rule) (place : Place) (types : List ValueType) (items : List Item) → Sound AllSpare (as_many check env rule place types items)
    many_spare rule place types items = sound_along AllSpare (with_rule (matched check env types items) (require (length types == length items) rule place)) (each (argument check env Unclear) (drop (length types) items))
        (sound_held AllSpare (matched check env types items) (length types == length items) rule place
        (sound_more AllSpare (λ ones. (length types == length items) ≡ true → AllSpare ones) (matched check env types items) (λ ones h many. h) (matched_spare types items)))

    pub arguments_spare : (place : Place) (params : Checked (List ValueType)) (items : List Item) → Sound AllSpare (arguments check env place params items)
    arguments_spare place (Ok params) items = many_spare rule.Arguments place params items
    arguments_spare place (Err rules) items = none (each (argument check env Unclear) items)
      where
        none : (m : Checked (List Typed)) → Sound AllSpare (m >> Err rules)
        none (Ok a) = tt
        none (Err other) = tt

  -- Elements ---------------------------------------------------------------------------------------------------------

  indexed_spares : (place : Place) (one : Typed) (item : ValueType) (keys : List Typed) → Spare one → AllSpare keys → Sound Spare (item_of place one item keys)
  indexed_spares place one item [] h all = tt
  indexed_spares place one item (index ∷ []) h all = (tt, (h, (all.0, tt)))
  indexed_spares place one item (first ∷ second ∷ more) h all = tt

  module _ (env : Env) where
    fitted_spare : (keys : List SimpleType) (written : List Expr) (ones : List Typed) → AllSpare ones → Sound AllSpare (fitted_keys env keys written ones)
    fitted_spare [] written ones all = tt
    fitted_spare (key ∷ keys) [] ones all = tt
    fitted_spare (key ∷ keys) (one ∷ others) [] all = tt
    fitted_spare (key ∷ keys) (one ∷ others) (first ∷ more) (h, all) = sound_bind (λ pair. Spare pair.0 × AllSpare pair.1) AllSpare
        (both (or_broken (fits (Simple key) first) rule.WrongType (expr_place env one)) (fitted_keys env keys others more)) (λ parts. Ok (parts.0 ∷ parts.1))
        (sound_both Spare AllSpare (or_broken (fits (Simple key) first) rule.WrongType (expr_place env one)) (fitted_keys env keys others more)
        (sound_or Spare (fits (Simple key) first) rule.WrongType (expr_place env one) (λ made is. fits_spare (Simple key) first made h is)) (fitted_spare keys others more all))
        (λ parts k. k)

    pub keys_spare : (place : Place) (keys : List SimpleType) (written : List Expr) (ones : List Typed) → AllSpare ones → Sound AllSpare (keys_fit env place keys written ones)
    keys_spare place keys written ones all = sound_bind AllSpare AllSpare (fitted_keys env keys written ones) _ (fitted_spare keys written ones all) (λ fitting h.
        sound_require AllSpare (length keys == length fitting && length keys == length ones) rule.WrongType place (Ok fitting) (λ held. h))

    pub element_spares : (place : Place) (one : Typed) (written : List Expr) (keys : List Typed) → Spare one → AllSpare keys → Sound Spare (element env place one written keys)
    element_spares place one written keys h all = by one.type one.expr h
      where
        by : (of : ValueType) (expr : form.Expr) → SparesExpr spared expr → Sound Spare (element env place (typed of expr) written keys)
        by (Table types item) expr h = sound_bind AllSpare Spare (keys_fit env place types written keys) (λ fitting. Ok (typed item (apply primitive.Element (typed (Table types item) expr ∷ fitting)))) (keys_spare place types written keys all)
            (λ fitting forms. (tt, (h, exprs_spare fitting forms)))
        by (Vector item) expr h = sound_bind AllSpare Spare (keys_fit env place (simple.Count ∷ []) written keys) (item_of place (typed (Vector item) expr) item) (keys_spare place (simple.Count ∷ []) written keys all)
            (λ ones forms. indexed_spares place (typed (Vector item) expr) item ones h forms)
        by of expr h = tt

  -- Records ----------------------------------------------------------------------------------------------------------

  abbrev GivenSpares : GivenField → Type 0
  GivenSpares one = Spare one.value

  givens_spare : (env : Env) (ones : List GivenField) → AllByRecursion GivenSpares ones → SpareGivens spared (givens env ones)
  givens_spare env [] all = tt
  givens_spare env (one ∷ ones) (first, others) = by one.wire (wire_read env one.value.expr) refl (givens_spare env ones others)
    where
      by : (wire : Bool) (read : Option (form.Expr × FieldNo)) → wire_read env one.value.expr ≡ read → SpareGivens spared (givens env ones)
          → SpareGivens spared (and_given env (record one { wire = wire }) (givens env ones))
      by true (Some read) r more = let told = rw (wire_is env one.value.expr read r) at first in rw r (told.1.0, more)
      by true None r more = rw r (first, more)
      by false read r more = (first, more)

  module _ (check : Check) (well : SparesWell check) (env : Env) where
    given_spares : (fields : List FieldInfo) (item : Item) → Sound GivenSpares (given_field check env fields item)
    given_spares fields item = by (out-Item item) refl
      where
        named : (place : ℕ) (name : Name) (value : Expr) (found : Option (ℕ × FieldInfo)) → out-Item item ≡ written.Item::Field place name value → field_named name.text 0 fields ≡ found → Sound GivenSpares (given_field check env fields item)
        named place name value None is e = rw (is, e) (never_ok GivenSpares (check Nothing value) rule.Field (at env place))
        named place name value (Some field) is e = rw (is, e) (sound_bind (λ pair. Unit {0} × Spare pair.1) GivenSpares (both field.1.field_type (check (wanted_of field.1.field_type) value)) _
            (sound_both (λ of. Unit {0}) Spare field.1.field_type (check (wanted_of field.1.field_type) value) (sound_any field.1.field_type) (well (wanted_of field.1.field_type) value)) (λ parts h. h.1))

        by : (f : Item-F Expr Item Part Link) → out-Item item ≡ f → Sound GivenSpares (given_field check env fields item)
        by (written.Item::Field place name value) is = named place name value (field_named name.text 0 fields) is refl
        by (written.Value value) is = rw is (never_ok GivenSpares (check Nothing value) rule.WrongType (expr_place env value))

    pub record_spares : (place : Place) (number : RecordNo) (items : List Item) → Sound Spare (record_typed check env place number items)
    record_spares place number items = sound_bind (AllByRecursion GivenSpares) Spare (each (given_field check env (fields_of env.scripts number.0)) items) _
        (sound_each GivenSpares (given_field check env (fields_of env.scripts number.0)) (given_spares (fields_of env.scripts number.0)) items)
        (λ given all. sound_after Spare (given_once env [] items given) _
        (sound_require Spare (all_given 0 (fields_of env.scripts number.0) given) rule.Field place (Ok (typed (Record number) (form.New number (givens env given)))) (λ whole. givens_spare env given all)))

    pub brackets_spare : (place : Place) (items : List Item) (wanted : Wanted) → Sound Spare (brackets_typed check env place items wanted)
    brackets_spare place items Unclear = sound_after Spare (item_values check Unclear items) elsewhere tt
    brackets_spare place items (Wants (Record number)) = record_spares place number items
    brackets_spare place items wanted = never_ok Spare (item_values check Nothing items) rule.WrongType place

  -- Containers -------------------------------------------------------------------------------------------------------

  all_joined : (ones : List (List Typed)) → AllByRecursion AllSpare ones → AllSpare (joined ones)
  all_joined [] all = tt
  all_joined (one ∷ ones) (first, others) = all_append Spare one (joined ones) first (all_joined ones others)

  module _ (check : Check) (well : SparesWell check) (env : Env) where
    value_alone : (wanted : Wanted) (one : Expr) → Sound AllSpare (one_value check wanted one)
    value_alone wanted one = sound_bind Spare AllSpare (check wanted one) (λ value. Ok (value ∷ [])) (well wanted one) (λ value h. (h, tt))

    keys_of_items : (place : Place) (keys : List SimpleType) (items : List Item) → Sound AllSpare (each_key check env place keys items)
    keys_of_items place keys items = many_spare check well env rule.WrongType place (map Simple keys) items

    abbrev in_brackets : List SimpleType → Expr → Option (ℕ × List Item) → Checked (List Typed)
    in_brackets keys one None = broken_anyway (check Nothing one) rule.WrongType (expr_place env one)
    in_brackets keys one (Some items) = each_key check env (at env items.0) keys items.1

    several_keys : (keys : List SimpleType) (one : Expr) (found : Option (ℕ × List Item)) → Sound AllSpare (in_brackets keys one found)
    several_keys keys one None = never_ok AllSpare (check Nothing one) rule.WrongType (expr_place env one)
    several_keys keys one (Some items) = keys_of_items (at env items.0) keys items.1

    member_spares : (keys : List SimpleType) (one : Expr) → Sound AllSpare (member_keys check env keys one)
    member_spares [] one = several_keys [] one (bracketed one)
    member_spares (key ∷ []) one = sound_bind Spare AllSpare (check (Wants (Simple key)) one) (λ fitting. Ok (fitting ∷ [])) (well (Wants (Simple key)) one) (λ fitting h. (h, tt))
    member_spares (key ∷ other ∷ keys) one = several_keys (key ∷ other ∷ keys) one (bracketed one)

    entry_spares : (keys : List SimpleType) (value : ValueType) (one : Expr) → Sound AllSpare (entry check env keys value one)
    entry_spares keys value one = by (out-Expr one) refl
      where
        wrong : Sound AllSpare (broken_anyway (check Nothing one) rule.WrongType (expr_place env one))
        wrong = never_ok AllSpare (check Nothing one) rule.WrongType (expr_place env one)

        set : (left right : Expr) (found : Option (ℕ × List Item)) → out-Expr one ≡ written.Assign left assigning.Set right → bracketed left ≡ found → Sound AllSpare (entry check env keys value one)
        set left right None is e = rw (is, e) wrong
        set left right (Some items) is e = rw (is, e) (sound_bind (λ pair. AllSpare pair.0 × Spare pair.1) AllSpare (both (each_key check env (at env items.0) keys items.1) (check (Wants value) right)) (λ parts. Ok (parts.0 ++ parts.1 ∷ []))
            (sound_both AllSpare Spare (each_key check env (at env items.0) keys items.1) (check (Wants value) right) (keys_of_items (at env items.0) keys items.1) (well (Wants value) right))
            (λ parts h. all_append Spare parts.0 (parts.1 ∷ []) h.0 (h.1, tt)))

        by : (f : Expr-F Expr Item Part Link) → out-Expr one ≡ f → Sound AllSpare (entry check env keys value one)
        by (written.Assign left assigning.Set right) is = set left right (bracketed left) is refl
        by f is = rw is wrong

    wanted_spares : (place : Place) (made : Container) (members : Members) → MembersWell members → (wanted : ValueType) → Sound Spare (wanted_container check env place made members wanted)
    wanted_spares place container.Table members all (Table keys value) = sound_bind (AllByRecursion AllSpare) Spare (members (entry check env keys value)) _
        (all AllSpare (entry check env keys value) (entry_spares keys value)) (λ parts h. (tt, exprs_spare (joined parts) (all_joined parts h)))
    wanted_spares place container.Set members all (Set keys) = sound_bind (AllByRecursion AllSpare) Spare (members (member_keys check env keys)) _
        (all AllSpare (member_keys check env keys) (member_spares keys)) (λ parts h. (tt, exprs_spare (joined parts) (all_joined parts h)))
    wanted_spares place container.Vector members all (Vector item) = sound_bind (AllByRecursion AllSpare) Spare (members (one_value check (Wants item))) _
        (all AllSpare (one_value check (Wants item)) (value_alone (Wants item))) (λ parts h. (tt, exprs_spare (joined parts) (all_joined parts h)))
    wanted_spares place made members all wanted = never_ok Spare (members (loosely check env made Nothing)) rule.WrongType place

    vector_spares : (place : Place) (ones : List Typed) → AllSpare ones → Sound Spare (vector_alone place ones)
    vector_spares place [] all = tt
    vector_spares place (first ∷ others) all = sound_require Spare (types_same first.type others) rule.WrongType place (Ok (typed (Vector first.type) (apply primitive.NewVector (first ∷ others)))) (λ same. (tt, exprs_spare (first ∷ others) all))

    set_spares : (place : Place) (ones : List (List Typed)) → AllByRecursion AllSpare ones → Sound Spare (set_alone place ones)
    set_spares place [] all = tt
    set_spares place (first ∷ others) all = sound_bind (λ keys. Unit {0}) Spare (simple_types place first) _ (sound_any (simple_types place first)) (λ keys any.
        sound_require Spare _ rule.WrongType place (Ok (typed (Set keys) (apply (primitive.NewSet (plain_shape keys)) (joined (first ∷ others))))) (λ fit. (tt, exprs_spare (joined (first ∷ others)) (all_joined (first ∷ others) all))))

    alone_spares : (place : Place) (made : Container) (members : Members) → MembersWell members → Sound Spare (container_alone check env place made members)
    alone_spares place container.Set members all = sound_bind (AllByRecursion AllSpare) Spare (members (left_of_in check env)) (set_alone place)
        (all AllSpare (left_of_in check env) (left_spare check well env)) (λ ones h. set_spares place ones h)
    alone_spares place container.Vector members all = sound_bind (AllByRecursion AllSpare) Spare (members (one_value check Nothing)) (λ parts. vector_alone place (joined parts))
        (all AllSpare (one_value check Nothing) (value_alone Nothing)) (λ ones h. vector_spares place (joined ones) (all_joined ones h))
    alone_spares place container.Table members all = never_ok Spare (members (loose check env Nothing)) rule.WrongType place

    pub container_spares : (place : Place) (made : Container) (members : Members) → MembersWell members → (wanted : Wanted) → Sound Spare (container_typed check env place made members wanted)
    container_spares place made members all Nothing = alone_spares place made members all
    container_spares place made members all Unclear = sound_after Spare (members (loosely check env made Unclear)) elsewhere tt
    container_spares place made members all (Wants wanted) = wanted_spares place made members all wanted

    pub braces_spare : (place : Place) (values : List Expr) (wanted : Wanted) → Sound Spare (braces_typed check env place values wanted)
    braces_spare place values (Wants (Table keys value)) = wanted_spares place container.Table (λ judge. each judge values) (λ P judge h. sound_each P judge h values) (Table keys value)
    braces_spare place values (Wants (Set keys)) = wanted_spares place container.Set (λ judge. each judge values) (λ P judge h. sound_each P judge h values) (Set keys)
    braces_spare place values (Wants (Vector item)) = wanted_spares place container.Vector (λ judge. each judge values) (λ P judge h. sound_each P judge h values) (Vector item)
    braces_spare place values Unclear = sound_after Spare (each (loose check env Unclear) values) elsewhere tt
    braces_spare place values wanted = never_ok Spare (each (loose check env Nothing) values) rule.WrongType place

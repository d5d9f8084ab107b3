-- Fields, elements, records and containers that the rules make have types.
use Rattle.std.proofs.Common.{◌≡◌, ℕ, suc, ◌+◌, ◌==◌, Bool, true, false, ◌&&◌, List, [], ◌∷◌, ◌++◌, length, Option, Some, None, Ok, Err, refl, sym, ap, ◌∙◌, arith, drop}
use Rattle.std.specs.Prelude.{slice_get, if◌then◌else◌}
use Rattle.std.specs.List.{AllByRecursion, list_all}
use Rattle.std.specs.Str.{bytes_eq}
use Rattle.std.proofs.lemmas.Bool.{and_parts, eqb-true}
use Rattle.zk_base.specs.declared.numbers.RecordNo.{RecordNo}
use Rattle.zk_tree.specs.declared.expr.Expr.{Expr, out-Expr}
use Rattle.zk_tree.specs.declared.expr.Expr.TheOpen.{Expr-F, Part-F, Item-F}
use Rattle.zk_tree.specs.declared.expr.Expr.TheOpen as written
use Rattle.zk_tree.specs.declared.expr.Item.{Item, out-Item}
use Rattle.zk_tree.specs.declared.expr.Link.{Link}
use Rattle.zk_tree.specs.declared.expr.Part.{Part}
use Rattle.zk_tree.specs.declared.name.Name.{Name}
use Rattle.zk_tree.specs.declared.operator.Assigning.TheVariants as assigning
use Rattle.zk_tree.specs.declared.operator.Container.{Container}
use Rattle.zk_tree.specs.declared.operator.Container.TheVariants as container
use Rattle.zk_tree.specs.declared.place.Place.{Place}
use Rattle.zk_typed.specs.declared.rule.Rule.{Rule}
use Rattle.zk_typed.specs.declared.rule.Rule.TheVariants as rule
use Rattle.zk_typed.specs.declared.script.primitive.FieldNo.{FieldNo}
use Rattle.zk_typed.specs.declared.script.primitive.Primitive.TheVariants as primitive
use Rattle.zk_typed.specs.declared.script.types.SimpleType.{SimpleType}
use Rattle.zk_typed.specs.declared.script.types.SimpleType.TheVariants as simple
use Rattle.zk_typed.specs.Checked.{Checked, elsewhere, ◌>>◌, both, each, or_broken, broken_anyway, with_rule, require}
use Rattle.zk_typed.specs.Forms as form
use Rattle.zk_typed.specs.Making.{argument, matched, arguments, field_named, field_of, is_wire, fitted_keys, keys_fit, element, GivenField, wire_read, and_given, givens, given_field, given_once, all_given, record_typed, plain_shape, Members, members_in, one_value, bracketed, each_key, member_keys, joined, entry, item_values, loose, loosely, wanted_container, types_same, vector_alone, simple_types, set_alone, container_alone, container_typed, braces_typed, brackets_typed, as_many}
use Rattle.zk_typed.specs.Operations.{same_type}
use Rattle.zk_typed.specs.Predefined as type
use Rattle.zk_typed.specs.Program.{Program}
use Rattle.zk_typed.specs.Resolving.{FieldInfo, fields_of}
use Rattle.zk_typed.specs.Types.{ValueType, Simple, Record, Table, Set, Vector}
use Rattle.zk_typed.specs.Typing.{Typed, typed, Env, at, apply, expr_place, Wanted, Nothing, Wants, Unclear, wanted_of, Check, fits, simple_type, on_item, left_of_in}
use Rattle.zk_sound.specs.Holding.{key_types}
use Rattle.zk_sound.specs.Worlds.{Names, field_type}
use Rattle.zk_sound.specs.Having.{HasForm, HaveForms, GivensFit, repeated}
use Rattle.zk_sound.specs.Agreeing.{EnvAgrees, LogsFit, GivenLogsFit}
use Rattle.std.proofs.lemmas.List.{length-map}
use Rattle.zk_sound.proofs.Growth.{all_append}
use Rattle.zk_sound.proofs.Same.{same_type_is}
use Rattle.zk_sound.proofs.Checks.{Sound, sound_bind, sound_after, never_ok, sound_require, sound_along, sound_held, sound_both, sound_each, sound_or, sound_is, sound_more}
use Rattle.zk_sound.proofs.Formed.{types_of, IsForm, Formed, ChecksWell, applied, fits_is, item_sound, left_sound}

-- forms of these types
abbrev pub AreForms : Program → Names → List ValueType → List Typed → Type 0
AreForms program names types ones = AllByRecursion (IsForm program names) ones × (types_of ones ≡ types)

-- Arguments --------------------------------------------------------------------------------------------------------

-- arguments have the types of their parameters, where there are as many
abbrev Match : Program → Names → List ValueType → List Item → List Typed → Type 0
Match program names params items ones = AllByRecursion (IsForm program names) ones × (length params ≡ length items → types_of ones ≡ params)

module _ (program : Program) (names : Names) (check : Check) (well : ChecksWell program names check) (env : Env) where
  pub argument_sound : (wanted : Wanted) (item : Item) → Sound (Formed program names wanted) (argument check env wanted item)
  argument_sound wanted item = item_sound program names check env (Formed program names wanted) (check wanted) (well wanted) item

  matched_sound : (params : List ValueType) (items : List Item) → Sound (Match program names params items) (matched check env params items)
  matched_sound [] items = (tt, λ e. refl)
  matched_sound (param ∷ params) [] = (tt, λ e. absurd (omega (arith, e)))
  matched_sound (param ∷ params) (item ∷ items) = sound_bind (λ pair. Formed program names (Wants param) pair.0 × Match program names params items pair.1) (Match program names (param ∷ params) (item ∷ items))
      (both (argument check env (Wants param) item) (matched check env params items)) (λ parts. Ok (parts.0 ∷ parts.1))
      (sound_both (Formed program names (Wants param)) (Match program names params items) (argument check env (Wants param) item) (matched check env params items) (argument_sound (Wants param) item) (matched_sound params items))
      (λ parts h. ((h.0.0, h.1.0), λ many. ap (λ x. x ∷ types_of parts.1) h.0.1 ∙ ap (λ xs. param ∷ xs) (h.1.1 (omega (arith, many)))))

  -- as many items as types have these
  pub many_sound : (rule : Rule) (place : Place) (types : List ValueType) (items : List Item) → Sound (AreForms program names types) (as_many check env rule place types items)
  many_sound rule place types items = sound_along (AreForms program names types) (with_rule (matched check env types items) (require (length types == length items) rule place)) (each (argument check env Unclear) (drop (length types) items))
      (sound_held (AreForms program names types) (matched check env types items) (length types == length items) rule place
      (sound_more (Match program names types items) (λ ones. (length types == length items) ≡ true → AreForms program names types ones) (matched check env types items)
      (λ ones h many. (h.0, h.1 (eqb-true (length types) (length items) many))) (matched_sound types items)))

  pub arguments_sound : (place : Place) (params : List ValueType) (items : List Item) → Sound (AreForms program names params) (arguments check env place (Ok params) items)
  arguments_sound place params items = many_sound rule.Arguments place params items

  pub given_arguments : (place : Place) (params : Checked (List ValueType)) (items : List Item) → Sound (λ args. (types : List ValueType) × (params ≡ Ok types) × AreForms program names types args) (arguments check env place params items)
  given_arguments place (Ok params) items = sound_more (AreForms program names params) _ (arguments check env place (Ok params) items) (λ args h. (params, refl, h)) (arguments_sound place params items)
  given_arguments place (Err rules) items = none (each (argument check env Unclear) items)
    where
      none : (m : Checked (List Typed)) → Sound (λ args. (types : List ValueType) × (Err rules ≡ Ok types) × AreForms program names types args) (m >> Err rules)
      none (Ok a) = tt
      none (Err other) = tt

  pub each_argument : (items : List Item) → Sound (AllByRecursion (IsForm program names)) (each (argument check env Nothing) items)
  each_argument items = sound_each (IsForm program names) (argument check env Nothing) (λ item. sound_more (Formed program names Nothing) (IsForm program names) (argument check env Nothing item) (λ one h. h.0) (argument_sound Nothing item)) items

module _ (program : Program) (names : Names) where
  -- what is made of the one form that there is
  pub one_form : {B : Type 0} (Q : B → Type 0) (next : List Typed → Checked B) (of : ValueType) → ((one : Typed) → IsForm program names one → one.type ≡ of → Sound Q (next (one ∷ []))) → (ones : List Typed) → AreForms program names (of ∷ []) ones → Sound Q (next ones)
  one_form Q next of h [] forms = absurd (no_one forms.1)
    where
      no_one : [] ≡ of ∷ [] → ⊥
      no_one e = cc
  one_form Q next of h (one ∷ []) forms = h one forms.0.0 (head forms.1)
    where
      head : one.type ∷ [] ≡ of ∷ [] → one.type ≡ of
      head e = cc
  one_form Q next of h (one ∷ other ∷ ones) forms = absurd (no_two forms.1)
    where
      no_two : one.type ∷ other.type ∷ types_of ones ≡ of ∷ [] → ⊥
      no_two e = cc

-- Fields -----------------------------------------------------------------------------------------------------------

named_at : (name : List ℕ) (number : ℕ) (fields : List FieldInfo) (found : ℕ × FieldInfo) → field_named name number fields ≡ Some found → (m : ℕ) × (found.0 ≡ number + m) × (slice_get fields m ≡ Some found.1)
named_at name number [] found is = absurd cc
named_at name number (field ∷ fields) found is = by (bytes_eq field.name name) (λ e. named_at name (number + 1) fields found e) is
  where
    here : (number, field) ≡ found → (m : ℕ) × (found.0 ≡ number + m) × (slice_get (field ∷ fields) m ≡ Some found.1)
    here same = (0, sym (ap (λ (pair : ℕ × FieldInfo). pair.0) same) ∙ omega arith, ap (λ (pair : ℕ × FieldInfo). Some pair.1) same)

    by : (same : Bool) → (field_named name (number + 1) fields ≡ Some found → (m : ℕ) × (found.0 ≡ number + 1 + m) × (slice_get fields m ≡ Some found.1))
        → (elim same [ true ↦ Some (number, field) | false ↦ field_named name (number + 1) fields ]) ≡ Some found → (m : ℕ) × (found.0 ≡ number + m) × (slice_get (field ∷ fields) m ≡ Some found.1)
    by true rest e = here cc
    by false rest e = let (m, far, there) = rest e in (suc m, far ∙ omega arith, there)

named_there : (name : List ℕ) (fields : List FieldInfo) (found : ℕ × FieldInfo) → field_named name 0 fields ≡ Some found → slice_get fields found.0 ≡ Some found.1
named_there name fields found is = let (m, far, there) = named_at name 0 fields found is in let same : found.0 ≡ m = far ∙ omega arith in rw same there

module _ (program : Program) (names : Names) (env : Env) (agree : EnvAgrees program names env) where
  -- a field of a record that is read
  abbrev pub FieldAt : Typed → FieldNo × ValueType → Type 0
  FieldAt one field = (one.type ≡ Record field.0.«record») × (field_type program field.0.«record» field.0.field ≡ Some field.1)

  pub field_sound : (place : Place) (name : Name) (one : Typed) → Sound (FieldAt one) (field_of env place name one)
  field_sound place name one = by one.type one.expr
    where
      in_record : (number : RecordNo) (expr : form.Expr) (found : Option (ℕ × FieldInfo)) → field_named name.text 0 (fields_of env.scripts number.0) ≡ found → Sound (FieldAt (typed (Record number) expr)) (field_of env place name (typed (Record number) expr))
      in_record number expr None e = rw e tt
      in_record number expr (Some field) e = rw e (sound_bind (λ of. field.1.field_type ≡ Ok of) (FieldAt (typed (Record number) expr)) field.1.field_type (λ of. Ok (record { «record» = number; field = field.0 }, of)) (sound_is field.1.field_type)
          (λ of known. (refl, agree.scripts.fields number field.0 field.1 of (named_there name.text (fields_of env.scripts number.0) field e) known)))

      by : (of : ValueType) (expr : form.Expr) → Sound (FieldAt (typed of expr)) (field_of env place name (typed of expr))
      by (Record number) expr = in_record number expr (field_named name.text 0 (fields_of env.scripts number.0)) refl
      by of expr = tt

-- Elements ---------------------------------------------------------------------------------------------------------

module _ (program : Program) (names : Names) (env : Env) where
  -- the keys that have a type, which are all where they are as many
  abbrev Fitted : List SimpleType → List Typed → Type 0
  Fitted keys ones = AllByRecursion (IsForm program names) ones × (length keys ≡ length ones → types_of ones ≡ key_types keys)

  fitted_sound : (keys : List SimpleType) (written : List Expr) (ones : List Typed) → AllByRecursion (IsForm program names) ones → Sound (Fitted keys) (fitted_keys env keys written ones)
  fitted_sound [] written ones all = (tt, λ many. refl)
  fitted_sound (key ∷ keys) [] ones all = (tt, λ many. absurd (omega (arith, many)))
  fitted_sound (key ∷ keys) (one ∷ others) [] all = (tt, λ many. absurd (omega (arith, many)))
  fitted_sound (key ∷ keys) (one ∷ others) (first ∷ more) (h, all) = sound_bind (λ pair. (IsForm program names pair.0 × (pair.0.type ≡ Simple key)) × Fitted keys pair.1) (Fitted (key ∷ keys))
      (both (or_broken (fits (Simple key) first) rule.WrongType (expr_place env one)) (fitted_keys env keys others more)) (λ parts. Ok (parts.0 ∷ parts.1))
      (sound_both (λ made. IsForm program names made × (made.type ≡ Simple key)) (Fitted keys) (or_broken (fits (Simple key) first) rule.WrongType (expr_place env one)) (fitted_keys env keys others more)
      (sound_or (λ made. IsForm program names made × (made.type ≡ Simple key)) (fits (Simple key) first) rule.WrongType (expr_place env one) (λ made is. fits_is program names (Simple key) first made h is))
      (fitted_sound keys others more all))
      (λ parts k. ((k.0.0, k.1.0), λ many. ap (λ x. x ∷ types_of parts.1) k.0.1 ∙ ap (λ xs. Simple key ∷ xs) (k.1.1 (omega (arith, many)))))

  pub keys_sound : (place : Place) (keys : List SimpleType) (written : List Expr) (ones : List Typed) → AllByRecursion (IsForm program names) ones → Sound (AreForms program names (key_types keys)) (keys_fit env place keys written ones)
  keys_sound place keys written ones all = sound_bind (Fitted keys) (AreForms program names (key_types keys)) (fitted_keys env keys written ones) _ (fitted_sound keys written ones all) (λ fitting h.
      sound_require (AreForms program names (key_types keys)) (length keys == length fitting && length keys == length ones) rule.WrongType place (Ok fitting) (λ held.
      (h.0, h.1 (eqb-true (length keys) (length fitting) (left_true (length keys == length fitting) held)))))
    where
      left_true : (a : Bool) → a && length keys == length ones ≡ true → a ≡ true
      left_true true held = refl
      left_true false held = absurd cc

  pub element_sound : (place : Place) (one : Typed) (written : List Expr) (keys : List Typed) → IsForm program names one → AllByRecursion (IsForm program names) keys → Sound (IsForm program names) (element env place one written keys)
  element_sound place one written keys h all = by one.type one.expr h
    where
      by : (of : ValueType) (expr : form.Expr) → IsForm program names (typed of expr) → Sound (IsForm program names) (element env place (typed of expr) written keys)
      by (Table types item) expr h = sound_bind (AreForms program names (key_types types)) (IsForm program names) (keys_fit env place types written keys) (λ fitting. Ok (typed item (apply primitive.Element (typed (Table types item) expr ∷ fitting)))) (keys_sound place types written keys all)
          (λ fitting forms. applied program names primitive.Element (typed (Table types item) expr ∷ fitting) item (h, forms.0) (types, ap (λ xs. Table types item ∷ xs) forms.1))
      by (Vector item) expr h = sound_bind (AreForms program names (type.count ∷ [])) (IsForm program names) (keys_fit env place (simple.Count ∷ []) written keys) _ (keys_sound place (simple.Count ∷ []) written keys all)
          (one_form program names (IsForm program names) _ type.count (λ index k counted. applied program names primitive.Item (typed (Vector item) expr ∷ index ∷ []) item (h, (k, tt)) (ap (λ y. Vector item ∷ y ∷ []) counted)))
      by of expr h = tt

-- Records ----------------------------------------------------------------------------------------------------------

pub wire_is : (env : Env) (one : form.Expr) (read : form.Expr × FieldNo) → wire_read env one ≡ Some read → one ≡ form.Apply (primitive.Field read.1) (form.AndExpr read.0 form.NoExpr)
wire_is env (form.Apply (primitive.Field read) (form.AndExpr «from» form.NoExpr)) given is = by (is_wire env read) is
  where
    by : (wire : Bool) → (if wire then Some («from», read) else None) ≡ Some given → form.Apply (primitive.Field read) (form.AndExpr «from» form.NoExpr) ≡ form.Apply (primitive.Field given.1) (form.AndExpr given.0 form.NoExpr)
    by true e = let same : («from», read) ≡ given = cc in ap (λ (pair : form.Expr × FieldNo). form.Apply (primitive.Field pair.1) (form.AndExpr pair.0 form.NoExpr)) same
    by false e = absurd cc
wire_is env one given is = absurd cc

-- a field that a constructor gives
pub record GivenForm (program : Program) (names : Names) (number : RecordNo) (one : GivenField) : Type 0 where
  pub of : ValueType
  pub field : field_type program number one.number ≡ Some of
  pub form : IsForm program names one.value
  pub is : one.value.type ≡ of

module _ (program : Program) (names : Names) (env : Env) where
  -- what is read of a wire field is a field of a record
  pub wire_form : (one : Typed) (read : form.Expr × FieldNo) → IsForm program names one → one.expr ≡ form.Apply (primitive.Field read.1) (form.AndExpr read.0 form.NoExpr) → LogsFit program read.0
      → HasForm program names read.0 (Record read.1.«record») × (field_type program read.1.«record» read.1.field ≡ Some one.type)
  wire_form one read h is logs = by (rw is at h)
    where
      by : (LogsFit program (form.Apply (primitive.Field read.1) (form.AndExpr read.0 form.NoExpr)) → HasForm program names (form.Apply (primitive.Field read.1) (form.AndExpr read.0 form.NoExpr)) one.type)
          → HasForm program names read.0 (Record read.1.«record») × (field_type program read.1.«record» read.1.field ≡ Some one.type)
      by h =
          let (types, have, takes) = h (tt, (logs, tt)) in
          let forms : HaveForms program names (form.AndExpr read.0 form.NoExpr) (Record read.1.«record» ∷ []) = rw takes.0 at have in
          (forms.0, takes.1)

  given_forms : (number : RecordNo) (ones : List GivenField) → AllByRecursion (GivenForm program names number) ones → GivenLogsFit program (givens env ones) → GivensFit program names number (givens env ones)
  given_forms number [] all logs = tt
  given_forms number (one ∷ ones) (first, others) logs = by one.wire (wire_read env one.value.expr) refl refl logs (given_forms number ones others)
    where
      by : (wire : Bool) (read : Option (form.Expr × FieldNo)) → one.wire ≡ wire → wire_read env one.value.expr ≡ read → GivenLogsFit program (and_given env one (givens env ones)) → (GivenLogsFit program (givens env ones) → GivensFit program names number (givens env ones))
          → GivensFit program names number (and_given env one (givens env ones))
      by true (Some read) w r logs more =
          let told : GivenLogsFit program (form.AndWire one.number read.0 read.1 (givens env ones)) = rw (w, r) at logs in
          let parts = wire_form one.value read first.form (wire_is env one.value.expr read r) told.0 in
          rw (w, r) (first.of, first.field, parts.1 ∙ ap Some first.is, parts.0, more told.1)
      by true None w r logs more =
          let told : GivenLogsFit program (form.AndField one.number one.value.expr (givens env ones)) = rw (w, r) at logs in
          rw (w, r) (first.of, first.field, (rw first.is at (first.form told.0)), more told.1)
      by false read w r logs more =
          let told : GivenLogsFit program (form.AndField one.number one.value.expr (givens env ones)) = rw w at logs in
          rw w (first.of, first.field, (rw first.is at (first.form told.0)), more told.1)

module _ (program : Program) (names : Names) (check : Check) (well : ChecksWell program names check) (env : Env) (agree : EnvAgrees program names env) where
  given_sound : (number : RecordNo) (item : Item) → Sound (GivenForm program names number) (given_field check env (fields_of env.scripts number.0) item)
  given_sound number item = by (out-Item item) refl
    where
      fields : List FieldInfo
      fields = fields_of env.scripts number.0

      named : (place : ℕ) (name : Name) (value : Expr) (found : Option (ℕ × FieldInfo)) → out-Item item ≡ written.Item::Field place name value → field_named name.text 0 fields ≡ found → Sound (GivenForm program names number) (given_field check env fields item)
      named place name value None is e = rw (is, e) (never_ok (GivenForm program names number) (check Nothing value) rule.Field (at env place))
      named place name value (Some field) is e = rw (is, e) (sound_bind (λ pair. (field.1.field_type ≡ Ok pair.0) × Formed program names (wanted_of field.1.field_type) pair.1) (GivenForm program names number)
          (both field.1.field_type (check (wanted_of field.1.field_type) value)) (λ parts. Ok (record { number = field.0; wire = field.1.wire; value = parts.1 }))
          (sound_both (λ of. field.1.field_type ≡ Ok of) (Formed program names (wanted_of field.1.field_type)) field.1.field_type (check (wanted_of field.1.field_type) value) (sound_is field.1.field_type) (well (wanted_of field.1.field_type) value))
          (λ parts h. let known = wanted_known field.1.field_type parts.0 parts.1 h.0 h.1 in record {
            of = parts.0;
            field = agree.scripts.fields number field.0 field.1 parts.0 (named_there name.text fields field e) h.0;
            form = known.0;
            is = known.1;
          }))
        where
          wanted_known : (told : Checked ValueType) (of : ValueType) (one : Typed) → told ≡ Ok of → Formed program names (wanted_of told) one → IsForm program names one × (one.type ≡ of)
          wanted_known (Ok other) of one e is = let same : other ≡ of = cc in (is.0, is.1 ∙ same)
          wanted_known (Err rules) of one e is = absurd cc

      by : (f : Item-F Expr Item Part Link) → out-Item item ≡ f → Sound (GivenForm program names number) (given_field check env fields item)
      by (written.Item::Field place name value) is = named place name value (field_named name.text 0 fields) is refl
      by (written.Value value) is = rw is (never_ok (GivenForm program names number) (check Nothing value) rule.WrongType (expr_place env value))

  pub record_sound : (place : Place) (number : RecordNo) (items : List Item) → Sound (Formed program names (Wants (Record number))) (record_typed check env place number items)
  record_sound place number items = sound_bind (AllByRecursion (GivenForm program names number)) (Formed program names (Wants (Record number))) (each (given_field check env (fields_of env.scripts number.0)) items) _
      (sound_each (GivenForm program names number) (given_field check env (fields_of env.scripts number.0)) (given_sound number) items)
      (λ given all. sound_after (Formed program names (Wants (Record number))) (given_once env [] items given) _
      (sound_require (Formed program names (Wants (Record number))) (all_given 0 (fields_of env.scripts number.0) given) rule.Field place (Ok (typed (Record number) (form.New number (givens env given))))
      (λ whole. ((λ logs. (refl, given_forms program names env number given all logs)), refl))))

  pub brackets_sound : (place : Place) (items : List Item) (wanted : Wanted) → Sound (Formed program names wanted) (brackets_typed check env place items wanted)
  brackets_sound place items Unclear = sound_after (Formed program names Unclear) (item_values check Unclear items) elsewhere tt
  brackets_sound place items (Wants (Record number)) = record_sound place number items
  brackets_sound place items wanted = never_ok (Formed program names wanted) (item_values check Nothing items) rule.WrongType place

-- Containers -------------------------------------------------------------------------------------------------------

types_append : (ones others : List Typed) → types_of (ones ++ others) ≡ types_of ones ++ types_of others
types_append [] others = refl
types_append (one ∷ ones) others = ap (λ xs. one.type ∷ xs) (types_append ones others)

module _ (program : Program) (names : Names) where
  joined_forms : (types : List ValueType) (parts : List (List Typed)) → AllByRecursion (AreForms program names types) parts → AreForms program names (repeated (length parts) types) (joined parts)
  joined_forms types [] all = (tt, refl)
  joined_forms types (one ∷ parts) (first, others) = let rest = joined_forms types parts others in
      (all_append (IsForm program names) one (joined parts) first.0 rest.0, types_append one (joined parts) ∙ (ap (λ xs. xs ++ types_of (joined parts)) first.1 ∙ ap (λ xs. types ++ xs) rest.1))

-- keys that a set has
abbrev fitting : List SimpleType → List Typed → Bool
fitting [] ones = true
fitting (key ∷ keys) [] = true
fitting (key ∷ keys) (one ∷ ones) = same_type one.type (Simple key) && fitting keys ones

-- the keys of a member, where it is brackets
abbrev in_brackets : Check → Env → List SimpleType → Expr → Option (ℕ × List Item) → Checked (List Typed)
in_brackets check env keys one None = broken_anyway (check Nothing one) rule.WrongType (expr_place env one)
in_brackets check env keys one (Some items) = each_key check env (at env items.0) keys items.1

-- what checks the members of a container holds of them what holds of each
abbrev pub MembersWell : Members → Type 1
MembersWell members = (P : List Typed → Type 0) (judge : Expr → Checked (List Typed)) → ((one : Expr) → Sound P (judge one)) → Sound (AllByRecursion P) (members judge)

-- items do so
pub members_in_well : (check : Check) (env : Env) (items : List Item) → MembersWell (members_in check env items)
members_in_well check env items P judge h = sound_each P (on_item check env judge) (λ item. by item (out-Item item) refl) items
  where
    by : (item : Item) (f : Item-F Expr Item Part Link) → out-Item item ≡ f → Sound P (on_item check env judge item)
    by item (written.Value one) is = rw is (h one)
    by item (written.Item::Field place name one) is = rw is (never_ok P (check Nothing one) rule.WrongType (at env place))

module _ (program : Program) (names : Names) (check : Check) (well : ChecksWell program names check) (env : Env) where
  pub members_well : (items : List Item) → MembersWell (members_in check env items)
  members_well items P judge h = sound_each P (on_item check env judge) (item_sound program names check env P judge h) items

  value_alone : (wanted : ValueType) (one : Expr) → Sound (AreForms program names (wanted ∷ [])) (one_value check (Wants wanted) one)
  value_alone wanted one = sound_bind (Formed program names (Wants wanted)) (AreForms program names (wanted ∷ [])) (check (Wants wanted) one) (λ value. Ok (value ∷ [])) (well (Wants wanted) one) (λ value h. ((h.0, tt), ap (λ x. x ∷ []) h.1))

  keys_of_items : (place : Place) (keys : List SimpleType) (items : List Item) → Sound (AreForms program names (key_types keys)) (each_key check env place keys items)
  keys_of_items place keys items = many_sound program names check well env rule.WrongType place (key_types keys) items

  several_keys : (keys : List SimpleType) (one : Expr) (found : Option (ℕ × List Item)) → Sound (AreForms program names (key_types keys)) (in_brackets check env keys one found)
  several_keys keys one None = never_ok (AreForms program names (key_types keys)) (check Nothing one) rule.WrongType (expr_place env one)
  several_keys keys one (Some items) = keys_of_items (at env items.0) keys items.1

  -- the keys of a member
  member_sound : (keys : List SimpleType) (one : Expr) → Sound (AreForms program names (key_types keys)) (member_keys check env keys one)
  member_sound [] one = several_keys [] one (bracketed one)
  member_sound (key ∷ []) one = sound_bind (Formed program names (Wants (Simple key))) (AreForms program names (key_types (key ∷ []))) (check (Wants (Simple key)) one) (λ fitting. Ok (fitting ∷ [])) (well (Wants (Simple key)) one) (λ fitting h. ((h.0, tt), ap (λ x. x ∷ []) h.1))
  member_sound (key ∷ other ∷ keys) one = several_keys (key ∷ other ∷ keys) one (bracketed one)

  -- an entry of a table
  entry_sound : (keys : List SimpleType) (value : ValueType) (one : Expr) → Sound (AreForms program names (key_types keys ++ value ∷ [])) (entry check env keys value one)
  entry_sound keys value one = by (out-Expr one) refl
    where
      Entry : List Typed → Type 0
      Entry = AreForms program names (key_types keys ++ value ∷ [])

      wrong : Sound Entry (broken_anyway (check Nothing one) rule.WrongType (expr_place env one))
      wrong = never_ok Entry (check Nothing one) rule.WrongType (expr_place env one)

      set : (left right : Expr) (found : Option (ℕ × List Item)) → out-Expr one ≡ written.Assign left assigning.Set right → bracketed left ≡ found → Sound Entry (entry check env keys value one)
      set left right None is e = rw (is, e) wrong
      set left right (Some items) is e = rw (is, e) (sound_bind (λ pair. AreForms program names (key_types keys) pair.0 × Formed program names (Wants value) pair.1) Entry
          (both (each_key check env (at env items.0) keys items.1) (check (Wants value) right)) (λ parts. Ok (parts.0 ++ parts.1 ∷ []))
          (sound_both (AreForms program names (key_types keys)) (Formed program names (Wants value)) (each_key check env (at env items.0) keys items.1) (check (Wants value) right) (keys_of_items (at env items.0) keys items.1) (well (Wants value) right))
          (λ parts h. (all_append (IsForm program names) parts.0 (parts.1 ∷ []) h.0.0 (h.1.0, tt), types_append parts.0 (parts.1 ∷ []) ∙ (ap (λ xs. xs ++ parts.1.type ∷ []) h.0.1 ∙ ap (λ x. key_types keys ++ x ∷ []) h.1.1))))

      by : (f : Expr-F Expr Item Part Link) → out-Expr one ≡ f → Sound Entry (entry check env keys value one)
      by (written.Assign left assigning.Set right) is = set left right (bracketed left) is refl
      by f is = rw is wrong

  wanted_sound : (place : Place) (made : Container) (members : Members) → MembersWell members → (wanted : ValueType) → Sound (Formed program names (Wants wanted)) (wanted_container check env place made members wanted)
  wanted_sound place container.Table members all (Table keys value) = sound_bind (AllByRecursion (AreForms program names (key_types keys ++ value ∷ []))) (Formed program names (Wants (Table keys value))) (members (entry check env keys value)) _
      (all (AreForms program names (key_types keys ++ value ∷ [])) (entry check env keys value) (entry_sound keys value))
      (λ parts h. let forms = joined_forms program names (key_types keys ++ value ∷ []) parts h in
      (applied program names (primitive.NewTable (plain_shape keys)) (joined parts) (Table keys value) forms.0 (keys, value, length parts, forms.1, refl, refl, tt), refl))
  wanted_sound place container.Set members all (Set keys) = sound_bind (AllByRecursion (AreForms program names (key_types keys))) (Formed program names (Wants (Set keys))) (members (member_keys check env keys)) _
      (all (AreForms program names (key_types keys)) (member_keys check env keys) (member_sound keys))
      (λ parts h. let forms = joined_forms program names (key_types keys) parts h in
      (applied program names (primitive.NewSet (plain_shape keys)) (joined parts) (Set keys) forms.0 (keys, length parts, forms.1, refl, refl), refl))
  wanted_sound place container.Vector members all (Vector item) = sound_bind (AllByRecursion (AreForms program names (item ∷ []))) (Formed program names (Wants (Vector item))) (members (one_value check (Wants item))) _
      (all (AreForms program names (item ∷ [])) (one_value check (Wants item)) (value_alone item))
      (λ parts h. let forms = joined_forms program names (item ∷ []) parts h in
      (applied program names primitive.NewVector (joined parts) (Vector item) forms.0 (item, length parts, forms.1, refl), refl))
  wanted_sound place made members all wanted = never_ok (Formed program names (Wants wanted)) (members (loosely check env made Nothing)) rule.WrongType place

  -- Containers whose types no place asks -----------------------------------------------------------------------------

  same_all : (of : ValueType) (ones : List Typed) → types_same of ones ≡ true → types_of ones ≡ repeated (length ones) (of ∷ [])
  same_all of [] e = refl
  same_all of (one ∷ ones) e = let parts = and_parts (same_type one.type of) (types_same of ones) e in
      ap (λ x. x ∷ types_of ones) (same_type_is one.type of parts.0) ∙ ap (λ xs. of ∷ xs) (same_all of ones parts.1)

  vector_sound : (place : Place) (ones : List Typed) → AllByRecursion (IsForm program names) ones → Sound (IsForm program names) (vector_alone place ones)
  vector_sound place [] all = tt
  vector_sound place (first ∷ others) all = sound_require (IsForm program names) (types_same first.type others) rule.WrongType place (Ok (typed (Vector first.type) (apply primitive.NewVector (first ∷ others)))) (λ same.
      applied program names primitive.NewVector (first ∷ others) (Vector first.type) all (first.type, suc (length others), ap (λ xs. first.type ∷ xs) (same_all first.type others same), refl))

  simples_sound : (place : Place) (ones : List Typed) → Sound (λ keys. types_of ones ≡ key_types keys) (simple_types place ones)
  simples_sound place [] = refl
  simples_sound place (one ∷ ones) = sound_bind (λ pair. (one.type ≡ Simple pair.0) × (types_of ones ≡ key_types pair.1)) (λ keys. types_of (one ∷ ones) ≡ key_types keys) (both (simple_type place one) (simple_types place ones)) (λ parts. Ok (parts.0 ∷ parts.1))
      (sound_both (λ key. one.type ≡ Simple key) (λ keys. types_of ones ≡ key_types keys) (simple_type place one) (simple_types place ones) (by one.type one.expr) (simples_sound place ones))
      (λ parts h. ap (λ x. x ∷ types_of ones) h.0 ∙ ap (λ xs. Simple parts.0 ∷ xs) h.1)
    where
      by : (of : ValueType) (expr : form.Expr) → Sound (λ key. of ≡ Simple key) (simple_type place (typed of expr))
      by (Simple key) expr = refl
      by of expr = tt

  -- a set of the keys that its members have
  fit_types : (keys : List SimpleType) (ones : List Typed) → length ones ≡ length keys → fitting keys ones ≡ true → types_of ones ≡ key_types keys
  fit_types [] [] long e = refl
  fit_types [] (one ∷ ones) long e = absurd (omega (arith, long))
  fit_types (key ∷ keys) [] long e = absurd (omega (arith, long))
  fit_types (key ∷ keys) (one ∷ ones) long e = let parts = and_parts (same_type one.type (Simple key)) (fitting keys ones) e in
      ap (λ x. x ∷ types_of ones) (same_type_is one.type (Simple key) parts.0) ∙ ap (λ xs. Simple key ∷ xs) (fit_types keys ones (omega (arith, long)) parts.1)

  all_fitting : (keys : List SimpleType) (many : ℕ) (others : List (List Typed)) → many ≡ length keys → AllByRecursion (AllByRecursion (IsForm program names)) others → list_all (λ one. length one == many && fitting keys one) others ≡ true
      → AllByRecursion (AreForms program names (key_types keys)) others
  all_fitting keys many [] long all e = tt
  all_fitting keys many (one ∷ others) long (first, rest) e =
      let parts = and_parts (length one == many && fitting keys one) (list_all (λ one. length one == many && fitting keys one) others) e in
      let both = and_parts (length one == many) (fitting keys one) parts.0 in
      ((first, fit_types keys one (eqb-true (length one) many both.0 ∙ long) both.1), all_fitting keys many others long rest parts.1)

  set_sound : (place : Place) (ones : List (List Typed)) → AllByRecursion (AllByRecursion (IsForm program names)) ones → Sound (IsForm program names) (set_alone place ones)
  set_sound place [] all = tt
  set_sound place (first ∷ others) (head, rest) = sound_bind (λ keys. types_of first ≡ key_types keys) (IsForm program names) (simple_types place first) _ (simples_sound place first) (λ keys is.
      sound_require (IsForm program names) (list_all (λ one. length one == length first && fitting keys one) others) rule.WrongType place (Ok (typed (Set keys) (apply (primitive.NewSet (plain_shape keys)) (joined (first ∷ others))))) (λ fit.
      let long : length first ≡ length keys = sym (length-map first (λ (one : Typed). one.type)) ∙ (ap length is ∙ length-map keys Simple) in
      let forms = joined_forms program names (key_types keys) (first ∷ others) ((head, is), all_fitting keys (length first) others long rest fit) in
      applied program names (primitive.NewSet (plain_shape keys)) (joined (first ∷ others)) (Set keys) forms.0 (keys, suc (length others), forms.1, refl, refl)))

  all_joined : (ones : List (List Typed)) → AllByRecursion (AllByRecursion (IsForm program names)) ones → AllByRecursion (IsForm program names) (joined ones)
  all_joined [] all = tt
  all_joined (one ∷ ones) (first, others) = all_append (IsForm program names) one (joined ones) first (all_joined ones others)

  any_value : (one : Expr) → Sound (AllByRecursion (IsForm program names)) (one_value check Nothing one)
  any_value one = sound_bind (Formed program names Nothing) (AllByRecursion (IsForm program names)) (check Nothing one) (λ value. Ok (value ∷ [])) (well Nothing one) (λ value h. (h.0, tt))

  alone_sound : (place : Place) (made : Container) (members : Members) → MembersWell members → Sound (IsForm program names) (container_alone check env place made members)
  alone_sound place container.Set members all = sound_bind (AllByRecursion (AllByRecursion (IsForm program names))) (IsForm program names) (members (left_of_in check env)) (set_alone place)
      (all (AllByRecursion (IsForm program names)) (left_of_in check env) (λ one. left_sound program names check env well one)) (λ ones h. set_sound place ones h)
  alone_sound place container.Vector members all = sound_bind (AllByRecursion (AllByRecursion (IsForm program names))) (IsForm program names) (members (one_value check Nothing)) (λ parts. vector_alone place (joined parts))
      (all (AllByRecursion (IsForm program names)) (one_value check Nothing) any_value) (λ ones h. vector_sound place (joined ones) (all_joined ones h))
  alone_sound place container.Table members all = never_ok (IsForm program names) (members (loose check env Nothing)) rule.WrongType place

  pub container_sound : (place : Place) (made : Container) (members : Members) → MembersWell members → (wanted : Wanted) → Sound (Formed program names wanted) (container_typed check env place made members wanted)
  container_sound place made members all Nothing = sound_more (IsForm program names) (Formed program names Nothing) (container_alone check env place made members) (λ one h. (h, tt)) (alone_sound place made members all)
  container_sound place made members all Unclear = sound_after (Formed program names Unclear) (members (loosely check env made Unclear)) elsewhere tt
  container_sound place made members all (Wants wanted) = wanted_sound place made members all wanted

  pub braces_sound : (place : Place) (values : List Expr) (wanted : Wanted) → Sound (Formed program names wanted) (braces_typed check env place values wanted)
  braces_sound place values (Wants (Table keys value)) = wanted_sound place container.Table (λ judge. each judge values) (λ P judge h. sound_each P judge h values) (Table keys value)
  braces_sound place values (Wants (Set keys)) = wanted_sound place container.Set (λ judge. each judge values) (λ P judge h. sound_each P judge h values) (Set keys)
  braces_sound place values (Wants (Vector item)) = wanted_sound place container.Vector (λ judge. each judge values) (λ P judge h. sound_each P judge h values) (Vector item)
  braces_sound place values Unclear = sound_after (Formed program names Unclear) (each (loose check env Unclear) values) elsewhere tt
  braces_sound place values wanted = never_ok (Formed program names wanted) (each (loose check env Nothing) values) rule.WrongType place

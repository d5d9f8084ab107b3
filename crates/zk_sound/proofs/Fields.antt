-- A field that is marked `&log` is of a type that columns have, wherever its record type stands in the texts.
use Rattle.std.proofs.Common.{◌≡◌, ℕ, zero, suc, Bool, true, false, not, List, [], ◌∷◌, ◌++◌, flat_map, codes, Ok, Err, refl, sym, ap, subst, ◌∙◌, append-nil}
use Rattle.std.specs.Prelude.{◌&&◌, ◌||◌, is_some}
use Rattle.std.specs.List.{AllByRecursion, list_any}
use Rattle.std.specs.Str.{bytes_eq}
use Rattle.std.proofs.lemmas.Bool.{and_parts}
use Rattle.std.proofs.lemmas.Slice.Eq.{bytes_eq-Decides}
use Rattle.zk_tree.specs.declared.name.Name.{Name}
use Rattle.zk_tree.specs.declared.place.Place.{Place}
use Rattle.zk_tree.specs.declared.types.Attr.{Attr}
use Rattle.zk_tree.specs.declared.types.Field.{Field, out-Field}
use Rattle.zk_tree.specs.declared.types.Param.{Param}
use Rattle.zk_tree.specs.declared.types.Type.{«Type», out-Type, roll-Type}
use Rattle.zk_tree.specs.declared.types.Type as tree
use Rattle.zk_tree.specs.declared.types.Type.TheViews.{roll-out-Type}
use Rattle.zk_tree.specs.declared.types.Type.TheOpen.{Type-F}
use Rattle.zk_tree.specs.declared.types.Type.TheOpen as written
use Rattle.zk_tree.specs.Opening.{trees}
use Rattle.zk_tree.specs.Places.{type_place}
use Rattle.zk_typed.specs.declared.rule.Rule.{Rule}
use Rattle.zk_typed.specs.declared.rule.Rule.TheVariants as rule
use Rattle.zk_typed.specs.declared.script.types.SimpleType.{SimpleType}
use Rattle.zk_typed.specs.Checked.{Checked, broken, ◌>>=◌, ◌>>◌, both, each, require, rules_of}
use Rattle.zk_typed.specs.Declarations.{is_one_of, is_expiry, attr_rules, with_value, is_column, field_attribute, nothing, field_default, env_at, field_rules, fields_rules, nested_to}
use Rattle.zk_typed.specs.LoadOrder.{Home}
use Rattle.zk_typed.specs.Names.{Node, RecordNode, EnumNode, node}
use Rattle.zk_typed.specs.Resolving.{Scripts, place_in, as_key, has_attr, type_to, type_of}
use Rattle.zk_typed.specs.Types.{ValueType, Simple, Record, Table, Set, Vector}
use Rattle.zk_typed.specs.Within.{within}
use Rattle.zk_sound.proofs.Growth.{all_append}
use Rattle.zk_sound.proofs.Told.{Tells, right_told, untold_both, untold_bind}

-- What stands within a type, by its parts ------------------------------------------------------------------------------

abbrev behind : {A : Type 0} → List A → List A
behind [] = []
behind (one ∷ others) = others

set_parts : (place : ℕ) (keys : List «Type») → behind (within (tree.Set place keys)) ≡ flat_map within keys
unfolding trees
set_parts place [] = refl
set_parts place (key ∷ keys) = ap (λ more. within key ++ more) (set_parts place keys)

within_set : (place : ℕ) (keys : List «Type») → within (tree.Set place keys) ≡ tree.Set place keys ∷ flat_map within keys
unfolding trees
within_set place keys = ap (λ more. tree.Set place keys ∷ more) (set_parts place keys)

within_vector : (place : ℕ) (item : «Type») → within (tree.Vector place item) ≡ tree.Vector place item ∷ within item
unfolding trees
within_vector place item = ap (λ more. tree.Vector place item ∷ more) (append-nil (within item))

within_table : (place : ℕ) (keys : List «Type») (value : «Type») → within (tree.Table place keys value) ≡ tree.Table place keys value ∷ (flat_map within keys ++ within value)
unfolding trees
within_table place keys value =
    ap (λ more. tree.Table place keys value ∷ (more ++ (within value ++ []))) (set_parts place keys) ∙
    ap (λ more. tree.Table place keys value ∷ (flat_map within keys ++ more)) (append-nil (within value))

record_parts : (place : ℕ) (fields : List Field) → behind (within (tree.Record place fields)) ≡ flat_map (λ field. within (out-Field field).field_type) fields
unfolding trees
record_parts place [] = refl
record_parts place (field ∷ fields) = ap (λ more. within (out-Field field).field_type ++ more) (record_parts place fields)

within_record : (place : ℕ) (fields : List Field) → within (tree.Record place fields) ≡ tree.Record place fields ∷ flat_map (λ field. within (out-Field field).field_type) fields
unfolding trees
within_record place fields = ap (λ more. tree.Record place fields ∷ more) (record_parts place fields)

-- a type is what its form says
pub opened : (t made : «Type») (form : Type-F «Type» Field Param) → out-Type t ≡ form → roll-Type form ≡ made → t ≡ made
opened t made form is rolled = sym (roll-out-Type t) ∙ (ap roll-Type is ∙ rolled)

-- the types within one, by its form
alone_is : (t : «Type») → within t ≡ t ∷ [] → (P : «Type» → Type 0) → P t → AllByRecursion P (within t)
alone_is t is P h = rw is (h, tt)

atomic_alone : (t : «Type») (place : ℕ) (atomic : _) → out-Type t ≡ written.Atomic place atomic → within t ≡ t ∷ []
unfolding roll-Type denote.Hole.Carrier.roll
atomic_alone t place atomic is = let same : t ≡ tree.Atomic place atomic = opened t (tree.Atomic place atomic) (written.Atomic place atomic) is refl in rw same refl

named_alone : (t : «Type») (name : Name) → out-Type t ≡ written.Named name → within t ≡ t ∷ []
unfolding roll-Type denote.Hole.Carrier.roll
named_alone t name is = let same : t ≡ tree.Named name = opened t (tree.Named name) (written.Named name) is refl in rw same refl

enum_alone : (t : «Type») (place : ℕ) (words : List Name) (comma : Bool) → out-Type t ≡ written.Enum place words comma → within t ≡ t ∷ []
unfolding roll-Type denote.Hole.Carrier.roll
enum_alone t place words comma is = let same : t ≡ tree.Enum place words comma = opened t (tree.Enum place words comma) (written.Enum place words comma) is refl in rw same refl

in_table : (t : «Type») (place : ℕ) (keys : List «Type») (value : «Type») → out-Type t ≡ written.Table place keys value → within t ≡ t ∷ (flat_map within keys ++ within value)
unfolding roll-Type denote.Hole.Carrier.roll
in_table t place keys value is =
    let same : t ≡ tree.Table place keys value = opened t (tree.Table place keys value) (written.Table place keys value) is refl in
    ap within same ∙ (within_table place keys value ∙ ap (λ (u : «Type»). u ∷ (flat_map within keys ++ within value)) (sym same))

in_set : (t : «Type») (place : ℕ) (keys : List «Type») → out-Type t ≡ written.Set place keys → within t ≡ t ∷ flat_map within keys
unfolding roll-Type denote.Hole.Carrier.roll
in_set t place keys is =
    let same : t ≡ tree.Set place keys = opened t (tree.Set place keys) (written.Set place keys) is refl in
    ap within same ∙ (within_set place keys ∙ ap (λ (u : «Type»). u ∷ flat_map within keys) (sym same))

in_vector : (t : «Type») (place : ℕ) (item : «Type») → out-Type t ≡ written.Vector place item → within t ≡ t ∷ within item
unfolding roll-Type denote.Hole.Carrier.roll
in_vector t place item is =
    let same : t ≡ tree.Vector place item = opened t (tree.Vector place item) (written.Vector place item) is refl in
    ap within same ∙ (within_vector place item ∙ ap (λ (u : «Type»). u ∷ within item) (sym same))

in_record : (t : «Type») (place : ℕ) (fields : List Field) → out-Type t ≡ written.Record place fields → within t ≡ t ∷ flat_map (λ field. within (out-Field field).field_type) fields
unfolding roll-Type denote.Hole.Carrier.roll
in_record t place fields is =
    let same : t ≡ tree.Record place fields = opened t (tree.Record place fields) (written.Record place fields) is refl in
    ap within same ∙ (within_record place fields ∙ ap (λ (u : «Type»). u ∷ flat_map (λ field. within (out-Field field).field_type) fields) (sym same))

pub flat_within : {A B : Type 0} (P : B → Type 0) (f : A → List B) (ones : List A) → AllByRecursion (λ one. AllByRecursion P (f one)) ones → AllByRecursion P (flat_map f ones)
flat_within P f [] all = tt
flat_within P f (one ∷ ones) all = all_append P (f one) (flat_map f ones) all.0 (flat_within P f ones all.1)

-- What checking gave ---------------------------------------------------------------------------------------------------

ok_both : {A B : Type 0} (a : Checked A) (b : Checked B) (pair : A × B) → both a b ≡ Ok pair → (a ≡ Ok pair.0) × (b ≡ Ok pair.1)
ok_both {A = A} {B = B} (Ok a) (Ok b) pair e = let same : (a, b) ≡ pair = cc in (ap (λ (p : A × B). Ok p.0) same, ap (λ (p : A × B). Ok p.1) same)
ok_both (Ok a) (Err rules) pair e = absurd cc
ok_both (Err rules) b pair e = absurd cc

ok_bind : {A B : Type 0} (m : Checked A) (next : A → Checked B) (b : B) → (m >>= next) ≡ Ok b → (a : A) × (m ≡ Ok a) × (next a ≡ Ok b)
ok_bind (Ok a) next b e = (a, refl, e)
ok_bind (Err rules) next b e = absurd cc

ok_each : {A B : Type 0} (check : A → Checked B) (ones : List A) (made : List B) → each check ones ≡ Ok made → AllByRecursion (λ one. (b : B) × (check one ≡ Ok b)) ones
ok_each check [] made e = tt
ok_each check (one ∷ ones) made e =
    let (parts, is, more) = ok_bind (both (check one) (each check ones)) (λ parts. Ok (parts.0 ∷ parts.1)) made e in
    let pair = ok_both (check one) (each check ones) parts is in
    ((parts.0, pair.0), ok_each check ones parts.1 pair.1)

required_first : {B : Type 0} (holds : Bool) (why : Rule) (place : Place) (next : Checked B) → rules_of (require holds why place >> next) ≡ [] → holds ≡ true
required_first true why place next e = refl
required_first false why place next e = absurd cc

-- Attributes -----------------------------------------------------------------------------------------------------------

abbrev stands : (List ℕ → Bool) → List (List ℕ) → Attr → Bool
stands allowed before attr = allowed attr.name && not (is_one_of before attr.name) && not (is_expiry attr.name && list_any is_expiry before)

abbrev fitting : Bool → Bool → Bool
fitting true given = given
fitting false given = not given

-- where no rule is told, an attribute that stands may stand
attr_allowed : (home : Home) (allowed valued : List ℕ → Bool) (value_rules : Attr → Checked (Unit {0})) (before : List (List ℕ)) (attrs : List Attr) (name : List ℕ) → rules_of (attr_rules home allowed valued value_rules before attrs) ≡ []
    → has_attr name attrs ≡ true → allowed name ≡ true
attr_allowed home allowed valued value_rules before [] name e has = absurd cc
attr_allowed home allowed valued value_rules before (attr ∷ attrs) name e has =
    let first : Checked (Unit {0}) = require (stands allowed before attr && fitting (valued attr.name) (is_some attr.value)) rule.Attribute (place_in home attr.place) >> value_rules attr in
    let rest : Checked (Unit {0}) = attr_rules home allowed valued value_rules (attr.name ∷ before) attrs in
    let parts = untold_both first rest (untold_bind (both first rest) (λ both. Ok tt) e) in
    let held = required_first (stands allowed before attr && fitting (valued attr.name) (is_some attr.value)) rule.Attribute (place_in home attr.place) (value_rules attr) parts.0 in
    by (bytes_eq attr.name name) refl has (allowed_one held) (λ more. attr_allowed home allowed valued value_rules (attr.name ∷ before) attrs name parts.1 more)
  where
    allowed_one : (stands allowed before attr && fitting (valued attr.name) (is_some attr.value)) ≡ true → allowed attr.name ≡ true
    allowed_one h =
        let one = (and_parts (stands allowed before attr) (fitting (valued attr.name) (is_some attr.value)) h).0 in
        let two = (and_parts (allowed attr.name && not (is_one_of before attr.name)) (not (is_expiry attr.name && list_any is_expiry before)) one).0 in
        (and_parts (allowed attr.name) (not (is_one_of before attr.name)) two).0

    by : (same : Bool) → bytes_eq attr.name name ≡ same → (same || has_attr name attrs) ≡ true → allowed attr.name ≡ true → (has_attr name attrs ≡ true → allowed name ≡ true) → allowed name ≡ true
    by true e has own rest = subst (λ (n : List ℕ). allowed n ≡ true) ((bytes_eq-Decides attr.name name).0 e) own
    by false e has own rest = rest has

log_column : (of : ValueType) → field_attribute of (codes "log") ≡ true → is_column of ≡ true
log_column of e = by (is_column of) e
  where
    by : (column : Bool) → (column || false) ≡ true → column ≡ true
    by true e = refl
    by false e = e

-- Record types ---------------------------------------------------------------------------------------------------------

module _ (scripts : Scripts) where
  -- a field that is marked `&log` is of a type that columns have
  abbrev pub FieldWell : Home → Field → Type 0
  FieldWell home field = (of : ValueType) → type_of scripts home (out-Field field).field_type ≡ Ok of → has_attr (codes "log") (out-Field field).attrs ≡ true → is_column of ≡ true

  abbrev pub NodeWell : Node → Type 0
  NodeWell (RecordNode home place fields) = AllByRecursion (FieldWell home) fields
  NodeWell (EnumNode home place words) = Unit {0}

  pub field_well : (home : Home) (before : List (List ℕ)) (field : Field) → rules_of (field_rules scripts home before field) ≡ [] → FieldWell home field
  field_well home before field e of known has =
      let first : Checked (Unit {0}) = require (not (is_one_of before (out-Field field).name.text)) rule.Twice (place_in home (out-Field field).name.place) in
      let second : Checked (Unit {0}) = type_of scripts home (out-Field field).field_type >>= (λ type.
      attr_rules home (field_attribute type) with_value (λ attr. field_default (env_at scripts home) type attr.value) [] (out-Field field).attrs) in
      let parts = untold_both first second (untold_bind (both first second) (λ both. Ok tt) e) in
      let rules : rules_of (attr_rules home (field_attribute of) with_value (λ attr. field_default (env_at scripts home) of attr.value) [] (out-Field field).attrs) ≡ [] = rw known at parts.1 in
      log_column of (attr_allowed home (field_attribute of) with_value (λ attr. field_default (env_at scripts home) of attr.value) [] (out-Field field).attrs (codes "log") rules has)

  -- where no rule of a field is told, none of its type is
  pub typed_untold : (home : Home) (before : List (List ℕ)) (field : Field) → rules_of (field_rules scripts home before field) ≡ [] → rules_of (type_of scripts home (out-Field field).field_type) ≡ []
  typed_untold home before field e =
      let first : Checked (Unit {0}) = require (not (is_one_of before (out-Field field).name.text)) rule.Twice (place_in home (out-Field field).name.place) in
      let next : ValueType → Checked (Unit {0}) = λ type. attr_rules home (field_attribute type) with_value (λ attr. field_default (env_at scripts home) type attr.value) [] (out-Field field).attrs in
      let second : Checked (Unit {0}) = type_of scripts home (out-Field field).field_type >>= next in
      untold_bind (type_of scripts home (out-Field field).field_type) next (untold_both first second (untold_bind (both first second) (λ both. Ok tt) e)).1

  module _ (home : Home) where
    -- a type's own text
    abbrev TreeWell : «Type» → Type 0
    TreeWell t = AllByRecursion NodeWell (node home t)

    abbrev pub AllWell : «Type» → Type 0
    AllWell t = AllByRecursion TreeWell (within t)

    -- a key has no record type within it
    key_well : (depth : ℕ) (t : «Type») (one : SimpleType) → type_to depth scripts home t ≡ Ok (Simple one) → AllWell t
    key_well zero t one e = absurd cc
    key_well (suc depth) t one e = by (out-Type t) refl
      where
        never_table : (m : Checked (List SimpleType × ValueType)) → (m >>= (λ parts. Ok (Table parts.0 parts.1))) ≡ Ok (Simple one) → ⊥
        never_table (Ok parts) e = cc
        never_table (Err rules) e = cc

        never_set : (m : Checked (List SimpleType)) → (m >>= (λ parts. Ok (Set parts))) ≡ Ok (Simple one) → ⊥
        never_set (Ok parts) e = cc
        never_set (Err rules) e = cc

        never_vector : (m : Checked ValueType) → (m >>= (λ part. Ok (Vector part))) ≡ Ok (Simple one) → ⊥
        never_vector (Ok part) e = cc
        never_vector (Err rules) e = cc

        never_wrong : {A : Type 0} (rules : List _) (a : A) → ◌≡◌ {A = Checked A} (Err rules) (Ok a) → ⊥
        never_wrong rules a e = cc

        key : «Type» → Checked SimpleType
        key one = type_to depth scripts home one >>= as_key (place_in home (type_place one))

        by : (form : Type-F «Type» Field Param) → out-Type t ≡ form → AllWell t
        by (written.Atomic place atomic) is = alone_is t (atomic_alone t place atomic is) TreeWell (rw is tt)
        by (written.Named name) is = alone_is t (named_alone t name is) TreeWell (rw is tt)
        by (written.Enum place words comma) is = alone_is t (enum_alone t place words comma is) TreeWell (rw is (tt, tt))
        by (written.Table place keys value) is = absurd (never_table (both (each key keys) (type_to depth scripts home value)) (rw is at (rw is at e)))
        by (written.Set place keys) is = absurd (never_set (each key keys) (rw is at (rw is at e)))
        by (written.Vector place item) is = absurd (never_vector (type_to depth scripts home item) (rw is at (rw is at e)))
        by (written.Record place fields) is = let never : Ok (Record _) ≡ Ok (Simple one) = rw is at (rw is at e) in absurd cc
        by form is = let never : broken rule.WrongType (place_in home (type_place t)) ≡ Ok (Simple one) = rw is at (rw is at e) in absurd cc

    keys_well : (depth : ℕ) (keys : List «Type») (made : List SimpleType) → each (λ one. type_to depth scripts home one >>= as_key (place_in home (type_place one))) keys ≡ Ok made → AllByRecursion AllWell keys
    keys_well depth keys made e = of_each keys (ok_each (λ one. type_to depth scripts home one >>= as_key (place_in home (type_place one))) keys made e)
      where
        as_simple : (place : Place) (of : ValueType) (one : SimpleType) → as_key place of ≡ Ok one → of ≡ Simple one
        as_simple place (Simple other) one e = let same : other ≡ one = cc in ap Simple same
        as_simple place of one e = absurd cc

        of_each : (keys : List «Type») → AllByRecursion (λ key. (b : SimpleType) × ((type_to depth scripts home key >>= as_key (place_in home (type_place key))) ≡ Ok b)) keys → AllByRecursion AllWell keys
        of_each [] all = tt
        of_each (key ∷ keys) all =
            let (one, is) = all.0 in
            let (of, known, simple) = ok_bind (type_to depth scripts home key) (as_key (place_in home (type_place key))) one is in
            (key_well depth key one (known ∙ ap (λ (o : ValueType). Ok o) (as_simple (place_in home (type_place key)) of one simple)), of_each keys all.1)

    module _ (tells : (t : «Type») → Tells (type_of scripts home t)) where
      -- what a rule says of a type and of what is within it
      abbrev Deep : ℕ → Type 0
      Deep most = (t : «Type») (depth : ℕ) (of : ValueType) → type_to depth scripts home t ≡ Ok of → rules_of (nested_to most scripts home t) ≡ [] → AllWell t

      fields_well : (most : ℕ) → Deep most → (before : List (List ℕ)) (fields : List Field) → rules_of (fields_rules (λ home before field. nothing (both (field_rules scripts home before field) (nested_to most scripts home (out-Field field).field_type))) home before fields) ≡ []
          → AllByRecursion (FieldWell home) fields × AllByRecursion (λ field. AllWell (out-Field field).field_type) fields
      fields_well most deep before [] e = (tt, tt)
      fields_well most deep before (field ∷ fields) e =
          let rules : Home → List (List ℕ) → Field → Checked (Unit {0}) = λ home before field. nothing (both (field_rules scripts home before field) (nested_to most scripts home (out-Field field).field_type)) in
          let parts = untold_both (rules home before field) (fields_rules rules home ((out-Field field).name.text ∷ before) fields)
          (untold_bind (both (rules home before field) (fields_rules rules home ((out-Field field).name.text ∷ before) fields)) (λ both. Ok tt) e) in
          let own = untold_both (field_rules scripts home before field) (nested_to most scripts home (out-Field field).field_type)
          (untold_bind (both (field_rules scripts home before field) (nested_to most scripts home (out-Field field).field_type)) (λ both. Ok tt) parts.0) in
          let (of, known) = right_told (type_of scripts home (out-Field field).field_type) (tells (out-Field field).field_type) (typed_untold home before field own.0) in
          let rest = fields_well most deep ((out-Field field).name.text ∷ before) fields parts.1 in
          ((field_well home before field own.0, rest.0), (deep (out-Field field).field_type 200 of known own.1, rest.1))

      pub well : (most : ℕ) → Deep most
      well zero t depth of known e = absurd cc
      well (suc most) t zero of known e = absurd cc
      well (suc most) t (suc depth) of known e = by (out-Type t) refl (well most)
        where
          by : (form : Type-F «Type» Field Param) → out-Type t ≡ form → Deep most → AllWell t
          by (written.Atomic place atomic) is deep = alone_is t (atomic_alone t place atomic is) TreeWell (rw is tt)
          by (written.Named name) is deep = alone_is t (named_alone t name is) TreeWell (rw is tt)
          by (written.Enum place words comma) is deep = alone_is t (enum_alone t place words comma is) TreeWell (rw is (tt, tt))
          by (written.Table place keys value) is deep =
              let whole : (both (each (λ one. type_to depth scripts home one >>= as_key (place_in home (type_place one))) keys) (type_to depth scripts home value) >>= (λ parts. Ok (Table parts.0 parts.1))) ≡ Ok of = rw is at (rw is at known) in
              let (made, both_ok, last) = ok_bind (both (each (λ one. type_to depth scripts home one >>= as_key (place_in home (type_place one))) keys) (type_to depth scripts home value)) (λ parts. Ok (Table parts.0 parts.1)) of whole in
              let pair = ok_both (each (λ one. type_to depth scripts home one >>= as_key (place_in home (type_place one))) keys) (type_to depth scripts home value) made both_ok in
              rw (in_table t place keys value is) (
                (rw is tt),
                all_append TreeWell (flat_map within keys) (within value)
                    (flat_within TreeWell within keys (keys_well depth keys made.0 pair.0)) (deep value depth made.1 pair.1 (rw is at e)),
              )
          by (written.Set place keys) is deep =
              let whole : (each (λ one. type_to depth scripts home one >>= as_key (place_in home (type_place one))) keys >>= (λ parts. Ok (Set parts))) ≡ Ok of = rw is at (rw is at known) in
              let (made, each_ok, last) = ok_bind (each (λ one. type_to depth scripts home one >>= as_key (place_in home (type_place one))) keys) (λ parts. Ok (Set parts)) of whole in
              rw (in_set t place keys is) ((rw is tt), flat_within TreeWell within keys (keys_well depth keys made each_ok))
          by (written.Vector place item) is deep =
              let whole : (type_to depth scripts home item >>= (λ part. Ok (Vector part))) ≡ Ok of = rw is at (rw is at known) in
              let (made, item_ok, last) = ok_bind (type_to depth scripts home item) (λ part. Ok (Vector part)) of whole in
              rw (in_vector t place item is) ((rw is tt), deep item depth made item_ok (rw is at e))
          by (written.Record place fields) is deep =
              let all = fields_well most deep [] fields (rw is at e) in
              rw (in_record t place fields is) ((rw is (all.0, tt)), flat_within TreeWell (λ field. within (out-Field field).field_type) fields all.1)
          by form is deep = let never : broken rule.WrongType (place_in home (type_place t)) ≡ Ok of = rw is at (rw is at known) in absurd cc

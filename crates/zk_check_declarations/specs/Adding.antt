-- Fields that are added to record types.
use Rattle.std.specs.Prelude.{◌≡◌, ℕ, ◌==◌, Bool, ◌||◌, List, map, codes}
use Rattle.std.specs.List.{list_any}
use Rattle.zk_tree.specs.declared.types.Field.{Field, out-Field}
use Rattle.zk_typed.specs.Checked.{Checked, both}
use Rattle.zk_typed.specs.Declarations.{field_rules, is_one_of, nothing, parts_rules}
use Rattle.zk_typed.specs.Errors.{added_rules, field_names}
use Rattle.zk_typed.specs.LoadOrder.{Home}
use Rattle.zk_typed.specs.Making.{is_container}
use Rattle.zk_typed.specs.Resolving.{Scripts, deeper, fields_of, has_attr, type_of}
use Rattle.zk_check_declarations.specs.declared.records.FieldNames.{FieldNames}
use Rattle.zk_check_declarations.specs.Grouping.{group_at}

-- whether a record type has a field
abbrev pub has_field : FieldNames → ℕ → List ℕ → Bool
has_field known number name = list_any (λ other. other == number) (group_at known.records name)

-- a record type has these fields
pub record HasFields (number : ℕ) (known : FieldNames) (names : List (List ℕ)) : Type 0 where
  pub has : (name : List ℕ) → has_field known number name ≡ is_one_of names name

-- each record type has the fields that it has in scripts
pub record KnowsAll (known : FieldNames) (scripts : Scripts) : Type 0 where
  pub knows : (number : ℕ) → HasFields number known (field_names (fields_of scripts number))

abbrev pub field_texts : List Field → List (List ℕ)
field_texts fields = map (λ field. (out-Field field).name.text) fields

-- a field that is added needn't be given
abbrev pub is_free : Scripts → Home → Field → Bool
is_free scripts home field =
    has_attr (codes "optional") (out-Field field).attrs || has_attr (codes "default") (out-Field field).attrs || is_container (type_of scripts home (out-Field field).field_type)

-- the rules of a field that is added behind others
abbrev pub added_field : Scripts → ℕ → Home → List (List ℕ) → Field → Checked (Unit {0})
added_field scripts number home before field =
    nothing (both (both (field_rules scripts home before field) (parts_rules (deeper 199 scripts) scripts home (out-Field field).field_type)) (added_rules scripts home number field))

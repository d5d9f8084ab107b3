-- The rules of fields, and of the record types within a type.
use Rattle.std.specs.Prelude.{ℕ, Bool, not, List, [], Ok, Err}
use Rattle.zk_tree.specs.declared.types.Field.{Field, out-Field}
use Rattle.zk_tree.specs.declared.place.Place.{Place}
use Rattle.zk_tree.specs.declared.types.Param.{Param, out-Param}
use Rattle.zk_tree.specs.declared.types.Type.{«Type»}
use Rattle.zk_typed.specs.declared.rule.Rule.TheVariants as rule
use Rattle.zk_typed.specs.Checked.{Checked, both, each, require, ◌>>=◌}
use Rattle.zk_typed.specs.Declarations.{attr_rules, env_at, field_attribute, field_default, field_rules, fields_rules, is_one_of, is_too_deep, nested_to, nothing, parts_rules, type_rules, with_value}
use Rattle.zk_typed.specs.LoadOrder.{Home}
use Rattle.zk_typed.specs.Resolving.{Scripts, place_in, type_of}
use Rattle.zk_typed.specs.Types.{ValueType}

-- the rules of a field's type and attributes
abbrev pub typed_field : Scripts → Home → Field → Checked (Unit {0})
typed_field scripts home field =
    type_of scripts home (out-Field field).field_type >>= (λ type.
    attr_rules home (field_attribute type) with_value (λ attr. field_default (env_at scripts home) type attr.value) [] (out-Field field).attrs)

-- the rules of a field in a record type, and of the record types within it
abbrev pub nested_field : ℕ → Scripts → Home → Home → List (List ℕ) → Field → Checked (Unit {0})
nested_field depth scripts outer home before field = nothing (both (field_rules scripts home before field) (nested_to depth scripts outer (out-Field field).field_type))

abbrev pub nested_fields : ℕ → Scripts → Home → List Field → Checked (Unit {0})
nested_fields depth scripts home fields = fields_rules (nested_field depth scripts home) home [] fields

-- a type that nests too deep; what is broken in it is told where it is asked for
abbrev pub depth_rules : (ValueType → Bool) → Place → Checked ValueType → Checked (Unit {0})
depth_rules too_deep place (Ok one) = require (not (too_deep one)) rule.Recursive place
depth_rules too_deep place (Err rules) = Ok tt

abbrev pub all_parts : Scripts → Home → List «Type» → Checked (Unit {0})
all_parts scripts home trees = nothing (each (parts_rules (is_too_deep scripts) scripts home) trees)

-- a parameter behind others
abbrev pub one_param : Scripts → Home → List (List ℕ) → Param → Checked (Unit {0})
one_param scripts home before param =
    nothing (both (require (not (is_one_of before (out-Param param).name.text)) rule.Twice (place_in home (out-Param param).name.place)) (type_rules scripts home (out-Param param).param_type))

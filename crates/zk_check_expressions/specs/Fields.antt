-- Fields of records, and values that are read from fields marked `&wire`.
use Rattle.std.specs.Prelude.{◌≡◌, ℕ, Bool, true, false, List, [], ◌∷◌, Option, Some, None, Ok}
use Rattle.std.specs.Borrow.{Bor}
use Rattle.zk_base.specs.declared.numbers.RecordNo.{RecordNo}
use Rattle.zk_scope.specs.declared.field.FieldInfo.{FieldInfo as LentField}
use Rattle.zk_scope.specs.Fields.{field_of}
use Rattle.zk_tree.specs.declared.place.Place.{Place}
use Rattle.zk_typed.specs.declared.rule.Rule.TheVariants as rule
use Rattle.zk_typed.specs.declared.script.expr.Expr.{Expr}
use Rattle.zk_typed.specs.declared.script.primitive.FieldNo.{FieldNo}
use Rattle.zk_typed.specs.declared.script.types.ValueType.{ValueType as RustType}
use Rattle.zk_typed.specs.Checked.{Checked, broken, ◌>>=◌}
use Rattle.zk_typed.specs.Making.{wire_read}
use Rattle.zk_typed.specs.Resolving.{FieldInfo}
use Rattle.zk_typed.specs.Types.{ValueType}
use Rattle.zk_typed.specs.Typing.{Env}
use Rattle.zk_typed.specs.View.{type_of, expr_of}
use Rattle.zk_check_expressions.specs.declared.fields.Read.{Read}
use Rattle.zk_check_expressions.specs.declared.fields.Read.TheVariants as read

abbrev pub field_found : ℕ × Bor LentField → ℕ × FieldInfo
field_found one = (one.0, field_of one.1.now)

abbrev pub typed_field : FieldNo × RustType → FieldNo × ValueType
typed_field field = (field.0, type_of field.1)

-- a field that was found by its name among those of a record type
abbrev pub field_among : Place → RecordNo → Option (ℕ × FieldInfo) → Checked (FieldNo × ValueType)
field_among place number None = broken rule.Field place
field_among place number (Some field) = field.1.field_type >>= (λ type. Ok (record { «record» = number; field = field.0 }, type))

-- whether there is one and no other
abbrev pub is_lone : {A : Type 0} → List A → Bool
is_lone (one ∷ []) = true
is_lone others = false

-- what an expression is read from, or the expression itself
abbrev pub IsRead : Env → Expr → Read → Type 0
IsRead env one (read.Wire «from» field) = wire_read env (expr_of one) ≡ Some (expr_of «from», field)
IsRead env one (read.Whole same) = (same ≡ one) × (wire_read env (expr_of one) ≡ None)

-- Assignments, by their left sides.
use Rattle.std.specs.Prelude.{Option, Some, None, Ok, if◌then◌else◌}
use Rattle.zk_tree.specs.declared.expr.Expr.{Expr}
use Rattle.zk_tree.specs.declared.operator.Assigning.{Assigning}
use Rattle.zk_tree.specs.declared.operator.Assigning.TheVariants as assigning
use Rattle.zk_tree.specs.declared.place.Place.{Place}
use Rattle.zk_typed.specs.declared.script.action.Action.TheVariants as action
use Rattle.zk_typed.specs.declared.script.action.Left.{Left}
use Rattle.zk_typed.specs.declared.script.action.Left.TheVariants as left
use Rattle.zk_typed.specs.declared.script.primitive.FieldNo.{FieldNo}
use Rattle.zk_typed.specs.Checked.{Checked, ◌>>=◌, ◌>>◌}
use Rattle.zk_typed.specs.Expressions.{Side, added_type, assignable}
use Rattle.zk_typed.specs.Forms as form
use Rattle.zk_typed.specs.Making.{is_wire, wire_read}
use Rattle.zk_typed.specs.Statements.{added, assigned, binary_of}
use Rattle.zk_typed.specs.Types.{ValueType}
use Rattle.zk_typed.specs.Typing.{Check, Env, Wants}

abbrev pub plainly_to : Place → Left → form.Exprs → form.Expr → form.Stmt
plainly_to place side operands value = form.Do place (action.Assign side) (form.AndExpr value operands)

-- a value that is given to a field marked `&wire` of a record
abbrev pub moved_to : Env → Place → FieldNo → form.Expr → form.Expr → form.Stmt
moved_to env place field to value = of_read (wire_read env value)
  where
    of_read : Option (form.Expr × FieldNo) → form.Stmt
    of_read None = plainly_to place (left.Field field) (form.AndExpr to form.NoExpr) value
    of_read (Some read) = form.Move place to field read.0 read.1

-- a value that is given to a left side with its operands
abbrev pub assigned_to : Env → Place → Left → form.Exprs → form.Expr → form.Stmt
assigned_to env place (left.Field field) (form.AndExpr to form.NoExpr) value =
    if is_wire env field then moved_to env place field to value else plainly_to place (left.Field field) (form.AndExpr to form.NoExpr) value
assigned_to env place side operands value = plainly_to place side operands value

-- a value that is given to a side
abbrev pub set_of : Check → Env → Place → Expr → Side → Checked form.Stmt
set_of check env place right side = check (Wants side.type) right >>= (λ one. assignable place side >> Ok (assigned_to env place side.left side.operands one.expr))

-- a value that is added to a side, or taken from it
abbrev pub updated_of : Check → Place → Assigning → Side → ValueType → Expr → Checked form.Stmt
updated_of check place by side wanted right = check (Wants wanted) right >>= (λ one.
    assignable place side >> Ok (form.Do place (action.Update side.left (binary_of by)) (form.AndExpr one.expr side.operands)))

abbrev pub by_operator : Check → Env → Place → Place → Expr → Assigning → Side → Checked form.Stmt
by_operator check env place left_place right assigning.Set side = check (Wants side.type) right >>= (λ one. assignable place side >> Ok (assigned env place side one))
by_operator check env place left_place right by side = added check place left_place by side right (added_type by side.type)

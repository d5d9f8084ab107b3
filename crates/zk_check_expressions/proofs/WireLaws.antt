-- Values that are read from fields marked `&wire`.
use Rattle.std.proofs.Common.{◌≡◌, ℕ, suc, ◌+◌, Bool, true, false, List, [], ◌∷◌, ◌++◌, length, Option, Some, None, refl, sym, ◌∙◌, ap, arith, length-append}
use Rattle.zk_typed.specs.declared.script.expr.Expr.{Expr}
use Rattle.zk_typed.specs.declared.script.expr.Expr.TheVariants as expr
use Rattle.zk_typed.specs.declared.script.primitive.FieldNo.{FieldNo}
use Rattle.zk_typed.specs.declared.script.primitive.Primitive.TheVariants as primitive
use Rattle.zk_typed.specs.Forms as form
use Rattle.zk_typed.specs.Making.{is_wire, wire_read}
use Rattle.zk_typed.specs.Typing.{Env}
use Rattle.zk_typed.specs.View.{expr_of, all_of}
use Rattle.zk_check_operators.proofs.Forms.{apply_is}
use Rattle.zk_check_expressions.specs.declared.fields.Read.TheVariants as read
use Rattle.zk_check_expressions.specs.Fields.{IsRead, is_lone}

-- the last of one is alone
pub last_alone : {A : Type 0} (all before : List A) (last : A) → length all ≡ 1 → all ≡ before ++ last ∷ [] → all ≡ last ∷ []
last_alone all [] last one same = same
last_alone all (first ∷ before) last one same =
    let longer : length all ≡ suc (length before + 1) = ap length same ∙ ap suc (length-append before (last ∷ [])) in
    absurd (omega (arith, one, longer))

field_is : (env : Env) (field : FieldNo) (operands : List Expr) → wire_read env (expr_of (expr.Apply (primitive.Field field) operands)) ≡ wire_read env (form.Apply (primitive.Field field) (all_of operands))
field_is env field operands = ap (wire_read env) (apply_is (primitive.Field field) operands)

marked : (env : Env) (field : FieldNo) («from» : form.Expr) → is_wire env field ≡ true → wire_read env (form.Apply (primitive.Field field) (form.AndExpr «from» form.NoExpr)) ≡ Some («from», field)
marked env field «from» wire = rw wire refl

unmarked : (env : Env) (field : FieldNo) (operands : List Expr) → is_wire env field ≡ false → wire_read env (form.Apply (primitive.Field field) (all_of operands)) ≡ None
unmarked env field [] wire = refl
unmarked env field (one ∷ []) wire = rw wire refl
unmarked env field (one ∷ (other ∷ more)) wire = refl

several : (env : Env) (field : FieldNo) (operands : List Expr) → is_lone operands ≡ false → wire_read env (form.Apply (primitive.Field field) (all_of operands)) ≡ None
several env field [] lone = refl
several env field (one ∷ []) lone = absurd (cc)
several env field (one ∷ (other ∷ more)) lone = refl

pub wire_is : (env : Env) (field : FieldNo) (operands : List Expr) («from» : Expr) → operands ≡ «from» ∷ [] → is_wire env field ≡ true → IsRead env (expr.Apply (primitive.Field field) operands) (read.Wire «from» field)
wire_is env field operands «from» alone wire =
    ap (λ all. wire_read env (expr_of (expr.Apply (primitive.Field field) all))) alone ∙ field_is env field («from» ∷ []) ∙ marked env field (expr_of «from») wire

pub unmarked_is : (env : Env) (field : FieldNo) (operands : List Expr) → is_wire env field ≡ false → IsRead env (expr.Apply (primitive.Field field) operands) (read.Whole (expr.Apply (primitive.Field field) operands))
unmarked_is env field operands wire = (refl, field_is env field operands ∙ unmarked env field operands wire)

pub several_is : (env : Env) (field : FieldNo) (operands all : List Expr) → all ≡ operands → is_lone operands ≡ false → IsRead env (expr.Apply (primitive.Field field) operands) (read.Whole (expr.Apply (primitive.Field field) all))
several_is env field operands all same lone = (ap (expr.Apply (primitive.Field field)) same, field_is env field operands ∙ several env field operands lone)

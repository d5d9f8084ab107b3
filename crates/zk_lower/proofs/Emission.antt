-- The code of forms with operands, as the Rust types hold them.
use Rattle.std.proofs.Common.{rules, ◌≡◌, ℕ, suc, OnOk, Ok, Err, Result, List, [], ◌∷◌, ◌++◌, length, map, refl, sym, ap, ◌∙◌, append_assoc}
use Rattle.zk_base.specs.declared.numbers.HookNo.{HookNo}
use Rattle.zk_base.specs.declared.numbers.LogId.{LogId}
use Rattle.zk_tree.specs.declared.place.Place.{Place}
use Rattle.zk_typed.specs.declared.script.expr.Expr as declared
use Rattle.zk_typed.specs.declared.script.expr.Expr.{fold-roll-Expr}
use Rattle.zk_typed.specs.declared.script.expr.Expr.TheVariants.{rolls-Apply, rolls-Call, rolls-Hook, rolls-Write}
use Rattle.zk_typed.specs.declared.script.primitive.Primitive.{Primitive}
use Rattle.zk_typed.specs.Forms as form
use Rattle.zk_typed.specs.View.{expr_of, exprs_of, all_of}
use Rattle.zk_lower.specs.Code.{Op}
use Rattle.zk_lower.specs.Code as op
use Rattle.zk_lower.specs.Lowering.{count, expr_code, exprs_code}

pub exprs_of_all : (list : List declared.Expr) → exprs_of (map expr_of list) ≡ all_of list
exprs_of_all [] = refl
exprs_of_all (one ∷ others) = ap (λ more. form.AndExpr (expr_of one) more) (exprs_of_all others)

pub count_all : (list : List declared.Expr) → count (all_of list) ≡ length list
count_all [] = refl
count_all (one ∷ others) = ap suc (count_all others)

of_apply : (primitive : Primitive) (operands : List declared.Expr) → expr_of (declared.Apply primitive operands) ≡ form.Apply primitive (exprs_of (map expr_of operands))
of_apply primitive operands = ap expr_of (sym (rolls-Apply primitive operands)) ∙ search (rules, fold-roll-Expr)

of_call : (function : ℕ) (operands : List declared.Expr) → expr_of (declared.Call function operands) ≡ form.Call function (exprs_of (map expr_of operands))
of_call function operands = ap expr_of (sym (rolls-Call function operands)) ∙ search (rules, fold-roll-Expr)

of_hook : (hook : HookNo) (operands : List declared.Expr) → expr_of (declared.Hook hook operands) ≡ form.Hook hook (exprs_of (map expr_of operands))
of_hook hook operands = ap expr_of (sym (rolls-Hook hook operands)) ∙ search (rules, fold-roll-Expr)

of_write : (log : LogId) (row : declared.Expr) → expr_of (declared.Write log row) ≡ form.Write log (expr_of row)
of_write log row = ap expr_of (sym (rolls-Write log row)) ∙ search (rules, fold-roll-Expr)

pub on_ok : {E A : Type 0} {P Q : Type 0} (r : Result A E) → (P → Q) → OnOk r P → OnOk r Q
on_ok (Ok a) f p = f p
on_ok (Err e) f p = tt

with_operands : (place : Place) (operands : List declared.Expr) (make : ℕ → Op) (old mid new : List Op) → mid ≡ make (length operands) ∷ old → new ≡ exprs_code place (all_of operands) ++ mid
    → new ≡ (exprs_code place (exprs_of (map expr_of operands)) ++ make (count (exprs_of (map expr_of operands))) ∷ []) ++ old
with_operands place operands make old mid new m e =
    e ∙ (ap (λ list. exprs_code place (all_of operands) ++ list) (m ∙ ap (λ n. make n ∷ old) (sym (count_all operands))) ∙
    (sym (append_assoc (exprs_code place (all_of operands)) (make (count (all_of operands)) ∷ []) old) ∙
    ap (λ list. (exprs_code place list ++ make (count list) ∷ []) ++ old) (sym (exprs_of_all operands))))

module _ (place : Place) (expr : declared.Expr) (old mid new : List Op) where
  pub apply_put : (primitive : Primitive) (operands : List declared.Expr) → expr ≡ declared.Apply primitive operands → mid ≡ op.Apply place primitive (length operands) ∷ old
      → new ≡ exprs_code place (all_of operands) ++ mid → new ≡ expr_code place (expr_of expr) ++ old
  apply_put primitive operands is m e = with_operands place operands (λ n. op.Apply place primitive n) old mid new m e ∙ ap (λ one. expr_code place one ++ old) (sym (ap expr_of is ∙ of_apply primitive operands))

  pub call_put : (function : ℕ) (operands : List declared.Expr) → expr ≡ declared.Call function operands → mid ≡ op.Call place function (length operands) ∷ old
      → new ≡ exprs_code place (all_of operands) ++ mid → new ≡ expr_code place (expr_of expr) ++ old
  call_put function operands is m e = with_operands place operands (λ n. op.Call place function n) old mid new m e ∙ ap (λ one. expr_code place one ++ old) (sym (ap expr_of is ∙ of_call function operands))

  pub hook_put : (hook : HookNo) (operands : List declared.Expr) → expr ≡ declared.Hook hook operands → mid ≡ op.Hook place hook (length operands) ∷ old
      → new ≡ exprs_code place (all_of operands) ++ mid → new ≡ expr_code place (expr_of expr) ++ old
  hook_put hook operands is m e = with_operands place operands (λ n. op.Hook place hook n) old mid new m e ∙ ap (λ one. expr_code place one ++ old) (sym (ap expr_of is ∙ of_hook hook operands))

  pub write_put : (log : LogId) (row : declared.Expr) → expr ≡ declared.Write log row → mid ≡ op.Write place log ∷ old
      → new ≡ expr_code place (expr_of row) ++ mid → new ≡ expr_code place (expr_of expr) ++ old
  write_put log row is m e = e ∙ (ap (λ list. expr_code place (expr_of row) ++ list) m ∙ (sym (append_assoc (expr_code place (expr_of row)) (op.Write place log ∷ []) old) ∙
      ap (λ one. expr_code place one ++ old) (sym (ap expr_of is ∙ of_write log row))))

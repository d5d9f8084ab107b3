-- Calls of functions and hooks, as the Rust type holds them.
use Rattle.std.proofs.Common.{◌≡◌, ℕ, List, Option, Some, Ok, ap, sym, ◌∙◌}
use Rattle.std.specs.Option.{option_map}
use Rattle.zk_base.specs.declared.numbers.HookNo.{HookNo}
use Rattle.zk_typed.specs.declared.script.expr.Expr.{Expr}
use Rattle.zk_typed.specs.declared.script.expr.Expr.TheFolds.{fold-roll-Expr}
use Rattle.zk_typed.specs.declared.script.expr.Expr.TheOpen as layer
use Rattle.zk_typed.specs.declared.script.expr.Expr.TheVariants as expr
use Rattle.zk_typed.specs.declared.script.types.SimpleType.TheVariants as simple
use Rattle.zk_typed.specs.declared.script.types.ValueType.{ValueType as RustType}
use Rattle.zk_typed.specs.declared.script.types.ValueType.TheVariants as rust
use Rattle.zk_typed.specs.Checked.{Checked, ◌>>=◌}
use Rattle.zk_typed.specs.Forms as form
use Rattle.zk_typed.specs.Making.{Called, Gives, with_result}
use Rattle.zk_typed.specs.Predefined as type
use Rattle.zk_typed.specs.Types.{ValueType}
use Rattle.zk_typed.specs.Typing.{Typed, typed, exprs}
use Rattle.zk_typed.specs.View.{type_of, expr_of, all_of, Prefixed, expr_step, given_step}
use Rattle.zk_check_operators.proofs.Forms.{operands_are}
use Rattle.zk_check_expressions.specs.Parts.{and_then}
use Rattle.zk_check_expressions.proofs.KeyLaws.{simple_is}

call_is : (function : ℕ) (operands : List Expr) → expr_of (expr.Call function operands) ≡ form.Call function (all_of operands)
call_is function operands =
    ap expr_of (sym (expr.rolls-Call function operands)) ∙ fold-roll-Expr form.Expr Prefixed expr_step given_step (layer.Call function operands) ∙ ap (form.Call function) (operands_are operands)

hook_is : (hook : HookNo) (operands : List Expr) → expr_of (expr.Hook hook operands) ≡ form.Hook hook (all_of operands)
hook_is hook operands =
    ap expr_of (sym (expr.rolls-Hook hook operands)) ∙ fold-roll-Expr form.Expr Prefixed expr_step given_step (layer.Hook hook operands) ∙ ap (form.Hook hook) (operands_are operands)

-- a call of a function that gives a value
pub given_call : (told : Checked (Option ValueType)) (found : Option RustType) (type : RustType) (wanted number : ℕ) (args : List Typed) (operands : List Expr) →
    told ≡ Ok (option_map type_of found) → found ≡ Some type → number ≡ wanted → all_of operands ≡ exprs args →
    and_then told (with_result wanted args) ≡ Ok (Gives (typed (type_of type) (expr_of (expr.Call number operands))))
given_call told found type wanted number args operands gives is same all =
    ap (λ (x : Checked (Option ValueType)). and_then x (with_result wanted args)) gives
    ∙ ap (λ (x : Option RustType). and_then (Ok (option_map type_of x)) (with_result wanted args)) is
    ∙ ap (λ (x : form.Expr). Ok (Gives (typed (type_of type) x))) (sym (call_is number operands ∙ ap (λ (x : ℕ). form.Call x (all_of operands)) same ∙ ap (form.Call wanted) all))

-- a call of a hook
pub given_hook : (told : Checked (List Typed)) (args : List Typed) (wanted number : ℕ) (operands : List Expr) → told ≡ Ok args → number ≡ wanted → all_of operands ≡ exprs args →
    (told >>= (λ args. Ok (typed type.bool (form.Hook (record { 0 = wanted }) (exprs args))))) ≡ Ok (typed (type_of (rust.Simple simple.Bool)) (expr_of (expr.Hook (record { 0 = number }) operands)))
given_hook told args wanted number operands gives same all =
    ap (λ (x : Checked (List Typed)). x >>= (λ args. Ok (typed type.bool (form.Hook (record { 0 = wanted }) (exprs args))))) gives
    ∙ ap (λ (x : form.Expr). Ok (typed type.bool x)) (sym (hook_is (record { 0 = number }) operands ∙ ap (λ (x : ℕ). form.Hook (record { 0 = x }) (all_of operands)) same ∙ ap (form.Hook (record { 0 = wanted })) all))
    ∙ ap (λ (x : ValueType). Ok (typed x (expr_of (expr.Hook (record { 0 = number }) operands)))) (sym (simple_is simple.Bool))

use Rattle.std.proofs.Common.{◌≡◌, Some, Bor, ap, sym, ◌∙◌, subst}
use Rattle.std.specs.Option.{option_map}
use Rattle.zk_scope.specs.Lent.{declared_of}
use Rattle.zk_scope.specs.declared.declared.Declared.{Declared}
use Rattle.zk_tree.specs.declared.expr.Expr.{out-Expr}
use Rattle.zk_typed.specs.Tells.{Tells}
use Rattle.zk_typed.specs.Typing.{found}
use Rattle.zk_check_expressions.specs.Envs.{env_of, found_of}
use Rattle.zk_check_expressions.specs.LogSettings.{signed_declared, types_lent}
use Rattle.zk_check_expressions.proofs.LogLaws.{signed_is}
use Rattle.zk_check_expressions.proofs.log_names.named_signature.Goals as goal

pub returns-in-Declared : goal.returns-in-Declared
unfolding out-Expr denote.Hole.Carrier.out
returns-in-Declared c =
    let env = env_of c.args.env.now in
    let wanted = option_map types_lent c.args.wanted in
    let declared = declared_of c.in-Declared.declared.now in
    let is : found env c.in-Name.name ≡ Some declared = sym c.in_ok-declared-in-Name.ensures ∙ ap (found_of env c.in-Name.name) c.in-Declared.is in
    subst (λ told. Tells (λ (one : Bor Declared). declared_of one.now) c.signed.result told)
    (ap (λ place. signed_declared env c.args.kind wanted place declared) c.expr_place-place.ensures ∙ sym (signed_is env c.args.kind wanted c.args.one.now c.in-Name.name declared (ap out-Expr c.in-Name.is) is))
    c.signed.ensures

use Rattle.std.specs.Prelude.{Result}
use Rattle.std.proofs.Common.{sym, subst}
use Rattle.zk_typed.specs.declared.refusal.Refusal.{Refusal}
use Rattle.zk_typed.specs.declared.script.literal.DefaultValue.{DefaultValue}
use Rattle.zk_typed.specs.declared.script.types.SimpleType.TheVariants as simple
use Rattle.zk_typed.specs.Declarations.{default_typed, env_at, expiry_value, nothing}
use Rattle.zk_typed.specs.Tells.{Tells}
use Rattle.zk_typed.specs.Types.{ValueType}
use Rattle.zk_scope.specs.Lent.{home_of}
use Rattle.zk_scope.specs.Scripted.{scripts_in}
use Rattle.zk_check_operators.proofs.BothLaws.{Rules}
use Rattle.zk_check_declarations.proofs.RuleLaws.{dropped_tells}
use Rattle.zk_check_declarations.proofs.SameLaws.{simple_is}
use Rattle.zk_check_declarations.proofs.ground.Ground.expiry_rules.Goals as goal

pub returns : goal.returns
returns c =
    let env = env_at (scripts_in c.args.self.now.names.now) (home_of c.args.home) in
    subst (λ (given : Result (Unit {0}) Refusal). Rules given (nothing (expiry_value env c.args.value.now))) (sym c.dropped.ensures)
    (dropped_tells (λ (made : DefaultValue). made) c.default_typed.result (expiry_value env c.args.value.now)
    (subst (λ (type : ValueType). Tells (λ (made : DefaultValue). made) c.default_typed.result (default_typed env type c.args.value.now)) (simple_is simple.Interval) c.default_typed.ensures))

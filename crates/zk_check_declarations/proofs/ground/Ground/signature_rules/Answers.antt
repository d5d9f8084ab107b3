use Rattle.std.proofs.Common.{[], sym, subst}
use Rattle.std.specs.Option.{option_copied}
use Rattle.zk_typed.specs.Declarations.{maybe_rules, param_rules}
use Rattle.zk_typed.specs.Errors.{signature_rules}
use Rattle.zk_scope.specs.Lent.{home_of, signature_of}
use Rattle.zk_scope.specs.Scripted.{scripts_in}
use Rattle.zk_scope.specs.declared.declared.Signature.{Signature}
use Rattle.zk_check_operators.proofs.BothLaws.{Rules}
use Rattle.zk_check_declarations.proofs.RuleLaws.{also_tells}
use Rattle.zk_check_declarations.proofs.ground.Ground.signature_rules.Goals as goal

pub returns-in-Written : goal.returns-in-Written
returns-in-Written c =
    let scripts = scripts_in c.args.self.now.names.now in
    subst (λ (signature : Signature). Rules c.also.result (signature_rules scripts (signature_of signature))) (sym c.in-Written.is)
    (also_tells c.param_rules-params.result c.maybe_rules-result.result c.also.result (param_rules scripts (home_of c.in-Written.home) [] c.in-Written.params.now) (maybe_rules scripts (home_of c.in-Written.home) (option_copied c.in-Written.result))
    c.param_rules-params.ensures c.maybe_rules-result.ensures c.also.ensures)

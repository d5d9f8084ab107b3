use Rattle.std.specs.Prelude.{Result}
use Rattle.std.proofs.Common.{ap, sym, subst}
use Rattle.zk_typed.specs.declared.refusal.Refusal.{Refusal}
use Rattle.zk_typed.specs.Declarations.{nothing}
use Rattle.zk_typed.specs.Errors as spec
use Rattle.zk_typed.specs.Resolving.{Scripts}
use Rattle.zk_typed.specs.Statements.{InFunction}
use Rattle.zk_typed.specs.View.{stmt_of}
use Rattle.zk_scope.specs.Lent.{home_of}
use Rattle.zk_check_operators.proofs.BothLaws.{Rules}
use Rattle.zk_check_declarations.specs.Sources.{scripts_from}
use Rattle.zk_check_declarations.proofs.RuleLaws.{dropped_tells, same_rules}
use Rattle.zk_check.proofs.rules.bodies.Bodied.function_body.Goals as goal

pub returns : goal.returns
returns c =
    let body = c.args.body.now in
    let home = home_of body.home in
    let here = scripts_from c.args.self.now.source.now in
    let given = c.args.result_type.now in
    same_rules c.dropped.result
    (ap (λ (scripts : Scripts). nothing (spec.body_made scripts home (InFunction (spec.result_wanted scripts home given)) body.params.now body.block.now).made) (sym c.requires.same))
    (subst (λ (answer : Result (Unit {0}) Refusal). Rules answer (nothing (spec.body_made here home (InFunction (spec.result_wanted here home given)) body.params.now body.block.now).made)) (sym c.dropped.ensures)
    (dropped_tells stmt_of c.function_body_made-judged.result.made (spec.body_made here home (InFunction (spec.result_wanted here home given)) body.params.now body.block.now).made c.function_body_made-judged.ensures.made))

use Rattle.std.proofs.Common.{◌≡◌, ap, ◌∙◌}
use Rattle.zk_typed.specs.View.{stmt_of}
use Rattle.zk_check.specs.declared.program.bodies.Body.{Body}
use Rattle.zk_check.specs.Programming.{IsBody}
use Rattle.zk_check.proofs.PartLaws.{body_found}
use Rattle.zk_check_declarations.proofs.RoundLaws.{ok_map}
use Rattle.zk_check.proofs.program.bodies.body_of.Goals as goal

pub returns : goal.returns
returns c = λ wanted is.
    ok_map (λ (made : Body). (made.locals ≡ c.args.judged.locals) × (made.body ≡ c.stmts_or.result)) (λ (made : Body). IsBody made wanted) c.with_count.result
    (λ made same. body_found made c.args.judged c.in_ok-found.found wanted same.0 (ap stmt_of same.1 ∙ c.stmts_or.ensures) c.in_ok-found.ensures is) c.with_count.ensures

use Rattle.zk_check_operators.specs.Views.{typed_of}
use Rattle.zk_check_expressions.specs.Parts.{element_view}
use Rattle.zk_check_expressions.proofs.Refusals.{refused}
use Rattle.zk_check_expressions.proofs.judge.Judge.misplaced_call.Goals as goal

pub returns : goal.returns
returns g c given h = refused element_view typed_of _ _ c.with_items-pair.result c.wrong.result _ c.wrong.ensures (c.with_items-pair.ensures given h)

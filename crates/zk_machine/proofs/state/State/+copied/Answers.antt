use Rattle.zk_typed.specs.Objects.{copied_to}
use Rattle.zk_value.specs.Plain.{value_of}
use Rattle.zk_machine.proofs.CopyLemmas.{splits_stop}
use Rattle.zk_machine.proofs.ThenLemmas.{comes_as}
use Rattle.zk_machine.proofs.state.State.+copied.Goals as goal

pub object_copied-returns-in-Ok : goal.object_copied-returns-in-Ok
object_copied-returns-in-Ok t c = λ place. comes_as value_of place c.put_together.result _ _ _ (c.in-Ok.ensures place (copied_to c.args.depth place)) (c.put_together.ensures place)

pub object_copied-returns-in-Err : goal.object_copied-returns-in-Err
object_copied-returns-in-Err t c = λ place. splits_stop (copied_to c.args.depth place) value_of place c.in-Err.halt _ _ (c.in-Err.ensures place (copied_to c.args.depth place))

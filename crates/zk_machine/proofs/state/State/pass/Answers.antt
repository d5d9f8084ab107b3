use Rattle.std.proofs.Common.{None, ap}
use Rattle.zk_typed.specs.Does.{Gives, and_then}
use Rattle.zk_machine.specs.Onwards.{begins_of}
use Rattle.zk_machine.proofs.ThenLemmas.{stops}
use Rattle.zk_machine.proofs.state.State.pass.Goals as goal

pub returns-in-Ok : goal.returns-in-Ok
returns-in-Ok c = λ place. ap (λ ran. and_then ran (λ u now. Gives None now)) (c.in-Ok.ensures place)

pub returns-in-Err : goal.returns-in-Err
returns-in-Err c = λ place. stops (λ (u : Unit {0}). tt {0}) (begins_of c.args.write.now c.args.filter.now) place c.in-Err.halt _ (λ u now. Gives None now) _ (c.in-Err.ensures place)

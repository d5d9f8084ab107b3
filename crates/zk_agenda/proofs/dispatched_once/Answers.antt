use Rattle.zk_agenda.proofs.OnceInRuns.{dispatched_once}
use Rattle.zk_agenda.proofs.dispatched_once.Goals as goal

pub returns : goal.returns
returns c = dispatched_once

use Rattle.zk_agenda.proofs.InTime.{time_rises}
use Rattle.zk_agenda.proofs.time_rises.Goals as goal

pub returns : goal.returns
returns c = time_rises

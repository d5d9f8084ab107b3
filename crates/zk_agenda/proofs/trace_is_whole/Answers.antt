use Rattle.zk_agenda.proofs.Whole.{trace_is_whole}
use Rattle.zk_agenda.proofs.trace_is_whole.Goals as goal

pub returns : goal.returns
returns c = trace_is_whole

use Rattle.zk_agenda.proofs.TablesStaying.{tables-stay}
use Rattle.zk_agenda.proofs.sparing_tables_stay.Goals as goal

pub returns : goal.returns
returns c = tables-stay

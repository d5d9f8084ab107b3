use Rattle.zk_ascii.proofs.CellLemmas.{rows_same}
use Rattle.zk_ascii.proofs.laws.equal_texts.Goals as goal

pub returns : goal.returns
returns c = rows_same

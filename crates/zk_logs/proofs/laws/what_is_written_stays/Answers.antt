use Rattle.zk_logs.specs.Written.{pieces_of}
use Rattle.zk_logs.proofs.WrittenLemmas.{rows_begun}
use Rattle.zk_logs.proofs.laws.what_is_written_stays.Goals as goal

pub returns : goal.returns
returns c = λ before now rows more logs end written. rows_begun before now rows more end (pieces_of logs) written

-- The law stands in ChecksumLaws.
use Rattle.zk_gen.proofs.ChecksumLaws.{right_checksums}
use Rattle.zk_gen.proofs.capture.Goals as goal

pub returns-clause-checksums : goal.returns-clause-checksums
returns-clause-checksums c = right_checksums

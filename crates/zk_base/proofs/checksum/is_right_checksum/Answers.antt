use Rattle.std.proofs.Common.{arith}
use Rattle.zk_base.proofs.ChecksumLemmas.{folded-is_right_checksum, ones_complement_sum-is_right_checksum}
use Rattle.zk_base.proofs.checksum.is_right_checksum.Goals as goal

pub returns-then-total-gt0-clause-value : goal.returns-then-total-gt0-clause-value
returns-then-total-gt0-clause-value c = grind (arith, folded-is_right_checksum c.args.total)

pub returns-then-total-gt0-clause-carried : goal.returns-then-total-gt0-clause-carried
returns-then-total-gt0-clause-carried c = λ ws words e. grind (arith, ones_complement_sum-is_right_checksum ws c.args.total words e)

pub returns-else-total-gt0-clause-value : goal.returns-else-total-gt0-clause-value
returns-else-total-gt0-clause-value c = grind (arith, folded-is_right_checksum c.args.total)

pub returns-else-total-gt0-clause-carried : goal.returns-else-total-gt0-clause-carried
returns-else-total-gt0-clause-carried c = λ ws words e. grind (arith, ones_complement_sum-is_right_checksum ws c.args.total words e)

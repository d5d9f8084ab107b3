use Rattle.std.proofs.Common.{arith}
use Rattle.zk_reasm.specs.Standing.{lent}
use Rattle.zk_reasm.proofs.ContentLemmas.{gap_within, gap_none}
use Rattle.zk_reasm.proofs.stream.Stream.skip.Goals as goal

pub skip-requires-clause-empty : goal.skip-requires-clause-empty
unfolding lent
skip-requires-clause-empty c = c.requires.empty

pub skip-requires-clause-within : goal.skip-requires-clause-within
skip-requires-clause-within c = omega (arith, gap_within c.args.self.now, c.requires.gap, c.args.self.now.settled.order)

pub skip-requires-clause-none : goal.skip-requires-clause-none
skip-requires-clause-none c = λ at low high. gap_none c.args.self.now at low (omega (arith, high, c.requires.gap))

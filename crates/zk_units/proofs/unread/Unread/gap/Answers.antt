use Rattle.zk_units.proofs.UnreadLemmas.{gap_end, gap_stands, gap_within}
use Rattle.zk_units.proofs.unread.Unread.gap.Goals as goal

pub returns-clause-end : goal.returns-clause-end
returns-clause-end c = gap_end c.args.self.now

pub returns-clause-places : goal.returns-clause-places
returns-clause-places c = gap_stands c.args.self.now

pub returns-clause-within : goal.returns-clause-within
returns-clause-within c = gap_within c.args.self.now

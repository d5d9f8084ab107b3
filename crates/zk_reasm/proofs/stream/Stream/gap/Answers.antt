use Rattle.std.proofs.Common.{◌∙◌}
use Rattle.zk_reasm.proofs.ContentLemmas.{gap_behind-from, gap_behind_is}
use Rattle.zk_reasm.proofs.stream.Stream.gap.Goals as goal

pub returns-clause-behind : goal.returns-clause-behind
returns-clause-behind c = gap_behind-from c.args.self.now c.gap.result c.gap.ensures.within c.gap.ensures.none c.gap.ensures.«end»

pub returns-clause-places : goal.returns-clause-places
returns-clause-places c = λ base limit taken told stands.
    gap_behind-from c.args.self.now c.gap.result c.gap.ensures.within c.gap.ensures.none c.gap.ensures.«end»
    ∙ gap_behind_is c.args.self.now base limit told taken stands

use Rattle.std.proofs.Common.{◌∙◌}
use Rattle.zk_reasm.specs.Standing.{lent}
use Rattle.zk_reasm.proofs.ContentLemmas.{lent_is_run}
use Rattle.zk_reasm.proofs.stream.Stream.run.Goals as goal

pub returns-clause-lends : goal.returns-clause-lends
unfolding lent
returns-clause-lends c = c.run.ensures

pub returns-clause-bytes : goal.returns-clause-bytes
unfolding lent
returns-clause-bytes c = λ base limit taken told stands. c.run.ensures ∙ lent_is_run c.args.self.now base limit told taken stands

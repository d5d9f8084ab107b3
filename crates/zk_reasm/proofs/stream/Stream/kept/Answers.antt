use Rattle.zk_reasm.proofs.ContentLemmas.{kept_is, kept_bound}
use Rattle.zk_reasm.proofs.stream.Stream.kept.Goals as goal

pub returns-clause-exact : goal.returns-clause-exact
returns-clause-exact c = λ base limit taken told stands. kept_is c.args.self.now base limit told taken stands

pub returns-clause-bound : goal.returns-clause-bound
returns-clause-bound c = λ base limit taken told stands. kept_bound c.args.self.now base limit told taken stands

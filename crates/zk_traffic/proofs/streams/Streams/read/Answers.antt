use Rattle.std.proofs.Common.{refl}
use Rattle.zk_traffic.specs.News.{runs_of}
use Rattle.zk_traffic.proofs.streams.Streams.read.Goals as goal

pub returns-clause-news : goal.returns-clause-news
unfolding runs_of
returns-clause-news c = (refl, refl)

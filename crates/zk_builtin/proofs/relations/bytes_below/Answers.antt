use Rattle.zk_builtin.proofs.RelationLemmas.{bytes_below-lt}
use Rattle.zk_builtin.proofs.relations.bytes_below.Goals as goal

pub returns : goal.returns
returns c = bytes_below-lt c.args.a.now c.args.b.now c.lt.result c.lt.ensures

use Rattle.std.proofs.Common.{ap}
use Rattle.zk_scope.specs.Lent.{nodes_lent}
use Rattle.zk_scope.specs.Scripted.{scripts_in}
use Rattle.zk_scope.proofs.known.Names.nodes.Goals as goal

pub returns : goal.returns
unfolding scripts_in
returns c = ap nodes_lent c.deref.ensures.value

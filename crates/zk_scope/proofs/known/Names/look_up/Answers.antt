use Rattle.zk_scope.specs.Scripted.{scripts_in}
use Rattle.zk_scope.proofs.known.Names.look_up.Goals as goal

pub returns : goal.returns
unfolding scripts_in
returns c = c.look_up.ensures

use Rattle.zk_scope.specs.Scripted.{scripts_in}
use Rattle.zk_scope.proofs.known.Names.place_of.Goals as goal

pub returns : goal.returns
unfolding scripts_in
returns c = c.place_of.ensures

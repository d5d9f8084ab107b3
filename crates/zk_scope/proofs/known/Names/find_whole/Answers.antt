use Rattle.std.proofs.Common.{rules}
use Rattle.zk_scope.specs.Scripted.{scripts_in}
use Rattle.zk_scope.proofs.known.Names.find_whole.Goals as goal

pub returns : goal.returns
unfolding scripts_in
returns c = search rules

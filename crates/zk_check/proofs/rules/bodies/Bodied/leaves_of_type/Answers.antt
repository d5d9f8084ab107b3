use Rattle.std.proofs.Common.{◌≡◌, subst}
use Rattle.std.specs.declared.alloc.Global.{Global}
use Rattle.std.specs.declared.vec.Vec.{Vec}
use Rattle.std.specs.Prelude.{IfOk}
use Rattle.zk_typed.specs.LogCalls.{leaves}
use Rattle.zk_typed.specs.Resolving.{Scripts}
use Rattle.zk_scope.specs.declared.leaves.Leaf.{Leaf}
use Rattle.zk_scope.specs.Leaves.{leaves_lent}
use Rattle.zk_check.proofs.rules.bodies.Bodied.leaves_of_type.Goals as goal

pub returns : goal.returns
returns c = subst (λ (scripts : Scripts). IfOk c.leaves.result (λ (all : Vec Leaf Global). leaves_lent all.items ≡ leaves scripts c.args.number)) c.requires.same c.leaves.ensures

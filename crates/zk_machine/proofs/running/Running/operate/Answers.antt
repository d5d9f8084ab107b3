use Rattle.std.proofs.Common.{refl}
use Rattle.zk_machine.proofs.running.Running.operate.Goals as goal

pub returns-in-Do : goal.returns-in-Do
returns-in-Do c = rw c.in-Do.is (c.placed-in-Do.ensures _ _ refl (c.act.ensures c.in-Do.place))

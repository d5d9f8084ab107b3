use Rattle.std.proofs.Common.{refl}
use Rattle.zk_machine.proofs.JoinedLemmas.{counts_on}
use Rattle.zk_machine.proofs.running.Running.unit_and_step_of.Goals as goal

pub returns : goal.returns
returns c = λ of first second.
    counts_on _ _ _ _ _ c.args.place of c.args.number c.in_ok-before.before c.in_ok-after.after c.args.by c.in_ok-before.ensures c.in_ok-after.ensures first second (rw c.in-Drop.is at c.in_ok-op_behind.ensures)
    (c.placed.ensures _ _ refl (c.step_at_once-done.ensures c.args.place))

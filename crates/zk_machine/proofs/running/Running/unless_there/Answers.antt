use Rattle.std.proofs.Common.{refl}
use Rattle.zk_machine.proofs.JoinedLemmas.{there}
use Rattle.zk_machine.proofs.running.Running.unless_there.Goals as goal

pub returns : goal.returns
returns c = λ place of first second third.
    there _ _ _ _ _ place of c.args.place _ c.args.number c.args.other c.in_ok-key.key c.in-Unless.over c.in_ok-table.table c.in_ok-key.ensures c.in_ok-table.ensures first second third (rw c.in-Unless.is at c.in_ok-over.ensures)
    (c.placed.ensures _ _ refl (c.go_on_unless_there-done.ensures c.args.place _))

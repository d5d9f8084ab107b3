use Rattle.std.proofs.Common.{refl}
use Rattle.zk_machine.proofs.JoinedLemmas.{puts}
use Rattle.zk_machine.proofs.running.Running.put_element.Goals as goal

pub returns : goal.returns
returns c = λ code place of first second third.
    puts _ code _ _ _ place of c.args.place c.args.number c.args.other c.in_ok-key.key c.in_ok-table.table c.in_ok-table.ensures c.in_ok-key.ensures first second third (c.placed.ensures _ _ refl (c.put_at_once-done.ensures c.args.place))

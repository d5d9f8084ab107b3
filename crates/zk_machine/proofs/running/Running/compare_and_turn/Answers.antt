use Rattle.std.proofs.Common.{refl}
use Rattle.zk_machine.proofs.JoinedLemmas.{turns}
use Rattle.zk_machine.proofs.running.Running.compare_and_turn.Goals as goal

pub returns : goal.returns
returns c = λ place of first second third.
    turns _ _ _ _ _ place of c.in-Turn.place c.args.number c.in_ok-value.value c.args.count c.in-Turn.back c.args.relation c.counts_hold-truth.result c.in_ok-value.ensures first second third (rw c.in-Turn.is at c.in_ok-place.ensures)
    c.counts_hold-truth.ensures (c.placed.ensures _ _ refl (c.turn_at_once-done.ensures c.in-Turn.place))

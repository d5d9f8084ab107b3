use Rattle.zk_scope.specs.Lent.{declared_lent, nodes_lent, stated_lent}
use Rattle.zk_scope.proofs.making.begun.Goals as goal

pub invariant_of-result-clause-recorded : goal.invariant_of-result-clause-recorded
invariant_of-result-clause-recorded c = rw c.deref.ensures.value at c.in-Ok.ensures.recorded

pub invariant_of-result-clause-numbered : goal.invariant_of-result-clause-numbered
invariant_of-result-clause-numbered c = rw c.deref.ensures.value at c.in-Ok.ensures.numbered

pub invariant_of-result-clause-led : goal.invariant_of-result-clause-led
invariant_of-result-clause-led c = c.in-Ok.ensures.led

pub invariant_of-result-clause-circled : goal.invariant_of-result-clause-circled
invariant_of-result-clause-circled c = c.in-Ok.ensures.circled

pub invariant_of-result-clause-ended : goal.invariant_of-result-clause-ended
invariant_of-result-clause-ended c = c.unknown_ends.ensures (record { stated = stated_lent c.args.stated.items; nodes = nodes_lent c.args.nodes.items; names = declared_lent c.args.table.names.items })

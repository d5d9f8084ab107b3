use Rattle.std.proofs.Common.{refl}
use Rattle.zk_value.specs.Plain.{value_of}
use Rattle.zk_machine.proofs.JoinedLemmas.{updates}
use Rattle.zk_machine.proofs.Steps.{goes_by, halts}
use Rattle.zk_machine.proofs.running.Running.update_local_by_element.Goals as goal

pub returns-in-Ok : goal.returns-in-Ok
returns-in-Ok c = λ code place of first second third fourth.
    updates _ code _ _ _ place of c.args.place c.args.of c.args.number c.args.other c.in_ok-key.key c.args.local c.in_ok-table.table c.args.by c.in_ok-table.ensures c.in_ok-key.ensures first second third fourth
    (c.placed.ensures _ _ refl (goes_by c.args.of c.update_at_once-done.result _ (value_of c.in-Ok.value) _ _ _ (c.in-Ok.ensures c.args.place) (c.update_at_once-done.ensures c.args.of)))

pub returns-in-Err : goal.returns-in-Err
returns-in-Err c = λ code place of first second third fourth.
    updates _ code _ _ _ place of c.args.place c.args.of c.args.number c.args.other c.in_ok-key.key c.args.local c.in_ok-table.table c.args.by c.in_ok-table.ensures c.in_ok-key.ensures first second third fourth
    (c.placed-in-Err.ensures _ _ refl (halts (Unit {0}) value_of c.args.place c.in-Err.halt _ _ _ (c.in-Err.ensures c.args.place)))

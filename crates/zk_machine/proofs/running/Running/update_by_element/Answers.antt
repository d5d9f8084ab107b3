use Rattle.zk_lower.specs.View.{code_of}
use Rattle.zk_machine.proofs.running.Running.update_by_element.Goals as goal

pub returns : goal.returns
returns c = λ place of first second third.
    let arm = c.in-Do-default-Update-Local-default-eq1 in
    let action = rw arm.is at arm.action-is in
    let left = rw action at (rw arm.is at arm.action-0-is) in
    let count = rw arm.is at arm.count-test in
    c.update_local_by_element.ensures (code_of c.args.code.now) place of first second third (rw (arm.is, action, left) (rw (action, left, count) at (rw arm.is at c.in_ok-of.ensures)))

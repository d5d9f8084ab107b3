use Rattle.zk_lower.specs.View.{code_of}
use Rattle.zk_machine.proofs.running.Running.with_local.Goals as goal

pub returns-in-Apply-default-HasKey-eq2 : goal.returns-in-Apply-default-HasKey-eq2
returns-in-Apply-default-HasKey-eq2 c = λ place of first second.
    let arm = c.in-Apply-default-HasKey-eq2 in
    let primitive = rw arm.is at arm.primitive-is in
    let count = rw arm.is at arm.count-test in
    c.unless_there.ensures place of first second (rw (primitive, count) at (rw arm.is at c.in_ok-place.ensures))

pub returns-in-Apply-default-Element-eq2 : goal.returns-in-Apply-default-Element-eq2
returns-in-Apply-default-Element-eq2 c = λ place of first second.
    let arm = c.in-Apply-default-Element-eq2 in
    let primitive = rw arm.is at arm.primitive-is in
    let count = rw arm.is at arm.count-test in
    c.update_by_element.ensures place of first second (rw (primitive, count) at (rw arm.is at c.in_ok-place.ensures))

pub returns-in-Do-default-Assign-Element-eq3 : goal.returns-in-Do-default-Assign-Element-eq3
returns-in-Do-default-Assign-Element-eq3 c = λ place of first second.
    let arm = c.in-Do-default-Assign-Element-eq3 in
    let action = rw arm.is at arm.action-is in
    let left = rw action at (rw arm.is at arm.action-0-is) in
    let count = rw arm.is at arm.count-test in
    c.put_element.ensures (code_of c.args.code.now) place of first second (rw (action, left, count) at (rw arm.is at c.in_ok-place.ensures))

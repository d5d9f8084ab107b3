use Rattle.zk_machine.proofs.running.Running.unit_and_step.Goals as goal

pub returns : goal.returns
returns c = λ first.
    let arm = c.in-Apply-default-Step-Local-default-eq0 in
    let primitive = rw arm.is at arm.primitive-is in
    let left = rw primitive at (rw arm.is at arm.primitive-0-is) in
    let count = rw arm.is at arm.count-test in
    c.unit_and_step_of.ensures arm.place first (rw (primitive, left, count) at (rw arm.is at c.in_ok-number.ensures))

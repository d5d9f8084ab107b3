use Rattle.zk_lower.specs.View.{code_of}
use Rattle.zk_machine.proofs.running.Running.with_count.Goals as goal

pub returns-in-Apply-default-Compare-eq2 : goal.returns-in-Apply-default-Compare-eq2
returns-in-Apply-default-Compare-eq2 c = λ place first second.
    let arm = c.in-Apply-default-Compare-eq2 in
    let primitive = rw arm.is at arm.primitive-is in
    let count = rw arm.is at arm.count-test in
    c.compare_and_turn.ensures place arm.place first second (rw (primitive, count) at (rw arm.is at c.in_ok-relation.ensures))

pub returns-in-Apply-default-Binary-eq2 : goal.returns-in-Apply-default-Binary-eq2
returns-in-Apply-default-Binary-eq2 c = λ place first second.
    let arm = c.in-Apply-default-Binary-eq2 in
    let primitive = rw arm.is at arm.primitive-is in
    let count = rw arm.is at arm.count-test in
    c.compute_at_once.ensures (code_of c.args.code.now) place arm.place first second (rw (primitive, count) at (rw arm.is at c.in_ok-relation.ensures))

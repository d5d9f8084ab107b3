use Rattle.zk_machine.proofs.running.Running.with_operand.Goals as goal

pub returns-in-Push-Count : goal.returns-in-Push-Count
returns-in-Push-Count c = λ place first.
    let arm = c.in-Push-Count in
    let count = rw arm.is at arm.field-0-is in
    c.with_count.ensures place first (rw count at (rw arm.is at c.in_ok-count.ensures))

pub returns-in-Local : goal.returns-in-Local
returns-in-Local c = λ place first. c.with_local.ensures place _ first (rw c.in-Local.is at c.in_ok-count.ensures)

use Rattle.zk_machine.proofs.running.Running.joined.Goals as goal

pub returns-in-Local : goal.returns-in-Local
returns-in-Local c = λ stands. c.with_operand.ensures _ (rw c.in-Local.is at stands)

pub returns-in-Tick : goal.returns-in-Tick
returns-in-Tick c = λ stands. c.unit_and_step.ensures (rw c.in-Tick.is at stands)

use Rattle.zk_machine.proofs.running.Running.step_side.Goals as goal

pub returns-in-Local : goal.returns-in-Local
returns-in-Local c = λ place. rw c.in-Local.is (c.step_local.ensures place)

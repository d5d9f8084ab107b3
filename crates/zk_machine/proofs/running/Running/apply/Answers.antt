use Rattle.zk_machine.proofs.running.Running.apply.Goals as goal

pub returns-in-Binary : goal.returns-in-Binary
returns-in-Binary c = λ place. rw c.in-Binary.is (c.compute.ensures place)

use Rattle.std.proofs.Common.{◌≡◌}
use Rattle.zk_lower.specs.Run as run
use Rattle.zk_lower.specs.View.{code_of}
use Rattle.zk_machine.specs.Running.{machine_of}
use Rattle.zk_machine.proofs.running.Running.run.Given as goal

abbrev pub invariant-steps : goal.invariant-steps
invariant-steps l = run.run (code_of l.code) (machine_of l.self) ≡ run.run (code_of l.code) (machine_of l.initial.self)

abbrev pub decreases-steps : goal.decreases-steps
decreases-steps l = run.weight (code_of l.code) (machine_of l.self)

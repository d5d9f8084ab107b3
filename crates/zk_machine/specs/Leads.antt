-- How a step of code, or several, agree with what the machine says of it.
use Rattle.std.specs.Prelude.{◌≡◌, Result, Ok, Err, Option, Some, None}
use Rattle.zk_base.specs.declared.memory.Mem.{Mem}
use Rattle.zk_lower.specs.Code.{Code}
use Rattle.zk_lower.specs.Frames.{Machine}
use Rattle.zk_lower.specs.Steps.{Step, Goes, Ends}
use Rattle.zk_tree.specs.Value.{Value}
use Rattle.zk_typed.specs.Does.{Ran, Gives, Faults, Spent}
use Rattle.zk_typed.specs.State.{State}
use Rattle.zk_value.specs.Plain.{field_of}
use Rattle.zk_machine.specs.declared.ends.Ending as rust
use Rattle.zk_machine.specs.declared.ends.Ending.TheVariants as ending
use Rattle.zk_machine.specs.declared.ends.Next as next
use Rattle.zk_machine.specs.declared.ends.Next.TheVariants as to
use Rattle.zk_machine.specs.declared.running.Running as running
use Rattle.zk_machine.specs.Running.{machine_of}
use Rattle.zk_machine.specs.Soon.{Soon}
use Rattle.zk_machine.specs.State.{state_of}

abbrev pub ran_of : rust.Ending → State → Ran (Option Value)
ran_of (ending.Done value) state = Gives (field_of value) state
ran_of (ending.Fault kind place) state = Faults kind place state.world state.units
ran_of (ending.Spent place) state = Spent place state.world

-- The code ends as it was noted. Want of memory alone is free.
abbrev pub Leads : Result next.Next Mem → Step → running.Running → Type 0
Leads (Ok to.Goes) step now = step ≡ Goes (machine_of now)
Leads (Ok to.Ends) step now = step ≡ Ends (ran_of now.ending (state_of now.state))
Leads (Err mem) step now = Unit {0}

-- The same of a step, or of several.
abbrev pub LeadsOn : Result next.Next Mem → Code → Machine → running.Running → Type 0
LeadsOn result code old now = Soon (λ one. Leads result one now) code old

-- Where several operations are done at once, the code comes to this by them. Else nothing is done.
abbrev pub Joins : Option (Result next.Next Mem) → Code → running.Running → running.Running → Type 0
Joins (Some result) code old now = LeadsOn result code (machine_of old) now
Joins None code old now = machine_of now ≡ machine_of old

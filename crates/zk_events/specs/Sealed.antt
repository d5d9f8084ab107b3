-- What the machine of a run stands for. The definition is closed: the crate's proofs know of a machine what its calls say
-- (src/sealed.rt), and none looks at its code or at the world that it keeps.
use Rattle.std.specs.Prelude.{ℕ}
use Rattle.zk_lower.specs.Code.{Code}
use Rattle.zk_lower.specs.Told.{Told}
use Rattle.zk_machine.specs.Standing as machine
use Rattle.zk_machine.specs.declared.due.DueKind.{DueKind}
use Rattle.zk_typed.specs.Program.{Program}
use Rattle.zk_typed.specs.State.{World}
use Rattle.zk_events.specs.declared.sealed.SealedMachine.{SealedMachine}

-- It runs this program and has come to this world, of whose lines and rows these were given out.
unfoldable pub StandsFor : SealedMachine → Program → Told → World → Type 0
StandsFor sealed program given world = machine.StandsFor sealed.machine program given world

-- the code that it runs
abbrev pub code_of : SealedMachine → Code
code_of sealed = machine.code_of sealed.machine

-- what is due can be taken
abbrev pub IsReady : SealedMachine → DueKind → Type 0
IsReady sealed what = machine.IsReady sealed.machine what

-- an event of this order number waits for its moment
abbrev pub IsScheduled : SealedMachine → ℕ → Type 0
IsScheduled sealed order = machine.IsScheduled sealed.machine order

-- how many of its lines and rows were not yet given out
abbrev pub waiting : SealedMachine → ℕ
waiting sealed = machine.waiting sealed.machine

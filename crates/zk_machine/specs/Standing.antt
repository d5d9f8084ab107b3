-- What a machine stands for: a program, what was given out, and a world.
use Rattle.std.specs.Prelude.{◌≡◌, ℕ, [], ◌∷◌, ◌++◌, length, filter_map, true, false, IsSome}
use Rattle.zk_lower.specs.Code.{Code}
use Rattle.zk_lower.specs.Lowering.{lowered}
use Rattle.zk_lower.specs.Told.{Told, behind}
use Rattle.zk_typed.specs.Program.{Program}
use Rattle.zk_typed.specs.State.{World}
use Rattle.zk_value.specs.declared.out.Out.{Out}
use Rattle.zk_machine.specs.Indexed.{code_in}
use Rattle.zk_machine.specs.Schedule.{event_numbered}
use Rattle.zk_machine.specs.declared.machine.Machine.{Machine}
use Rattle.zk_machine.specs.declared.due.DueKind.{DueKind}
use Rattle.zk_machine.specs.declared.due.DueKind.TheVariants.{Entry, Scheduled}
use Rattle.zk_machine.specs.State.{line_in, row_in, world_of}

-- the code that a machine runs
abbrev pub code_of : Machine → Code
code_of machine = code_in machine.code

-- A machine runs this program and has come to this world, of whose lines and rows these were given out.
pub record StandsFor (machine : Machine) (program : Program) (given : Told) (world : World) : Type 0 where
  pub code : code_in machine.code ≡ lowered program
  pub comes : world ≡ behind given (world_of machine.running.state.world)
  pub works : machine.failed ≡ false

-- nothing is given out yet
abbrev pub nothing : Told
nothing = record { lines = []; rows = [] }

-- a line or a row behind those that were given out before
abbrev pub with_out : Told → Out → Told
with_out given out = record { lines = given.lines ++ filter_map line_in (out ∷ []); rows = given.rows ++ filter_map row_in (out ∷ []) }

-- how many of its lines and rows were not yet given out
abbrev pub waiting : Machine → ℕ
waiting machine = length machine.running.state.world.out.items

-- how many units the last body left
abbrev pub units_left : Machine → ℕ
units_left machine = machine.running.state.units

-- want of memory has broken it
abbrev pub HasFailed : Machine → Type 0
HasFailed machine = machine.failed ≡ true

-- an event of this order number waits for its moment
abbrev pub IsScheduled : Machine → ℕ → Type 0
IsScheduled machine order = IsSome (event_numbered order (world_of machine.running.state.world).scheduled)

-- what is due can be taken
abbrev pub IsReady : Machine → DueKind → Type 0
IsReady machine (Entry table order) = Unit {0}
IsReady machine (Scheduled order) = IsScheduled machine order

-- the end has begun, at the network time that there is
abbrev pub wound_up : World → World
wound_up world = record world { is_ending = true }

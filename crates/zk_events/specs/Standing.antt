-- What an engine stands for: a program, the units of each body, what the run was told, and which of its lines and rows were
-- given out.
use Rattle.std.specs.Prelude.{◌≡◌, ℕ, true, false, Option, Some, None}
use Rattle.zk_base.specs.declared.time.Moment.{Moment}
use Rattle.zk_lower.specs.Told.{Told}
use Rattle.zk_events.specs.Sealed as sealed
use Rattle.zk_typed.specs.Program.{Program}
use Rattle.zk_typed.specs.Running.{Progress, Goes, Floods, world_in}
use Rattle.zk_events.specs.declared.dispatcher.Flow.{Flow}
use Rattle.zk_events.specs.declared.dispatcher.Flow.TheVariants as flow
use Rattle.zk_events.specs.declared.engine.Engine.{Engine}
use Rattle.zk_events.specs.declared.engine.ItemEnd.{ItemEnd}
use Rattle.zk_events.specs.declared.engine.ItemEnd.TheVariants as ended
use Rattle.zk_events.specs.Flowing.{Flows, Flooded}
use Rattle.zk_events.specs.Holding.{known_in}
use Rattle.zk_events.specs.Run.{SoFar, Stage, progress_at, so_far_at}
use Rattle.zk_machine.specs.Standing.{with_out}
use Rattle.zk_value.specs.declared.out.Out.{Out}

-- how a part of a run ends: the moment of a flood is the network time then
abbrev pub end_of : Progress → ItemEnd
end_of (Goes world left) = ended.Done
end_of (Floods world) = ended.Flood world.time

-- an engine goes on from here, with the objects that are known
pub record Continues (engine : Engine) (program : Program) (given : Told) (so_far : SoFar) : Type 0 where
  pub flows : Flows engine.dispatcher program given so_far.progress
  pub known : known_in engine.connections ≡ so_far.known

abbrev pub Comes : Flow → Engine → Program → Told → SoFar → Type 0
Comes flow.Goes engine program given so_far = Continues engine program given so_far
Comes flow.Floods engine program given so_far = Flooded engine.dispatcher program given so_far.progress

-- a flood has ended its run, at this moment
pub record Stays (moment : Moment) (engine : Engine) (program : Program) (given : Told) (so_far : SoFar) : Type 0 where
  pub flooded : Flooded engine.dispatcher program given so_far.progress
  pub at : moment ≡ flooded.world.time

abbrev pub IsAt : Option Moment → Engine → Program → Told → SoFar → Type 0
IsAt None engine program given so_far = Continues engine program given so_far
IsAt (Some moment) engine program given so_far = Stays moment engine program given so_far

-- The engine runs this program, each body with so many units, and has come as far as the run comes that was told this; of
-- the lines and rows of its world these were given out.
pub record StandsFor (engine : Engine) (program : Program) (budget : ℕ) (stage : Stage) (given : Told) : Type 0 where
  pub works : engine.failed ≡ false
  pub budget_is : engine.dispatcher.budget ≡ budget
  pub is_at : IsAt engine.flood engine program given (so_far_at program budget stage)

-- a line or a row more was given out
abbrev pub GivesOut : Engine → Engine → Out → Type 0
GivesOut old new out =
    (program : Program) (budget : ℕ) (stage : Stage) (given : Told) → StandsFor old program budget stage given → StandsFor new program budget stage (with_out given out)

-- all lines and rows were given out
abbrev pub HasGivenAll : Engine → Engine → Type 0
HasGivenAll old new =
    (program : Program) (budget : ℕ) (stage : Stage) (given : Told) → StandsFor old program budget stage given
    → (given.lines ≡ (world_in (progress_at program budget stage)).lines) × (given.rows ≡ (world_in (progress_at program budget stage)).rows)
    × StandsFor new program budget stage given

-- how many lines and rows were not yet given out
abbrev pub waiting : Engine → ℕ
waiting engine = sealed.waiting engine.dispatcher.machine

-- want of memory has broken it
abbrev pub HasFailed : Engine → Type 0
HasFailed engine = engine.failed ≡ true

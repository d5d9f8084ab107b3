-- Laws of runs.
use Rattle.std.specs.Prelude.{◌≡◌, ◌≤ℤ◌, ℕ, pos, List, ◌++◌}
use Rattle.zk_base.specs.declared.time.Moment.{Moment}
use Rattle.zk_lower.specs.Told.{Stays, Told}
use Rattle.zk_traffic.specs.declared.item.Item.{Item}
use Rattle.zk_typed.specs.Program.{Program}
use Rattle.zk_typed.specs.Running.{Progress, world_in}
use Rattle.zk_typed.specs.Running as plain
use Rattle.zk_tree.specs.Table.{last_moment}
use Rattle.zk_agenda.specs.Laws.{AreInOrder, IsInTime, IsOnce, TablesStay}
use Rattle.zk_events.specs.declared.engine.Engine.{Engine}
use Rattle.zk_events.specs.Run.{Begun, Ended, Stage, progress_at, run, turned}
use Rattle.zk_events.specs.Standing.{StandsFor}

-- What a run printed and wrote behind its first items is the beginning of what it prints and writes behind more of them.
abbrev pub ItemsKeep : Type 0
ItemsKeep = (program : Program) (budget : ℕ) (items more : List Item)
    → Stays (world_in (progress_at program budget (Begun items))) (world_in (progress_at program budget (Begun (items ++ more))))

-- And of what it has printed and written at its end.
abbrev pub EndKeeps : Type 0
EndKeeps = (program : Program) (budget : ℕ) (items more : List Item) (last : Moment)
    → Stays (world_in (progress_at program budget (Begun items))) (world_in (progress_at program budget (Ended (items ++ more) last)))

-- Laws of zk_agenda --------------------------------------------------------------------------------------------------

-- The run is that of the meaning over the items as it takes them.
abbrev pub RunsByTurns : Type 0
RunsByTurns = (program : Program) (budget : ℕ) (items : List Item) (last : Moment) → run program budget items last ≡ plain.run program budget (turned program budget items) last

-- Each event that was scheduled is dispatched once or waits still, and where the run comes to its end none waits.
abbrev pub EventsOnce : Type 0
EventsOnce = (program : Program) (budget : ℕ) (items : List Item) (last : Moment) → IsOnce program budget (turned program budget items) last

-- Where no body gives a global whose entries expire another value, over items whose moments rise from 0 on to the last network
-- time: network time never falls from one dispatch to a later one, and of two turns the one that is due earlier comes first.
abbrev pub TimeNeverFalls : Type 0
TimeNeverFalls = (program : Program) (budget : ℕ) (items : List Item) (last : Moment) → TablesStay program
    → AreInOrder (record { 0 = pos 0 }) (turned program budget items) last → last.0 ≤ℤ last_moment → IsInTime program budget (turned program budget items) last

-- Given out -------------------------------------------------------------------------------------------------------------

-- What was given out is the beginning of what a world tells.
pub record Begins (given : Told) (progress : Progress) : Type 0 where
  pub more : Told
  pub lines : (world_in progress).lines ≡ given.lines ++ more.lines
  pub rows : (world_in progress).rows ≡ given.rows ++ more.rows

-- What an engine has given out is the beginning of what its run has printed and written.
abbrev pub GivenBegins : Type 0
GivenBegins = (engine : Engine) (program : Program) (budget : ℕ) (stage : Stage) (given : Told) → StandsFor engine program budget stage given
    → Begins given (progress_at program budget stage)

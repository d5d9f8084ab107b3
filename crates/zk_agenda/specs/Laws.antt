-- Laws of runs, over items that go onward: each of which queues events and makes objects, and does no more to network time, to
-- the events that were scheduled and to tables than the body of a script does.
use Rattle.std.specs.Prelude.{◌≡◌, ◌+◌, ◌<◌, ◌==◌, ◌≤ℤ◌, ℕ, ℤ, pos, List, [], ◌∷◌, All, true, is_some, slice_get}
use Rattle.std.specs.List.{count_by}
use Rattle.zk_base.specs.declared.time.Moment.{Moment}
use Rattle.zk_tree.specs.Table.{last_moment}
use Rattle.zk_typed.specs.Dispatch.{dispatch}
use Rattle.zk_typed.specs.Does.{named}
use Rattle.zk_typed.specs.Program.{Program, Global}
use Rattle.zk_typed.specs.Running.{Item, Goes, expire_of, run, world_in}
use Rattle.zk_typed.specs.State.{World}
use Rattle.zk_typed.specs.World.{Queued}
use Rattle.zk_agenda.specs.Onward.{Raises}
use Rattle.zk_agenda.specs.Sparing.{Spares, Expires}
use Rattle.zk_agenda.specs.Trace.{dispatches, dues, is_scheduled, times}

abbrev pub ItemsGo : List Item → Type 0
ItemsGo items = All (λ item. (world : World) → Raises world (item.raises world)) items

-- how many of the events that wait for their moments have this number
abbrev pub waits : ℕ → World → ℕ
waits order world = count_by (λ one. one.order == order) world.scheduled

-- Each event that was scheduled is dispatched once or waits still, and where the run comes to its end none waits.
pub record IsOnce (program : Program) (budget : ℕ) (items : List Item) (last : Moment) : Type 0 where
  pub once : (order : ℕ) → order < (world_in (run program budget items last)).schedulings
      → count_by (is_scheduled order) (dispatches program budget items last) + waits order (world_in (run program budget items last)) ≡ 1
  pub all : (world : World) (left : ℕ) → run program budget items last ≡ Goes world left → world.scheduled ≡ []

abbrev pub DispatchedOnce : Type 0
DispatchedOnce = (program : Program) (budget : ℕ) (items : List Item) (last : Moment) → ItemsGo items → IsOnce program budget items last

-- Network time, and the order of turns ------------------------------------------------------------------------------------

-- numbers of which each is at least so much
abbrev pub AtLeast : ℤ → List ℤ → Type 0
AtLeast least [] = Unit {0}
AtLeast least (first ∷ others) = (least ≤ℤ first) × AtLeast least others

-- each number is at most any later one
abbrev pub IsAscending : List ℤ → Type 0
IsAscending [] = Unit {0}
IsAscending (first ∷ others) = AtLeast first others × IsAscending others

-- the moments of items rise from one on up to another
abbrev pub AreInOrder : Moment → List Item → Moment → Type 0
AreInOrder start [] last = start.0 ≤ℤ last.0
AreInOrder start (item ∷ items) last = (start.0 ≤ℤ item.moment.0) × AreInOrder item.moment items last

-- The globals whose entries expire, from this number on, have the same values in both worlds, and so the same tables.
abbrev pub SameTables : ℕ → List Global → World → World → Type 0
SameTables number [] before after = Unit {0}
SameTables number (one ∷ others) before after =
    (is_some one.expiry ≡ true → named after.globals number ≡ named before.globals number) × SameTables (number + 1) others before after

-- No body gives a global whose entries expire another value, as no script does that breaks no rule.
pub record TablesStay (program : Program) : Type 0 where
  pub dispatches : (budget : ℕ) (world : World) (event : Queued) → SameTables 0 program.globals world (dispatch program budget world event)
  pub expiries : (budget number order : ℕ) (world : World) → SameTables 0 program.globals world (expire_of program budget number order world (slice_get program.globals number))

-- So do those of a program of which no body gives them another value.
abbrev pub SparingTablesStay : Type 0
SparingTablesStay = (program : Program) → Spares (Expires program) program → TablesStay program

-- Network time never falls from one dispatch to a later one; and of two turns the one that is due earlier comes first.
pub record IsInTime (program : Program) (budget : ℕ) (items : List Item) (last : Moment) : Type 0 where
  pub times : IsAscending (times (dispatches program budget items last))
  pub dues : IsAscending (dues (dispatches program budget items last))

-- Of programs whose tables stay those of their globals, over items whose moments rise from 0 on to the last network time.
abbrev pub TimeRises : Type 0
TimeRises = (program : Program) (budget : ℕ) (items : List Item) (last : Moment) → ItemsGo items → TablesStay program
    → AreInOrder (record { 0 = pos 0 }) items last → last.0 ≤ℤ last_moment → IsInTime program budget items last

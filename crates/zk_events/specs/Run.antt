-- The run of a program over the items of a capture, item by item.
use Rattle.std.specs.Prelude.{ℕ, Bool, List, [], ◌∷◌, fold, int_le}
use Rattle.zk_base.specs.declared.time.Moment.{Moment}
use Rattle.zk_traffic.specs.declared.item.Item.{Item}
use Rattle.zk_typed.specs.Program.{Program}
use Rattle.zk_typed.specs.Running.{Progress, Goes, Turn, begun, dispatches_max, finish, goes_on, no_values, take, turns, world_in}
use Rattle.zk_typed.specs.Running as plain
use Rattle.zk_typed.specs.State.{World, first_world, with_time}
use Rattle.zk_events.specs.Known.{Known, none_known}
use Rattle.zk_events.specs.Turns.{known_after, turn_of}

-- how far a run has come, and the objects of the instances that were not removed
pub record SoFar : Type 0 where
  pub progress : Progress
  pub known : Known

abbrev pub is_due_by : Moment → Turn → Bool
is_due_by moment one = int_le one.at.0 moment.0

-- the turns that are due by a moment
abbrev pub with_due : Program → ℕ → Moment → World → ℕ → Progress
with_due program budget moment world left = turns program budget (λ at. at) (is_due_by moment) world dispatches_max

-- the world in which an item renews its facts and raises its events
abbrev pub world_for : Program → ℕ → Progress → Item → World
world_for program budget progress item = with_time item.moment (world_in (goes_on (with_due program budget item.moment) progress))

abbrev pub taken : Program → ℕ → SoFar → Item → SoFar
taken program budget so_far item = record {
  progress = take program budget so_far.progress (turn_of program so_far.known item);
  known = known_after program so_far.known item.what (world_for program budget so_far.progress item);
}

-- behind the beginning, and some items
abbrev pub so_far : Program → ℕ → List Item → SoFar
so_far program budget items = fold (taken program budget) (record { progress = begun program budget; known = none_known }) items

-- behind all items and the end, at the last network time
abbrev pub run : Program → ℕ → List Item → Moment → Progress
run program budget items last = goes_on (finish program budget last) (so_far program budget items).progress

-- the items as the run of a program takes them, from here on
abbrev pub turned_from : Program → ℕ → SoFar → List Item → List plain.Item
turned_from program budget before [] = []
turned_from program budget before (item ∷ items) = turn_of program before.known item ∷ turned_from program budget (taken program budget before item) items

abbrev pub turned : Program → ℕ → List Item → List plain.Item
turned program budget items = turned_from program budget (so_far program budget []) items

-- what a run was told so far
pub data Stage : Type 0 where
  -- nothing
  New : Stage
  -- that it begins, and these items
  Begun : (items : List Item) → Stage
  -- and that it ends, at this network time
  Ended : (items : List Item) (last : Moment) → Stage

abbrev pub so_far_at : Program → ℕ → Stage → SoFar
so_far_at program budget New = record { progress = Goes (first_world (no_values program)) dispatches_max; known = none_known }
so_far_at program budget (Begun items) = so_far program budget items
so_far_at program budget (Ended items last) = record { progress = run program budget items last; known = (so_far program budget items).known }

-- how far the run has come behind what it was told
abbrev pub progress_at : Program → ℕ → Stage → Progress
progress_at program budget stage = (so_far_at program budget stage).progress

-- The state that scripts run in: the world, the names of the body under way, and the units that are left to it.
use Rattle.std.specs.Prelude.{ℕ, Bool, true, false, List, [], ◌∷◌, ◌++◌, ◌+◌, Option, pos}
use Rattle.zk_base.specs.declared.time.Moment.{Moment}
use Rattle.zk_tree.specs.Store.{Store}
use Rattle.zk_tree.specs.Value.{Value}
use Rattle.zk_typed.specs.declared.script.literal.DefaultValue.{DefaultValue}
use Rattle.zk_typed.specs.Log.{Stream, Row}
use Rattle.zk_typed.specs.World.{Queued, Scheduled}

-- a table's `&default`, and the number of the table's object
pub record TableDefault : Type 0 where
  pub object : ℕ
  pub default : DefaultValue

pub record World : Type 0 where
  -- network time
  pub time : Moment
  -- whether the end has begun: then nothing expires, and nothing more is scheduled
  pub is_ending : Bool
  -- the objects by their numbers
  pub store : Store
  -- the tables that have a `&default`
  pub defaults : List TableDefault
  -- the values of globals and constants by their numbers, each where it has one
  pub globals : List (Option Value)
  -- the events that wait to be dispatched, first in, first out
  pub queue : List Queued
  -- the events that wait for their moments, and how many were scheduled so far
  pub scheduled : List Scheduled
  pub schedulings : ℕ
  -- the log streams with their filters
  pub streams : List Stream
  -- the rows written so far
  pub rows : List Row
  -- the lines printed so far, without their ends
  pub lines : List (List ℕ)

pub record State : Type 0 where
  pub world : World
  -- the parameters and locals of the body under way by their numbers, each where it has a value
  pub locals : List (Option Value)
  -- the units that are left to the dispatched body
  pub units : ℕ

-- the world at the beginning of a program with so many globals and constants
abbrev pub first_world : List (Option Value) → World
first_world globals = record {
  time = record { 0 = pos 0 };
  is_ending = false;
  store = [];
  defaults = [];
  globals = globals;
  queue = [];
  scheduled = [];
  schedulings = 0;
  streams = [];
  rows = [];
  lines = [];
}

-- Parts of a world -------------------------------------------------------------------------------------------------

abbrev pub with_time : Moment → World → World
with_time moment world = record world { time = moment }

abbrev pub with_store : Store → World → World
with_store store world = record world { store = store }

abbrev pub with_defaults : List TableDefault → World → World
with_defaults defaults world = record world { defaults = defaults }

abbrev pub with_globals : List (Option Value) → World → World
with_globals globals world = record world { globals = globals }

abbrev pub with_queue : List Queued → World → World
with_queue queue world = record world { queue = queue }

abbrev pub with_streams : List Stream → World → World
with_streams streams world = record world { streams = streams }

-- events wait behind those that wait already
abbrev pub queued_behind : List Queued → World → World
queued_behind events world = with_queue (world.queue ++ events) world

abbrev pub with_row : Row → World → World
with_row row world = record world { rows = world.rows ++ row ∷ [] }

abbrev pub with_line : List ℕ → World → World
with_line line world = record world { lines = world.lines ++ line ∷ [] }

-- an event waits for a moment, behind those that were scheduled before for the same
abbrev pub scheduled_for : Moment → Queued → World → World
scheduled_for due what world = record world {
  scheduled = world.scheduled ++ record { due = due; order = world.schedulings; what = what } ∷ [];
  schedulings = world.schedulings + 1;
}

-- the end begins, at the last network time
abbrev pub ending_at : Moment → World → World
ending_at last world = record world { time = last; is_ending = true }

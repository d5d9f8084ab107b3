-- A run as what happens in it, one thing after another: its dispatches, and between them the items of the capture and the end. Each
-- thing says by itself when it may come next and what comes of it; how a run is defined is not spoken of.
use Rattle.std.specs.Prelude.{◌≡◌, ℕ, Bool, true, false, List, [], ◌∷◌, ◌++◌, map, filter, filter_map, Option, Some, None}
use Rattle.zk_base.specs.declared.time.Moment.{Moment}
use Rattle.zk_typed.specs.Dispatch.{dispatch}
use Rattle.zk_typed.specs.Predefined.{zeek_init, zeek_done}
use Rattle.zk_typed.specs.Program.{Program}
use Rattle.zk_typed.specs.Running.{Goes, Item, Turn, happens, initialised, next_turn, no_values, run, world_in}
use Rattle.zk_typed.specs.State.{World, ending_at, first_world, queued_behind, with_queue, with_time}
use Rattle.zk_typed.specs.World.{Queued, queued}
use Rattle.zk_agenda.specs.Trace.{Came, Dispatched, Waited, What, dispatches, is_by}

pub data Happening : Type 0 where
  Dispatches : (one : Dispatched) → Happening
  -- an item of the capture is taken
  Takes : (item : Item) → Happening
  -- the end begins, at the last network time
  Ends : (last : Moment) → Happening
  -- `zeek_done` is queued
  Finishes : Happening

-- When it may come next ------------------------------------------------------------------------------------------------

-- the event is the first of those that wait in the queue
abbrev pub IsFirst : Queued → List Queued → Type 0
IsFirst event [] = ⊥
IsFirst event (first ∷ others) = event ≡ first

-- The first event of the queue is dispatched, at network time; where none waits there, the next turn comes.
abbrev pub IsNext : Program → World → Moment → What → Type 0
IsNext program world time (Waited event) = (time ≡ world.time) × IsFirst event world.queue
IsNext program world time (Came turn) = (world.queue ≡ []) × (next_turn program world ≡ Some turn)

-- What is no dispatch finds the queue empty. An item finds no turn that is due by its moment, and `zeek_done` none at all.
abbrev pub MayCome : Program → World → Happening → Type 0
MayCome program world (Dispatches one) = IsNext program world one.time one.what
MayCome program world (Takes item) = (world.queue ≡ []) × ((turn : Turn) → next_turn program world ≡ Some turn → is_by item.moment turn ≡ false)
MayCome program world (Ends last) = world.queue ≡ []
MayCome program world Finishes = (world.queue ≡ []) × (next_turn program world ≡ None)

-- What comes of it -------------------------------------------------------------------------------------------------------

abbrev pub without_first : List Queued → List Queued
without_first [] = []
without_first (first ∷ others) = others

abbrev pub dispatched : Program → ℕ → World → Moment → What → World
dispatched program budget world time (Waited event) = dispatch program budget (with_queue (without_first world.queue) world) event
dispatched program budget world time (Came turn) = happens program budget (with_time time world) turn.what

abbrev pub happened : Program → ℕ → World → Happening → World
happened program budget world (Dispatches one) = dispatched program budget world one.time one.what
happened program budget world (Takes item) = item.raises (with_time item.moment world)
happened program budget world (Ends last) = ending_at last world
happened program budget world Finishes = queued_behind (queued zeek_done [] ∷ []) world

-- One after another ------------------------------------------------------------------------------------------------------

-- these happen one after another, from one world on up to another
abbrev pub IsHistory : Program → ℕ → World → List Happening → World → Type 0
IsHistory program budget world [] end = end ≡ world
IsHistory program budget world (first ∷ others) end = MayCome program world first × IsHistory program budget (happened program budget world first) others end

abbrev pub dispatch_in : Happening → Option Dispatched
dispatch_in (Dispatches one) = Some one
dispatch_in other = None

abbrev pub is_other : Happening → Bool
is_other (Dispatches one) = false
is_other other = true

-- where a run begins: each global has its initial value, and `zeek_init` is queued behind what those queued
abbrev pub beginning : Program → ℕ → World
beginning program budget = queued_behind (queued zeek_init [] ∷ []) (initialised program budget 0 (first_world (no_values program)) program.globals)

-- what is to happen beside dispatches: each item in its order, and then the end
abbrev pub planned : List Item → Moment → List Happening
planned items last = map (λ item. Takes item) items ++ Ends last ∷ Finishes ∷ []

-- The trace of a run has all its dispatches, in their order: with the items and the end between them they are all that happens
-- from where the run begins up to its last world. Where it comes to its end nothing is left undone, and no event waits in the queue.
pub record IsWhole (program : Program) (budget : ℕ) (items : List Item) (last : Moment) : Type 0 where
  pub history : List Happening
  pub leads : IsHistory program budget (beginning program budget) history (world_in (run program budget items last))
  pub dispatches : filter_map dispatch_in history ≡ dispatches program budget items last
  -- what a flood leaves undone
  pub undone : List Happening
  pub others : filter is_other history ++ undone ≡ planned items last
  pub all : (world : World) (left : ℕ) → run program budget items last ≡ Goes world left → (undone ≡ []) × (world.queue ≡ [])

abbrev pub TraceIsWhole : Type 0
TraceIsWhole = (program : Program) (budget : ℕ) (items : List Item) (last : Moment) → IsWhole program budget items last

-- The dispatches of a run, in their order: each takes the first of the events that wait in the queue, or a turn of the agenda.
-- The worlds are those of the run itself.
use Rattle.std.specs.Prelude.{ℕ, zero, suc, ℤ, Bool, true, false, List, [], ◌∷◌, ◌++◌, map, filter_map, int_le, ◌==◌, fold, Option, Some, None}
use Rattle.zk_base.specs.declared.time.Moment.{Moment}
use Rattle.zk_typed.specs.Dispatch.{dispatch}
use Rattle.zk_typed.specs.Predefined.{zeek_init, zeek_done}
use Rattle.zk_typed.specs.Program.{Program}
use Rattle.zk_typed.specs.Running.{Due, EntryDue, EventDue, Item, Progress, Goes, Floods, Turn, begun, dispatches_max, happens, initialised, next_turn, no_values, one_turn, take, turns}
use Rattle.zk_typed.specs.State.{World, ending_at, first_world, queued_behind, with_queue, with_time}
use Rattle.zk_typed.specs.World.{Queued, queued}

-- what is dispatched
pub data What : Type 0 where
  Waited : (event : Queued) → What
  Came : (turn : Turn) → What

-- a dispatch, with its network time
pub record Dispatched : Type 0 where
  pub time : Moment
  pub what : What

-- The queue, and turns ----------------------------------------------------------------------------------------------

abbrev pub from_first : Program → ℕ → (World → List Dispatched) → World → List Queued → List Dispatched
from_first program budget next world [] = []
from_first program budget next world (first ∷ others) =
    record { time = world.time; what = Waited first } ∷ next (dispatch program budget (with_queue others world) first)

-- those of a queue that is drained
abbrev pub in_queue : Program → ℕ → ℕ → World → List Dispatched
in_queue program budget zero world = []
in_queue program budget (suc left) world = from_first program budget (in_queue program budget left) world world.queue

-- those of a turn
abbrev pub in_turn : Program → ℕ → (Moment → Moment) → World → Turn → ℕ → List Dispatched
in_turn program budget at world one zero = []
in_turn program budget at world one (suc left) =
    record { time = at one.at; what = Came one } ∷ in_queue program budget left (happens program budget (with_time (at one.at) world) one.what)

-- those from where a run goes on
abbrev pub from_here : (World → ℕ → List Dispatched) → Progress → List Dispatched
from_here next (Goes world left) = next world left
from_here next (Floods world) = []

abbrev pub if_due : (Turn → Bool) → (Turn → List Dispatched) → Option Turn → List Dispatched
if_due is_due goes None = []
if_due is_due goes (Some one) = elim (is_due one) [ true ↦ goes one | false ↦ [] ]

-- those of turns that are due, until none is
abbrev pub in_turns_from : ℕ → Program → ℕ → (Moment → Moment) → (Turn → Bool) → World → ℕ → List Dispatched
in_turns_from zero program budget at is_due world more = []
in_turns_from (suc most) program budget at is_due world more = if_due is_due (λ one.
    in_turn program budget at world one more ++ from_here (in_turns_from most program budget at is_due) (one_turn program budget at world one more)) (next_turn program world)

abbrev pub in_turns : Program → ℕ → (Moment → Moment) → (Turn → Bool) → World → ℕ → List Dispatched
in_turns program budget at is_due world left = in_turns_from (suc left) program budget at is_due world left

-- The run ------------------------------------------------------------------------------------------------------------

abbrev pub in_beginning : Program → ℕ → List Dispatched
in_beginning program budget =
    in_queue program budget dispatches_max
    (queued_behind (queued zeek_init [] ∷ []) (initialised program budget 0 (first_world (no_values program)) program.globals))

abbrev pub is_by : Moment → Turn → Bool
is_by moment one = int_le one.at.0 moment.0

abbrev pub in_item : Program → ℕ → Item → World → ℕ → List Dispatched
in_item program budget item world left =
    in_turns program budget (λ at. at) (is_by item.moment) world dispatches_max
    ++ from_here (λ world left. in_queue program budget left (item.raises (with_time item.moment world))) (turns program budget (λ at. at) (is_by item.moment) world dispatches_max)

abbrev pub in_items : Program → ℕ → Progress → List Item → List Dispatched
in_items program budget before [] = []
in_items program budget before (item ∷ items) = from_here (in_item program budget item) before ++ in_items program budget (take program budget before item) items

abbrev pub in_end : Program → ℕ → Moment → World → ℕ → List Dispatched
in_end program budget last world left =
    in_turns program budget (λ at. last) (λ one. true) (ending_at last world) left
    ++ from_here (λ world left. in_queue program budget left (queued_behind (queued zeek_done [] ∷ []) world)) (turns program budget (λ at. last) (λ one. true) (ending_at last world) left)

-- those of the whole run
abbrev pub dispatches : Program → ℕ → List Item → Moment → List Dispatched
dispatches program budget items last =
    in_beginning program budget ++ in_items program budget (begun program budget) items
    ++ from_here (in_end program budget last) (fold (take program budget) (begun program budget) items)

-- What there is to see -------------------------------------------------------------------------------------------------

-- whether it dispatches the event that was scheduled under this number
abbrev pub is_scheduled : ℕ → Dispatched → Bool
is_scheduled order one = of_what one.what
  where
    of_due : Due → Bool
    of_due (EntryDue table number) = false
    of_due (EventDue event) = event.order == order

    of_what : What → Bool
    of_what (Waited event) = false
    of_what (Came turn) = of_due turn.what

-- when the turn is due that is dispatched
abbrev pub due_in : What → Option ℤ
due_in (Waited event) = None
due_in (Came turn) = Some turn.at.0

-- network times, and dues
abbrev pub times : List Dispatched → List ℤ
times list = map (λ one. one.time.0) list

abbrev pub dues : List Dispatched → List ℤ
dues list = filter_map (λ one. due_in one.what) list

-- The run of a program over the items of a capture (Zeek manual, Events; Attributes, &create_expire and its kin; schedule).
-- What is due has its own moment as network time, which is this project's own rule.
use Rattle.std.specs.Prelude.{ℕ, zero, suc, ◌+◌, ◌==◌, nat_lt, pos, int_lt, int_le, Bool, true, false, not, ◌&&◌, ◌||◌, List, [], ◌∷◌, ◌++◌, map, filter, fold, replicate, length, Option, Some, None, is_some, slice_get, slice_set, if◌then◌else◌}
use Rattle.zk_base.specs.declared.time.Moment.{Moment}
use Rattle.zk_base.specs.declared.time.Span.{Span}
use Rattle.zk_tree.specs.Store.{Object}
use Rattle.zk_tree.specs.Store as object
use Rattle.zk_tree.specs.Table.{Table, Entry, entry_numbered, first_due, renew, expire}
use Rattle.zk_tree.specs.Value as plain
use Rattle.zk_tree.specs.Value.{Value}
use Rattle.zk_typed.specs.Dispatch.{world_after, initial_body, expiry_body, dispatch}
use Rattle.zk_typed.specs.Does.{Ran, Gives, Faults, Spent, named, object_in}
use Rattle.zk_typed.specs.Predefined.{zeek_init, zeek_done}
use Rattle.zk_typed.specs.Program.{Program, Global}
use Rattle.zk_typed.specs.State.{World, first_world, with_time, with_store, with_queue, queued_behind, ending_at}
use Rattle.zk_typed.specs.World.{Queued, Scheduled, queued}

-- The agenda -------------------------------------------------------------------------------------------------------

-- what is due
pub data Due : Type 0 where
  -- an entry of a global's table, by its order number
  EntryDue : (global : ℕ) (order : ℕ) → Due
  -- an event that was scheduled
  EventDue : (one : Scheduled) → Due

pub record Turn : Type 0 where
  pub at : Moment
  pub what : Due

-- Entries come before events, those of a table that is declared earlier first, and then those of a lower order number.
abbrev pub due_before : Due → Due → Bool
due_before (EntryDue table order) (EntryDue other more) = nat_lt table other || (table == other && nat_lt order more)
due_before (EntryDue table order) (EventDue one) = true
due_before (EventDue one) (EntryDue table order) = false
due_before (EventDue one) (EventDue other) = nat_lt one.order other.order

abbrev pub is_before : Turn → Turn → Bool
is_before a b = int_lt a.at.0 b.at.0 || (int_le a.at.0 b.at.0 && due_before a.what b.what)

abbrev pub earlier : Turn → Option Turn → Turn
earlier one None = one
earlier one (Some other) = if is_before other one then other else one

-- the first of turns
abbrev pub first_turn : List Turn → Option Turn
first_turn [] = None
first_turn (one ∷ others) = Some (earlier one (first_turn others))

-- the table of a global whose entries expire
abbrev pub table_of : Option Object → Option Table
table_of (Some (object.Table table)) = Some table
table_of other = None

abbrev pub table_behind : World → Option Value → Option Table
table_behind world None = None
table_behind world (Some given) = table_of (object_in given world)

abbrev pub due_entries : ℕ → Option Table → List Turn
due_entries number None = []
due_entries number (Some table) = of_first (first_due table.entries)
  where
    of_first : Option (Moment × ℕ) → List Turn
    of_first None = []
    of_first (Some first) = record { at = first.0; what = EntryDue number first.1 } ∷ []

-- the first due entry of each global whose entries expire
abbrev pub entry_turns : World → ℕ → List Global → List Turn
entry_turns world number [] = []
entry_turns world number (one ∷ others) =
    (if is_some one.expiry then due_entries number (table_behind world (named world.globals number)) else [])
    ++ entry_turns world (number + 1) others

abbrev pub event_turns : World → List Turn
event_turns world = map (λ one. record { at = one.due; what = EventDue one }) world.scheduled

-- The turn that comes next. Once the end has begun no entry expires.
abbrev pub next_turn : Program → World → Option Turn
next_turn program world =
    first_turn ((if world.is_ending then [] else entry_turns world 0 program.globals) ++ event_turns world)

-- Turns ------------------------------------------------------------------------------------------------------------

-- the table that a value names, changed
abbrev pub with_table : (Table → Table) → Value → World → World
with_table changed (plain.Object number) world = in_place (slice_get world.store number.0)
  where
    in_place : Option Object → World
    in_place (Some (object.Table table)) = with_store (slice_set world.store number.0 (object.Table (changed table))) world
    in_place other = world
with_table changed other world = world

-- An entry whose function gave an interval above 0 stays that much longer; else, and after a function that did not run to its
-- end, it goes. An entry that was made anew under its key has another order number.
abbrev pub wait_of : Ran Span → Span
wait_of (Gives span state) = span
wait_of (Faults kind place world units) = record { 0 = pos 0 }
wait_of (Spent place world) = record { 0 = pos 0 }

abbrev pub expired : Program → ℕ → Global → Value → ℕ → World → Entry → World
expired program budget one given order world entry =
    let ran = expiry_body program one (given ∷ entry.key) world budget in
    with_table (λ table. expire order (wait_of ran) (renew world.time entry.key table)) given (world_after program ran)

abbrev pub expire_in : Program → ℕ → ℕ → World → Global → Option Value → World
expire_in program budget order world one None = world
expire_in program budget order world one (Some given) = of_table (table_behind world (Some given))
  where
    of_entry : Option Entry → World
    of_entry None = world
    of_entry (Some entry) = expired program budget one given order world entry

    of_table : Option Table → World
    of_table None = world
    of_table (Some table) = of_entry (entry_numbered order table.entries)

abbrev pub expire_of : Program → ℕ → ℕ → ℕ → World → Option Global → World
expire_of program budget number order world None = world
expire_of program budget number order world (Some one) = expire_in program budget order world one (named world.globals number)

abbrev pub not_waiting : Scheduled → World → World
not_waiting one world = record world { scheduled = filter (λ other. not (other.order == one.order)) world.scheduled }

-- what is due happens
abbrev pub happens : Program → ℕ → World → Due → World
happens program budget world (EntryDue number order) = expire_of program budget number order world (slice_get program.globals number)
happens program budget world (EventDue one) = dispatch program budget (not_waiting one world) one.what

-- The queue --------------------------------------------------------------------------------------------------------

-- how far a run has come
pub data Progress : Type 0 where
  -- to this world, and so many dispatches may still come until the next item, those of the end among them
  Goes : (world : World) (left : ℕ) → Progress
  -- to its end in this world, for a flood of events
  Floods : (world : World) → Progress

abbrev pub world_in : Progress → World
world_in (Goes world left) = world
world_in (Floods world) = world

abbrev pub goes_on : (World → ℕ → Progress) → Progress → Progress
goes_on next (Goes world left) = next world left
goes_on next (Floods world) = Floods world

abbrev pub none_left : World → List Queued → Progress
none_left world [] = Goes world 0
none_left world (first ∷ others) = Floods world

abbrev pub one_more : Program → ℕ → ℕ → (World → Progress) → World → List Queued → Progress
one_more program budget left next world [] = Goes world (suc left)
one_more program budget left next world (first ∷ others) = next (dispatch program budget (with_queue others world) first)

-- the events that wait are dispatched until none waits, and at most so many
abbrev pub drained : Program → ℕ → ℕ → World → Progress
drained program budget zero world = none_left world world.queue
drained program budget (suc left) world = one_more program budget left (drained program budget left) world world.queue

-- a turn where so many dispatches may come: it is one, and then the queue is drained
abbrev pub turn : Program → ℕ → ℕ → World → Due → Progress
turn program budget zero world what = Floods world
turn program budget (suc left) world what = drained program budget left (happens program budget world what)

-- Turns that are due, until none is; each is a dispatch, so that no more come than may. `at` gives network time at a turn.
abbrev pub one_turn : Program → ℕ → (Moment → Moment) → World → Turn → ℕ → Progress
one_turn program budget at world one zero = Floods world
one_turn program budget at world one more = turn program budget more (with_time (at one.at) world) one.what

abbrev pub turn_if : (Turn → Bool) → World → ℕ → (Turn → Progress) → Option Turn → Progress
turn_if is_due world more goes None = Goes world more
turn_if is_due world more goes (Some one) = elim (is_due one) [ true ↦ goes one | false ↦ Goes world more ]

abbrev pub turns_from : ℕ → Program → ℕ → (Moment → Moment) → (Turn → Bool) → World → ℕ → Progress
turns_from zero program budget at is_due world more = Goes world more
turns_from (suc most) program budget at is_due world more =
    turn_if is_due world more (λ one. goes_on (turns_from most program budget at is_due) (one_turn program budget at world one more)) (next_turn program world)

abbrev pub turns : Program → ℕ → (Moment → Moment) → (Turn → Bool) → World → ℕ → Progress
turns program budget at is_due world left = turns_from (suc left) program budget at is_due world left

-- The run ----------------------------------------------------------------------------------------------------------

-- so many dispatches may come from the beginning on, and from each item on
unfoldable pub dispatches_max : ℕ
dispatches_max = 1_000_000

-- an item of the capture at its network time, and what it does before the queue is drained: it renews the facts of its
-- connection and queues its events
pub record Item : Type 0 where
  pub moment : Moment
  pub raises : World → World

-- the initial values in load order, each from the world that the last one left
abbrev pub initialised : Program → ℕ → ℕ → World → List Global → World
initialised program budget number world [] = world
initialised program budget number world (one ∷ others) =
    initialised program budget (number + 1) (world_after program (initial_body program number one world budget)) others

abbrev pub no_values : Program → List (Option Value)
no_values program = replicate (length program.globals) None

-- initial values at time 0, and then `zeek_init` behind what they queued
abbrev pub begun : Program → ℕ → Progress
begun program budget =
    drained program budget dispatches_max
    (queued_behind (queued zeek_init [] ∷ []) (initialised program budget 0 (first_world (no_values program)) program.globals))

abbrev pub with_item : Program → ℕ → Item → World → ℕ → Progress
with_item program budget item world left = drained program budget left (item.raises (with_time item.moment world))

-- the turns that are due by an item, and then the item; the dispatches are counted anew
abbrev pub take : Program → ℕ → Progress → Item → Progress
take program budget before item =
    goes_on (λ world left. goes_on (with_item program budget item) (turns program budget (λ at. at) (λ one. int_le one.at.0 item.moment.0) world dispatches_max)) before

-- what still waits is dispatched at the last network time, then `zeek_done`
abbrev pub finish : Program → ℕ → Moment → World → ℕ → Progress
finish program budget last world left =
    goes_on (λ world left. drained program budget left (queued_behind (queued zeek_done [] ∷ []) world))
    (turns program budget (λ at. last) (λ one. true) (ending_at last world) left)

abbrev pub run : Program → ℕ → List Item → Moment → Progress
run program budget items last = goes_on (finish program budget last) (fold (take program budget) (begun program budget) items)

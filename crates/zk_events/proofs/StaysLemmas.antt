-- What was printed and written stays, over a body, a dispatch, a turn, an item and a run.
use Rattle.std.proofs.Common.{◌≡◌, ℕ, zero, suc, ◌+◌, Bool, true, false, List, [], ◌∷◌, ◌++◌, Option, Some, None, fold, slice_get, refl, sym, ap, ◌∙◌, append_assoc, append-nil}
use Rattle.zk_base.specs.declared.time.Moment.{Moment}
use Rattle.zk_lower.specs.Told.{ExpiriesKeep, HandlersKeep, InitialsKeep, Stays}
use Rattle.zk_tree.specs.Store.{Object}
use Rattle.zk_tree.specs.Store as object
use Rattle.zk_tree.specs.Table.{Entry, Table, entry_numbered, expire, renew}
use Rattle.zk_tree.specs.Value as plain
use Rattle.zk_tree.specs.Value.{Value}
use Rattle.zk_typed.specs.declared.ends.BodyEnd.{BodyEnd}
use Rattle.zk_typed.specs.declared.ends.BodyEnd.TheVariants as ended
use Rattle.zk_typed.specs.Dispatch.{dispatch, expiry_body, handler_body, handlers_of, initial_body, left, told, world_after}
use Rattle.zk_typed.specs.Does.{Ran, named}
use Rattle.zk_typed.specs.Log.{Row}
use Rattle.zk_typed.specs.Program.{Program, Global, Handler}
use Rattle.zk_typed.specs.Running.{Due, EntryDue, EventDue, Goes, Floods, Progress, Turn, drained, expire_in, expire_of, expired, goes_on, happens, initialised, next_turn, none_left, not_waiting, one_more, one_turn, table_behind, turn, turn_if, turns_from, wait_of, with_table, world_in}
use Rattle.zk_typed.specs.State.{World, with_queue, with_row, with_time}
use Rattle.zk_typed.specs.World.{Queued}

-- One world behind another -----------------------------------------------------------------------------------------

pub alike : (before after : World) → after.lines ≡ before.lines → after.rows ≡ before.rows → Stays before after
alike before after lines rows = record {
  more = record { lines = []; rows = [] };
  lines = lines ∙ sym (append-nil before.lines);
  rows = rows ∙ sym (append-nil before.rows);
}

pub behind_both : (a b c : World) → Stays a b → Stays b c → Stays a c
behind_both a b c first second = record {
  more = record { lines = first.more.lines ++ second.more.lines; rows = first.more.rows ++ second.more.rows };
  lines = second.lines ∙ (ap (λ l. l ++ second.more.lines) first.lines ∙ append_assoc a.lines first.more.lines second.more.lines);
  rows = second.rows ∙ (ap (λ r. r ++ second.more.rows) first.rows ∙ append_assoc a.rows first.more.rows second.more.rows);
}

-- a change that tells nothing, and then another one
pub then_told : (a b c : World) → b.lines ≡ a.lines → b.rows ≡ a.rows → Stays b c → Stays a c
then_told a b c lines rows second = behind_both a b c (alike a b lines rows) second

-- Bodies and dispatches --------------------------------------------------------------------------------------------

row-keeps : (row : Row) (world : World) → Stays world (with_row row world)
row-keeps row world = record {
  more = record { lines = []; rows = row ∷ [] };
  lines = sym (append-nil world.lines);
  rows = refl;
}

told-keeps : (program : Program) (end : BodyEnd) (world : World) → Stays world (told program end world)
told-keeps program ended.Done world = alike world world refl refl
told-keeps program (ended.Fault kind place) world = row-keeps _ world
told-keeps program (ended.Spent place) world = row-keeps _ world

after-keeps : {A : Type 0} (program : Program) (ran : Ran A) (world : World) → Stays world (left ran).world → Stays world (world_after program ran)
after-keeps program ran world keeps = behind_both world (left ran).world (world_after program ran) keeps (told-keeps program (left ran).end (left ran).world)

bodies-keep : HandlersKeep → (program : Program) (budget : ℕ) (args : List Value) (handlers : List Handler) (world : World)
    → Stays world (fold (λ before one. world_after program (handler_body program one args before budget)) world handlers)
bodies-keep keep program budget args [] world = alike world world refl refl
bodies-keep keep program budget args (one ∷ others) world =
    let ran = handler_body program one args world budget in
    behind_both world (world_after program ran) _ (after-keeps program ran world (keep program one args world budget)) (bodies-keep keep program budget args others (world_after program ran))

pub dispatch-keeps : HandlersKeep → (program : Program) (budget : ℕ) (world : World) (what : Queued) → Stays world (dispatch program budget world what)
dispatch-keeps keep program budget world what = bodies-keep keep program budget what.args (handlers_of program what.event) world

-- the next event, where what comes behind it keeps what was told
queue-keeps : HandlersKeep → (program : Program) (budget left : ℕ) (next : World → Progress) → ((world : World) → Stays world (world_in (next world)))
    → (world : World) (queue : List Queued) → Stays world (world_in (one_more program budget left next world queue))
queue-keeps keep program budget left next keeps world [] = alike world world refl refl
queue-keeps keep program budget left next keeps world (first ∷ others) =
    let after = dispatch program budget (with_queue others world) first in
    then_told world (with_queue others world) (world_in (next after)) refl refl
    (behind_both (with_queue others world) after (world_in (next after)) (dispatch-keeps keep program budget (with_queue others world) first) (keeps after))

none-keeps : (world : World) (queue : List Queued) → Stays world (world_in (none_left world queue))
none-keeps world [] = alike world world refl refl
none-keeps world (first ∷ others) = alike world world refl refl

pub drained-keeps : HandlersKeep → (program : Program) (budget left : ℕ) (world : World) → Stays world (world_in (drained program budget left world))
drained-keeps keep program budget zero world = none-keeps world world.queue
drained-keeps keep program budget (suc left) world =
    queue-keeps keep program budget left (drained program budget left) (λ after. drained-keeps keep program budget left after) world world.queue

pub initialised-keeps : InitialsKeep → (program : Program) (budget number : ℕ) (world : World) (globals : List Global)
    → Stays world (initialised program budget number world globals)
initialised-keeps keep program budget number world [] = alike world world refl refl
initialised-keeps keep program budget number world (one ∷ others) =
    let ran = initial_body program number one world budget in
    let after = world_after program ran in
    behind_both world after (initialised program budget (number + 1) after others) (after-keeps program ran world (keep program number one world budget))
    (initialised-keeps keep program budget (number + 1) after others)

-- Turns ------------------------------------------------------------------------------------------------------------

table-keeps : (changed : Table → Table) (given : Value) (world : World) → Stays world (with_table changed given world)
table-keeps changed (plain.Object number) world = by_object (slice_get world.store number.0) refl
  where
    by_object : (one : Option Object) → slice_get world.store number.0 ≡ one → Stays world (with_table changed (plain.Object number) world)
    by_object None is = rw is (alike world world refl refl)
    by_object (Some (object.Table table)) is = rw is (alike world _ refl refl)
    by_object (Some (object.Vector items)) is = rw is (alike world world refl refl)
    by_object (Some (object.Record of fields)) is = rw is (alike world world refl refl)
table-keeps changed (plain.Bool truth) world = alike world world refl refl
table-keeps changed (plain.Count n) world = alike world world refl refl
table-keeps changed (plain.Int n) world = alike world world refl refl
table-keeps changed (plain.String bytes) world = alike world world refl refl
table-keeps changed (plain.Time moment) world = alike world world refl refl
table-keeps changed (plain.Interval span) world = alike world world refl refl
table-keeps changed (plain.Addr address) world = alike world world refl refl
table-keeps changed (plain.Port number proto) world = alike world world refl refl
table-keeps changed (plain.Subnet prefix width) world = alike world world refl refl
table-keeps changed (plain.Enum word) world = alike world world refl refl

expired-keeps : ExpiriesKeep → (program : Program) (budget : ℕ) (one : Global) (given : Value) (order : ℕ) (world : World) (entry : Entry)
    → Stays world (expired program budget one given order world entry)
expired-keeps keep program budget one given order world entry =
    let ran = expiry_body program one (given ∷ entry.key) world budget in
    let after = world_after program ran in
    behind_both world after (expired program budget one given order world entry) (after-keeps program ran world (keep program one (given ∷ entry.key) world budget))
    (table-keeps (λ table. expire order (wait_of ran) (renew world.time entry.key table)) given after)

expire_in-keeps : ExpiriesKeep → (program : Program) (budget order : ℕ) (world : World) (one : Global) (given : Option Value)
    → Stays world (expire_in program budget order world one given)
expire_in-keeps keep program budget order world one None = alike world world refl refl
expire_in-keeps keep program budget order world one (Some given) = by_table (table_behind world (Some given)) refl
  where
    by_entry : (table : Table) → table_behind world (Some given) ≡ Some table → (entry : Option Entry) → entry_numbered order table.entries ≡ entry
        → Stays world (expire_in program budget order world one (Some given))
    by_entry table there None is = rw (there, is) (alike world world refl refl)
    by_entry table there (Some entry) is = rw (there, is) (expired-keeps keep program budget one given order world entry)

    by_table : (table : Option Table) → table_behind world (Some given) ≡ table → Stays world (expire_in program budget order world one (Some given))
    by_table None is = rw is (alike world world refl refl)
    by_table (Some table) is = by_entry table is (entry_numbered order table.entries) refl

expire_of-keeps : ExpiriesKeep → (program : Program) (budget number order : ℕ) (world : World) (one : Option Global)
    → Stays world (expire_of program budget number order world one)
expire_of-keeps keep program budget number order world None = alike world world refl refl
expire_of-keeps keep program budget number order world (Some one) = expire_in-keeps keep program budget order world one (named world.globals number)

happens-keeps : HandlersKeep → ExpiriesKeep → (program : Program) (budget : ℕ) (world : World) (what : Due) → Stays world (happens program budget world what)
happens-keeps handlers expiries program budget world (EntryDue number order) = expire_of-keeps expiries program budget number order world (slice_get program.globals number)
happens-keeps handlers expiries program budget world (EventDue one) =
    then_told world (not_waiting one world) (dispatch program budget (not_waiting one world) one.what) refl refl (dispatch-keeps handlers program budget (not_waiting one world) one.what)

pub on-keeps : (start : World) (next : World → ℕ → Progress) (progress : Progress) → Stays start (world_in progress)
    → ((world : World) (left : ℕ) → Stays world (world_in (next world left))) → Stays start (world_in (goes_on next progress))
on-keeps start next (Goes world left) so_far keeps = behind_both start world _ so_far (keeps world left)
on-keeps start next (Floods world) so_far keeps = so_far

turn-keeps : HandlersKeep → ExpiriesKeep → (program : Program) (budget left : ℕ) (world : World) (what : Due) → Stays world (world_in (turn program budget left world what))
turn-keeps handlers expiries program budget zero world what = alike world world refl refl
turn-keeps handlers expiries program budget (suc left) world what =
    let after = happens program budget world what in
    behind_both world after (world_in (drained program budget left after)) (happens-keeps handlers expiries program budget world what) (drained-keeps handlers program budget left after)

one_turn-keeps : HandlersKeep → ExpiriesKeep → (program : Program) (budget : ℕ) (at : Moment → Moment) (world : World) (one : Turn) (more : ℕ)
    → Stays world (world_in (one_turn program budget at world one more))
one_turn-keeps handlers expiries program budget at world one zero = alike world world refl refl
one_turn-keeps handlers expiries program budget at world one (suc more) =
    then_told world (with_time (at one.at) world) (world_in (turn program budget (suc more) (with_time (at one.at) world) one.what)) refl refl (turn-keeps handlers expiries program budget (suc more) (with_time (at one.at) world) one.what)

-- the next turn, where what comes behind it keeps what was told
due-keeps : (world : World) (more : ℕ) (goes : Progress) → Stays world (world_in goes) → (due : Bool)
    → Stays world (world_in (elim due [ true ↦ goes | false ↦ Goes world more ]))
due-keeps world more goes keeps true = keeps
due-keeps world more goes keeps false = alike world world refl refl

next-keeps : (is_due : Turn → Bool) (world : World) (more : ℕ) (goes : Turn → Progress) → ((one : Turn) → Stays world (world_in (goes one)))
    → (next : Option Turn) → Stays world (world_in (turn_if is_due world more goes next))
next-keeps is_due world more goes keeps None = alike world world refl refl
next-keeps is_due world more goes keeps (Some one) = due-keeps world more (goes one) (keeps one) (is_due one)

pub turns-keep : HandlersKeep → ExpiriesKeep → (most : ℕ) (program : Program) (budget : ℕ) (at : Moment → Moment) (is_due : Turn → Bool) (world : World) (more : ℕ)
    → Stays world (world_in (turns_from most program budget at is_due world more))
turns-keep handlers expiries zero program budget at is_due world more = alike world world refl refl
turns-keep handlers expiries (suc most) program budget at is_due world more =
    next-keeps is_due world more (λ one. goes_on (turns_from most program budget at is_due) (one_turn program budget at world one more))
    (λ one. on-keeps world (turns_from most program budget at is_due) (one_turn program budget at world one more) (one_turn-keeps handlers expiries program budget at world one more)
    (λ after left. turns-keep handlers expiries most program budget at is_due after left))
    (next_turn program world)

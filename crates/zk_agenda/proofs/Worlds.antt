-- Dispatches, initial values and expiring entries go onward.
use Rattle.std.proofs.Common.{◌≡◌, ℕ, ◌+◌, List, [], ◌∷◌, Option, Some, None, fold, slice_get, refl, sym, ap, subst, ◌∙◌}
use Rattle.zk_base.specs.declared.numbers.ObjectNo.{ObjectNo}
use Rattle.zk_base.specs.declared.time.Moment.{Moment}
use Rattle.zk_base.specs.declared.time.Span.{Span}
use Rattle.zk_tree.specs.Store.{Object}
use Rattle.zk_tree.specs.Store as object
use Rattle.zk_tree.specs.Table.{Entry, Table, entry_numbered, expire, renew}
use Rattle.zk_tree.specs.Value as plain
use Rattle.zk_tree.specs.Value.{Value}
use Rattle.zk_typed.specs.declared.ends.BodyEnd.{BodyEnd}
use Rattle.zk_typed.specs.declared.ends.BodyEnd.TheVariants as ended
use Rattle.zk_typed.specs.Dispatch.{dispatch, expiry_body, handler_body, handlers_of, initial_body, left, told, world_after}
use Rattle.zk_typed.specs.Does.{Ran, named}
use Rattle.zk_typed.specs.Program.{Program, Global, Handler}
use Rattle.zk_typed.specs.Running.{expire_in, expire_of, expired, initialised, table_behind, wait_of, with_table}
use Rattle.zk_typed.specs.State.{World, with_queue}
use Rattle.zk_typed.specs.World.{Queued}
use Rattle.zk_agenda.specs.Laws.{SameTables, TablesStay}
use Rattle.zk_agenda.specs.Onward.{Onward, Raises}
use Rattle.zk_agenda.proofs.Bodies.{expiry-moves, handler-moves, initial-moves}
use Rattle.zk_agenda.proofs.Dues.{Becomes, Moves, ObjectPast, ObjectSound, alike, expired-from, moves_both, raised-moves, set-moves}
use Rattle.zk_agenda.proofs.Numbers.{Sound, expire-keeps, numbered-past, renew-keeps}
use Rattle.zk_agenda.proofs.OnwardLemmas.{onward_alike, onward_both}

-- Steps ------------------------------------------------------------------------------------------------------------------------

pub stays : (world : World) → Moves world world
stays world = alike world world refl refl refl refl refl

pub still : (world : World) → Onward world world
still world = (stays world).onward

told-moves : (program : Program) (end : BodyEnd) (world : World) → Moves world (told program end world)
told-moves program ended.Done world = stays world
told-moves program (ended.Fault kind place) world = alike _ _ refl refl refl refl refl
told-moves program (ended.Spent place) world = alike _ _ refl refl refl refl refl

after-moves : {A : Type 0} (program : Program) (ran : Ran A) (world : World) → Moves world (left ran).world → Moves world (world_after program ran)
after-moves program ran world goes = moves_both world (left ran).world (world_after program ran) goes (told-moves program (left ran).end (left ran).world)

bodies-moves : (program : Program) (budget : ℕ) (args : List Value) (handlers : List Handler) (world : World)
    → Moves world (fold (λ before one. world_after program (handler_body program one args before budget)) world handlers)
bodies-moves program budget args [] world = stays world
bodies-moves program budget args (one ∷ others) world =
    moves_both world (world_after program (handler_body program one args world budget)) _
    (after-moves program (handler_body program one args world budget) world (handler-moves program one args world budget))
    (bodies-moves program budget args others (world_after program (handler_body program one args world budget)))

pub dispatch-moves : (program : Program) (budget : ℕ) (world : World) (what : Queued) → Moves world (dispatch program budget world what)
dispatch-moves program budget world what = bodies-moves program budget what.args (handlers_of program what.event) world

pub dispatch-onward : (program : Program) (budget : ℕ) (world : World) (what : Queued) → Onward world (dispatch program budget world what)
dispatch-onward program budget world what = (dispatch-moves program budget world what).onward

pub initialised-moves : (program : Program) (budget number : ℕ) (world : World) (globals : List Global) → Moves world (initialised program budget number world globals)
initialised-moves program budget number world [] = stays world
initialised-moves program budget number world (one ∷ others) =
    moves_both world (world_after program (initial_body program number one world budget)) _
    (after-moves program (initial_body program number one world budget) world (initial-moves program number one world budget))
    (initialised-moves program budget (number + 1) (world_after program (initial_body program number one world budget)) others)

-- The tables of globals ----------------------------------------------------------------------------------------------------------

pub same-globals : (number : ℕ) (globals : List Global) (before after : World) → after.globals ≡ before.globals → SameTables number globals before after
same-globals number [] before after same = tt
same-globals number (one ∷ others) before after same = (λ expires. ap (λ (values : List (Option Value)). named values number) same, same-globals (number + 1) others before after same)

same-both : (number : ℕ) (globals : List Global) (a b c : World) → SameTables number globals a b → SameTables number globals b c → SameTables number globals a c
same-both number [] a b c first second = tt
same-both number (one ∷ others) a b c first second = (λ expires. second.0 expires ∙ first.0 expires, same-both (number + 1) others a b c first.1 second.1)

-- what comes between two worlds of a run: steps, and the same tables where no dispatch gives them up
pub record Passes (program : Program) (before after : World) : Type 0 where
  pub moves : Moves before after
  pub tables : TablesStay program → SameTables 0 program.globals before after

pub pass-both : (program : Program) (a b c : World) → Passes program a b → Passes program b c → Passes program a c
pass-both program a b c first second = record {
  moves = moves_both a b c first.moves second.moves;
  tables = λ stay. same-both 0 program.globals a b c (first.tables stay) (second.tables stay);
}

pub pass-raised : (program : Program) (before after : World) → Raises before after → Passes program before after
pass-raised program before after raises = record { moves = raised-moves before after raises; tables = λ stay. same-globals 0 program.globals before after raises.globals }

pub pass-still : (program : Program) (world : World) → Passes program world world
pass-still program world = record { moves = stays world; tables = λ stay. same-globals 0 program.globals world world refl }

pub pass-queue : (program : Program) (world : World) (events : List Queued) → Passes program world (with_queue events world)
pass-queue program world events = record { moves = alike _ _ refl refl refl refl refl; tables = λ stay. same-globals 0 program.globals world (with_queue events world) refl }

pub pass-dispatch : (program : Program) (budget : ℕ) (world : World) (what : Queued) → Passes program world (dispatch program budget world what)
pass-dispatch program budget world what = record { moves = dispatch-moves program budget world what; tables = λ stay. stay.dispatches budget world what }

-- Entries ----------------------------------------------------------------------------------------------------------------

table-onward : (changed : Table → Table) (given : Value) (world : World) → Onward world (with_table changed given world)
table-onward changed (plain.Object number) world = by_object (slice_get world.store number.0) refl
  where
    by_object : (one : Option Object) → slice_get world.store number.0 ≡ one → Onward world (with_table changed (plain.Object number) world)
    by_object None is = rw is (still world)
    by_object (Some (object.Table table)) is = rw is (onward_alike world _ refl refl refl refl)
    by_object (Some (object.Vector items)) is = rw is (still world)
    by_object (Some (object.Record of fields)) is = rw is (still world)
table-onward changed (plain.Bool truth) world = still world
table-onward changed (plain.Count n) world = still world
table-onward changed (plain.Int n) world = still world
table-onward changed (plain.String bytes) world = still world
table-onward changed (plain.Time moment) world = still world
table-onward changed (plain.Interval span) world = still world
table-onward changed (plain.Addr address) world = still world
table-onward changed (plain.Port number proto) world = still world
table-onward changed (plain.Subnet prefix width) world = still world
table-onward changed (plain.Enum word) world = still world

expired-onward : (program : Program) (budget : ℕ) (one : Global) (given : Value) (order : ℕ) (world : World) (entry : Entry)
    → Onward world (expired program budget one given order world entry)
expired-onward program budget one given order world entry =
    let ran = expiry_body program one (given ∷ entry.key) world budget in
    let after = world_after program ran in
    onward_both world after (expired program budget one given order world entry) (after-moves program ran world (expiry-moves program one (given ∷ entry.key) world budget)).onward
    (table-onward (λ table. expire order (wait_of ran) (renew world.time entry.key table)) given after)

expire_in-onward : (program : Program) (budget order : ℕ) (world : World) (one : Global) (given : Option Value)
    → Onward world (expire_in program budget order world one given)
expire_in-onward program budget order world one None = still world
expire_in-onward program budget order world one (Some given) = by_table (table_behind world (Some given)) refl
  where
    by_entry : (table : Table) → table_behind world (Some given) ≡ Some table → (entry : Option Entry) → entry_numbered order table.entries ≡ entry
        → Onward world (expire_in program budget order world one (Some given))
    by_entry table there None is = rw (there, is) (still world)
    by_entry table there (Some entry) is = rw (there, is) (expired-onward program budget one given order world entry)

    by_table : (table : Option Table) → table_behind world (Some given) ≡ table → Onward world (expire_in program budget order world one (Some given))
    by_table None is = rw is (still world)
    by_table (Some table) is = by_entry table is (entry_numbered order table.entries) refl

pub expire_of-onward : (program : Program) (budget number order : ℕ) (world : World) (one : Option Global) → Onward world (expire_of program budget number order world one)
expire_of-onward program budget number order world None = still world
expire_of-onward program budget number order world (Some one) = expire_in-onward program budget order world one (named world.globals number)

-- Entries whose function is asked -------------------------------------------------------------------------------------------------

-- numbers and keys are apart in each table
abbrev pub AllSound : World → Type 0
AllSound world = (number : ℕ) → ObjectSound (slice_get world.store number)

-- the entry is renewed, and goes or waits
table-moves : (order : ℕ) (key : List Value) (wait : Span) (number : ObjectNo) (world : World) → ObjectSound (slice_get world.store number.0) → ObjectPast order key (slice_get world.store number.0)
    → Moves world (with_table (λ table. expire order wait (renew world.time key table)) (plain.Object number) world)
table-moves order key wait number world = by_object (slice_get world.store number.0) refl
  where
    by_object : (one : Option Object) → slice_get world.store number.0 ≡ one → ObjectSound one → ObjectPast order key one
        → Moves world (with_table (λ table. expire order wait (renew world.time key table)) (plain.Object number) world)
    by_object None is sound past = rw is (stays world)
    by_object (Some (object.Vector items)) is sound past = rw is (stays world)
    by_object (Some (object.Record of fields)) is sound past = rw is (stays world)
    by_object (Some (object.Table table)) is sound past = rw is (set-moves world number.0 (object.Table (expire order wait (renew world.time key table)))
        (subst (λ (there : Option Object). Becomes world.time there (Some (object.Table (expire order wait (renew world.time key table))))) (sym is) (record {
          dues = λ low le within from. expired-from world.time order key wait low le within table sound past from;
          sound = λ kept. (expire-keeps order wait).sound (renew world.time key table) ((renew-keeps world.time key).sound table kept);
          past = λ other of kept. (expire-keeps order wait).past other of (renew world.time key table) ((renew-keeps world.time key).past other of table kept);
        })))

expired-moves : (program : Program) (budget : ℕ) (one : Global) (number : ObjectNo) (order : ℕ) (world : World) (table : Table) (entry : Entry) → slice_get world.store number.0 ≡ Some (object.Table table)
    → entry_numbered order table.entries ≡ Some entry → AllSound world → Moves world (expired program budget one (plain.Object number) order world entry)
expired-moves program budget one number order world table entry there is sound =
    let ran = expiry_body program one (plain.Object number ∷ entry.key) world budget in
    let after = world_after program ran in
    let first : Moves world after = after-moves program ran world (expiry-moves program one (plain.Object number ∷ entry.key) world budget) in
    let of_table : Sound table = subst ObjectSound there (sound number.0) in
    let past : ObjectPast order entry.key (slice_get after.store number.0) =
    (first.becomes number.0).past order entry.key (subst (ObjectPast order entry.key) (sym there) (numbered-past order table entry is of_table)) in
    let wait : Span = wait_of ran in
    moves_both world after (expired program budget one (plain.Object number) order world entry) first
    (subst (λ (now : Moment). Moves after (with_table (λ table. expire order wait (renew now entry.key table)) (plain.Object number) after)) first.onward.time
    (table-moves order entry.key wait number after ((first.becomes number.0).sound (sound number.0)) past))

expire_in-moves : (program : Program) (budget order : ℕ) (world : World) (one : Global) (given : Option Value) → AllSound world → Moves world (expire_in program budget order world one given)
expire_in-moves program budget order world one None sound = stays world
expire_in-moves program budget order world one (Some (plain.Object number)) sound = by_object (slice_get world.store number.0) refl
  where
    by_entry : (table : Table) → slice_get world.store number.0 ≡ Some (object.Table table) → (entry : Option Entry) → entry_numbered order table.entries ≡ entry
        → Moves world (expire_in program budget order world one (Some (plain.Object number)))
    by_entry table there None is = rw (there, is) (stays world)
    by_entry table there (Some entry) is = rw (there, is) (expired-moves program budget one number order world table entry there is sound)

    by_object : (found : Option Object) → slice_get world.store number.0 ≡ found → Moves world (expire_in program budget order world one (Some (plain.Object number)))
    by_object None is = rw is (stays world)
    by_object (Some (object.Table table)) is = by_entry table is (entry_numbered order table.entries) refl
    by_object (Some (object.Vector items)) is = rw is (stays world)
    by_object (Some (object.Record of fields)) is = rw is (stays world)
expire_in-moves program budget order world one (Some other) sound = stays world

expire_of-moves : (program : Program) (budget number order : ℕ) (world : World) (one : Option Global) → AllSound world → Moves world (expire_of program budget number order world one)
expire_of-moves program budget number order world None sound = stays world
expire_of-moves program budget number order world (Some one) sound = expire_in-moves program budget order world one (named world.globals number) sound

pub pass-expired : (program : Program) (budget number order : ℕ) (world : World) → AllSound world → Passes program world (expire_of program budget number order world (slice_get program.globals number))
pass-expired program budget number order world sound = record {
  moves = expire_of-moves program budget number order world (slice_get program.globals number) sound;
  tables = λ stay. stay.expiries budget number order world;
}

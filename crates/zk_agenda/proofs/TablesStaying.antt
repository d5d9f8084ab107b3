-- In a program whose bodies spare the globals whose entries expire, these keep their tables.
use Rattle.std.proofs.Common.{◌≡◌, ℕ, suc, ◌+◌, ◌==◌, Bool, true, false, List, [], ◌∷◌, filter, fold, Option, Some, None, slice_get, refl, ap, subst, ◌∙◌, arith}
use Rattle.std.specs.List.{AllByRecursion}
use Rattle.zk_tree.specs.Store.{Object}
use Rattle.zk_tree.specs.Store as object
use Rattle.zk_tree.specs.Table.{Entry, Table, entry_numbered, expire, renew}
use Rattle.zk_tree.specs.Value as plain
use Rattle.zk_tree.specs.Value.{Value}
use Rattle.zk_typed.specs.declared.ends.BodyEnd.{BodyEnd}
use Rattle.zk_typed.specs.declared.ends.BodyEnd.TheVariants as ended
use Rattle.zk_typed.specs.Dispatch.{dispatch, expiry_body, handler_body, handlers_of, left, told, world_after}
use Rattle.zk_typed.specs.Does.{Ran, named}
use Rattle.zk_typed.specs.Program.{Program, Global, Handler}
use Rattle.zk_typed.specs.Running.{expire_in, expire_of, expired, table_behind, wait_of, with_table}
use Rattle.zk_typed.specs.State.{World}
use Rattle.zk_typed.specs.World.{Queued}
use Rattle.zk_agenda.specs.Laws.{SameTables, SparingTablesStay}
use Rattle.zk_agenda.specs.Sparing.{Numbers, SparesStmt, Spares, Expires}
use Rattle.zk_agenda.proofs.Bodies.{handler-leaves, expiry-leaves}
use Rattle.zk_agenda.proofs.Meaning.{all-in-order}
use Rattle.zk_agenda.proofs.Steps.{Leaves}

-- globals of some numbers have the same values
abbrev Same : Numbers → World → World → Type 0
Same fixed before after = (number : ℕ) → fixed number → named after.globals number ≡ named before.globals number

same-after : (fixed : Numbers) (a b c : World) → Same fixed a b → Same fixed b c → Same fixed a c
same-after fixed a b c first second number is = second number is ∙ first number is

told-same : (program : Program) (end : BodyEnd) (world : World) → (told program end world).globals ≡ world.globals
told-same program ended.Done world = refl
told-same program (ended.Fault kind place) world = refl
told-same program (ended.Spent place) world = refl

world-same : {A : Type 0} (fixed : Numbers) (program : Program) (ran : Ran A) (world : World) → Leaves fixed world (left ran).world → Same fixed world (world_after program ran)
world-same fixed program ran world leaves number is =
    ap (λ (values : List (Option Value)). named values number) (told-same program (left ran).end (left ran).world) ∙ leaves.named number is

all-filter : {A : Type 0} (P : A → Type 0) (test : A → Bool) (ones : List A) → AllByRecursion P ones → AllByRecursion P (filter test ones)
all-filter P test [] all = tt
all-filter P test (one ∷ ones) all = by (test one) refl (all-filter P test ones all.1)
  where
    by : (kept : Bool) → test one ≡ kept → AllByRecursion P (filter test ones) → AllByRecursion P (filter test (one ∷ ones))
    by true is rest = rw is (all.0, rest)
    by false is rest = rw is rest

module _ (fixed : Numbers) (program : Program) (spares : Spares fixed program) where
  bodies-same : (budget : ℕ) (args : List Value) (handlers : List Handler) → AllByRecursion (λ one. SparesStmt fixed one.body) handlers → (world : World)
      → Same fixed world (fold (λ before one. world_after program (handler_body program one args before budget)) world handlers)
  bodies-same budget args [] all world = λ number is. refl
  bodies-same budget args (one ∷ others) all world =
      let after = world_after program (handler_body program one args world budget) in
      same-after fixed world after (fold (λ before one. world_after program (handler_body program one args before budget)) after others) (world-same fixed program (handler_body program one args world budget) world (handler-leaves program spares one all.0 args world budget))
      (bodies-same budget args others all.1 after)

  dispatch-same : (budget : ℕ) (world : World) (what : Queued) → Same fixed world (dispatch program budget world what)
  dispatch-same budget world what = bodies-same budget what.args (handlers_of program what.event)
      (all-in-order (λ one. SparesStmt fixed one.body) (λ one. one.priority) (filter (λ one. one.event.0 == what.event.0) program.handlers)
      (all-filter (λ one. SparesStmt fixed one.body) (λ one. one.event.0 == what.event.0) program.handlers spares.handlers)) world

  -- Entries that expire --------------------------------------------------------------------------------------------------

  table-same : (changed : Table → Table) (given : Value) (world : World) → (with_table changed given world).globals ≡ world.globals
  table-same changed (plain.Object number) world = by (slice_get world.store number.0) refl
    where
      by : (one : Option Object) → slice_get world.store number.0 ≡ one → (with_table changed (plain.Object number) world).globals ≡ world.globals
      by None is = rw is refl
      by (Some (object.Table table)) is = rw is refl
      by (Some (object.Vector items)) is = rw is refl
      by (Some (object.Record of fields)) is = rw is refl
  table-same changed (plain.Bool truth) world = refl
  table-same changed (plain.Count n) world = refl
  table-same changed (plain.Int n) world = refl
  table-same changed (plain.String bytes) world = refl
  table-same changed (plain.Time moment) world = refl
  table-same changed (plain.Interval span) world = refl
  table-same changed (plain.Addr address) world = refl
  table-same changed (plain.Port number proto) world = refl
  table-same changed (plain.Subnet prefix width) world = refl
  table-same changed (plain.Enum word) world = refl

  expired-same : (budget : ℕ) (one : Global) (given : Value) (order : ℕ) (world : World) (entry : Entry) → Same fixed world (expired program budget one given order world entry)
  expired-same budget one given order world entry =
      let ran = expiry_body program one (given ∷ entry.key) world budget in
      let after = world_after program ran in
      same-after fixed world after (expired program budget one given order world entry)
      (world-same fixed program ran world (expiry-leaves program spares one (given ∷ entry.key) world budget))
      (λ number is. ap (λ (values : List (Option Value)). named values number) (table-same (λ table. expire order (wait_of ran) (renew world.time entry.key table)) given after))

  expire_in-same : (budget order : ℕ) (world : World) (one : Global) (given : Option Value) → Same fixed world (expire_in program budget order world one given)
  expire_in-same budget order world one None = λ number is. refl
  expire_in-same budget order world one (Some given) = by_table (table_behind world (Some given)) refl
    where
      by_entry : (table : Table) → table_behind world (Some given) ≡ Some table → (entry : Option Entry) → entry_numbered order table.entries ≡ entry
          → Same fixed world (expire_in program budget order world one (Some given))
      by_entry table there None is = rw (there, is) (λ number is. refl)
      by_entry table there (Some entry) is = rw (there, is) (expired-same budget one given order world entry)

      by_table : (table : Option Table) → table_behind world (Some given) ≡ table → Same fixed world (expire_in program budget order world one (Some given))
      by_table None is = rw is (λ number is. refl)
      by_table (Some table) is = by_entry table is (entry_numbered order table.entries) refl

  expire_of-same : (budget number order : ℕ) (world : World) (one : Option Global) → Same fixed world (expire_of program budget number order world one)
  expire_of-same budget number order world None = λ other is. refl
  expire_of-same budget number order world (Some one) = expire_in-same budget order world one (named world.globals number)

-- The tables of a program ----------------------------------------------------------------------------------------------------

tables-same : (program : Program) (before after : World) → Same (Expires program) before after → (number : ℕ) (globals : List Global)
    → ((n : ℕ) (one : Global) → slice_get globals n ≡ Some one → slice_get program.globals (number + n) ≡ Some one) → SameTables number globals before after
tables-same program before after same number [] there = tt
tables-same program before after same number (one ∷ others) there = (
  λ expires. same number (one, subst (λ (n : ℕ). slice_get program.globals n ≡ Some one) (let e : number + 0 ≡ number = omega arith in e) (there 0 one refl), expires),
  tables-same program before after same (number + 1) others
      (λ n other is. subst (λ (m : ℕ). slice_get program.globals m ≡ Some other) (let e : number + suc n ≡ number + 1 + n = omega arith in e) (there (suc n) other is)),
)

all-tables-same : (program : Program) (before after : World) → Same (Expires program) before after → SameTables 0 program.globals before after
all-tables-same program before after same = tables-same program before after same 0 program.globals
    (λ n one is. subst (λ (m : ℕ). slice_get program.globals m ≡ Some one) (let e : n ≡ 0 + n = omega arith in e) is)

pub tables-stay : SparingTablesStay
tables-stay program spares = record {
  dispatches = λ budget world event. all-tables-same program world _ (dispatch-same (Expires program) program spares budget world event);
  expiries = λ budget number order world. all-tables-same program world _ (expire_of-same (Expires program) program spares budget number order world (slice_get program.globals number));
}

-- When the tables among the objects of scripts are due.
use Rattle.std.specs.Prelude.{◌≡◌, ◌≢◌, ℕ, ◌≤◌, List, length, Bool, cond, false, not, true, Option, Some, None, slice_get, unwrap_or}
use Rattle.std.specs.List.{AllByRecursion}
use Rattle.std.specs.Option.{option_map, option_and_then}
use Rattle.zk_base.specs.declared.time.Moment.{Moment}
use Rattle.zk_tree.specs.Store as object
use Rattle.zk_tree.specs.Store.{Object, Store}
use Rattle.zk_tree.specs.Table.{Table, Entry, first_due, is_before}
use Rattle.zk_table.specs.Index.{IsTree}

-- the set or table that an object is
abbrev pub table_of : Object → Option Table
table_of (object.Table table) = Some table
table_of other = None

-- the set or table of a number
abbrev pub table_at : Store → ℕ → Option Table
table_at objects number = option_and_then table_of (slice_get objects number)

-- when the first entry of a table of this number is due, with the number
abbrev pub due_of : ℕ → Table → Option (Moment × ℕ)
due_of number table = option_map (λ turn. (turn.0, number)) (first_due table.entries)

abbrev pub due_at : Store → ℕ → Option (Moment × ℕ)
due_at objects number = option_and_then (due_of number) (table_at objects number)

-- What is watched ---------------------------------------------------------------------------------------------------

-- The objects of a heap, and of each number whether the table that has it is unwatched. Past the end of that list all are watched.
pub record Held : Type 0 where
  pub objects : Store
  pub unwatched : List Bool

abbrev pub is_watched : List Bool → ℕ → Bool
is_watched unwatched number = not (unwrap_or (slice_get unwatched number) false)

-- the first due of a table that is watched
abbrev pub watched_due : List Bool → Store → ℕ → Option (Moment × ℕ)
watched_due unwatched objects number = cond (is_watched unwatched number) (due_at objects number) None

-- what was watched is so still, but for the object of this number
abbrev pub StaysWatchedBut : ℕ → List Bool → List Bool → Type 0
StaysWatchedBut but old new = (number : ℕ) → number ≢ but → is_watched old number ≡ true → is_watched new number ≡ true

-- The table of a number is watched, and is the first that is due, at this moment: each other one that is watched and due is so later,
-- or at the same moment with a higher number.
pub record IsFirst (held : Held) (at : Moment) (number : ℕ) : Type 0 where
  pub watched : is_watched held.unwatched number ≡ true
  pub due : due_at held.objects number ≡ Some (at, number)
  pub least : (other : ℕ) (turn : Moment × ℕ) → is_watched held.unwatched other ≡ true → due_at held.objects other ≡ Some turn → is_before turn (at, number) ≡ false

-- no table that is watched is due
abbrev pub NoneIsFirst : Held → Type 0
NoneIsFirst held = (number : ℕ) → is_watched held.unwatched number ≡ true → due_at held.objects number ≡ None

-- The index of dues, by the numbers of objects ---------------------------------------------------------------------

abbrev pub NoneIsDue : List Entry → Type 0
NoneIsDue = AllByRecursion (λ entry. entry.due ≡ None)

-- a table whose entries don't expire
pub record NeverDue (table : Table) : Type 0 where
  pub expiry : table.expiry ≡ None
  pub entries : NoneIsDue table.entries

-- the index is that of the tables that are watched among these objects, and beyond it stand only tables whose entries don't expire
pub record IsIndexed (objects : Store) (unwatched : List Bool) (firsts : List (Option (Moment × ℕ))) : Type 0 where
  pub tree : IsTree (watched_due unwatched objects) firsts
  pub beyond : (number : ℕ) (table : Table) → length firsts ≤ number → table_at objects number ≡ Some table → NeverDue table

-- What is due next, as the machine says it, and what comes of it.
use Rattle.std.specs.Prelude.{◌≡◌, ◌≤◌, ℕ, ◌==◌, nat_lt, int_lt, int_le, Bool, true, false, ◌&&◌, ◌||◌, List, [], ◌∷◌, ◌++◌, map, Option, Some, None, if◌then◌else◌, slice_get}
use Rattle.zk_base.specs.declared.numbers.ObjectNo.{ObjectNo}
use Rattle.zk_base.specs.declared.time.Moment.{Moment}
use Rattle.zk_tree.specs.Table.{Table, Entry, entry_numbered}
use Rattle.zk_tree.specs.Value.{Value}
use Rattle.zk_typed.specs.declared.ends.BodyEnd.{BodyEnd}
use Rattle.zk_typed.specs.declared.ends.BodyEnd.TheVariants as ended
use Rattle.zk_typed.specs.Dispatch.{left, expiry_body}
use Rattle.zk_typed.specs.Does.{named}
use Rattle.zk_typed.specs.Program.{Program, Global}
use Rattle.zk_typed.specs.Running as typed
use Rattle.zk_typed.specs.Running.{table_behind}
use Rattle.zk_typed.specs.State.{World}
use Rattle.zk_typed.specs.World.{Scheduled}
use Rattle.zk_table.specs.Dues.{due_at}
use Rattle.zk_machine.specs.Entries.{object_named, turn_in}
use Rattle.zk_machine.specs.Owners.{object_of}
use Rattle.zk_machine.specs.declared.due.Due.{Due}
use Rattle.zk_machine.specs.declared.due.DueKind.{DueKind}
use Rattle.zk_machine.specs.declared.due.DueKind.TheVariants as kind

abbrev pub kind_of : typed.Due → DueKind
kind_of (typed.EntryDue table order) = kind.Entry table order
kind_of (typed.EventDue one) = kind.Scheduled one.order

abbrev pub due_of : typed.Turn → Due
due_of turn = record { at = turn.at; what = kind_of turn.what }

-- The first that is due ----------------------------------------------------------------------------------------------

-- what comes before what at one moment
abbrev pub kind_before : DueKind → DueKind → Bool
kind_before (kind.Entry table order) (kind.Entry other more) = nat_lt table other || (table == other && nat_lt order more)
kind_before (kind.Entry table order) (kind.Scheduled number) = true
kind_before (kind.Scheduled number) (kind.Entry table order) = false
kind_before (kind.Scheduled number) (kind.Scheduled other) = nat_lt number other

abbrev pub is_before : Due → Due → Bool
is_before a b = int_lt a.at.0 b.at.0 || (int_le a.at.0 b.at.0 && kind_before a.what b.what)

abbrev pub earlier : Due → Option Due → Due
earlier one None = one
earlier one (Some other) = if is_before other one then other else one

abbrev pub first_of : List Due → Option Due
first_of [] = None
first_of (one ∷ others) = Some (earlier one (first_of others))

-- the first due entry of a global's table
abbrev pub entry_due : ℕ → Option (Moment × ℕ) → List Due
entry_due global None = []
entry_due global (Some turn) = record { at = turn.0; what = kind.Entry global turn.1 } ∷ []

-- that of each of these globals
abbrev pub entry_dues : World → List ℕ → List Due
entry_dues world [] = []
entry_dues world (global ∷ globals) = entry_due global (turn_in world.store (object_named (named world.globals global))) ++ entry_dues world globals

abbrev pub event_due : Scheduled → Due
event_due one = record { at = one.due; what = kind.Scheduled one.order }

abbrev pub event_dues : World → List Due
event_dues world = map event_due world.scheduled

-- what is due first, where the entries of these globals expire
abbrev pub due_in : World → List ℕ → Option Due
due_in world globals = first_of ((if world.is_ending then [] else entry_dues world globals) ++ event_dues world)

-- Of these globals this one names the table of an object, and none of them that names a later table which is due has a lower number.
pub record Leads (world : World) (globals : List ℕ) (global object : ℕ) : Type 0 where
  pub among : (place : ℕ) × (slice_get globals place ≡ Some global)
  pub names : object_of world.globals global ≡ Some (record { 0 = object })
  pub first : (place other : ℕ) → slice_get globals place ≡ Some other → (later : ObjectNo) (turn : Moment × ℕ) → object_of world.globals other ≡ Some later
      → object ≤ later.0 → due_at world.store later.0 ≡ Some turn → global ≤ other

-- Events and entries -------------------------------------------------------------------------------------------------

-- how the function ends that is asked before an entry expires; where nothing is there, there is nothing to run
abbrev pub end_for : Program → ℕ → Global → Value → World → Option Entry → BodyEnd
end_for program budget one given world None = ended.Done
end_for program budget one given world (Some entry) = (left (expiry_body program one (given ∷ entry.key) world budget)).end

abbrev pub end_of_table : Program → ℕ → ℕ → Global → Value → World → Option Table → BodyEnd
end_of_table program budget order one given world None = ended.Done
end_of_table program budget order one given world (Some table) = end_for program budget one given world (entry_numbered order table.entries)

abbrev pub end_in : Program → ℕ → ℕ → World → Global → Option Value → BodyEnd
end_in program budget order world one None = ended.Done
end_in program budget order world one (Some given) = end_of_table program budget order one given world (table_behind world (Some given))

abbrev pub end_of : Program → ℕ → ℕ → ℕ → World → Option Global → BodyEnd
end_of program budget number order world None = ended.Done
end_of program budget number order world (Some one) = end_in program budget order world one (named world.globals number)

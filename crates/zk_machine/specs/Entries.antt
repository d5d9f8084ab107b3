-- The entries of the tables that globals name.
use Rattle.std.specs.Prelude.{ℕ, List, Option, Some, None, slice_get}
use Rattle.std.specs.Option.{option_map}
use Rattle.zk_base.specs.declared.numbers.ObjectNo.{ObjectNo}
use Rattle.zk_base.specs.declared.time.Moment.{Moment}
use Rattle.zk_tree.specs.Store.{Store}
use Rattle.zk_tree.specs.Table.{Table, entry_numbered, first_due}
use Rattle.zk_tree.specs.Value as plain
use Rattle.zk_tree.specs.Value.{Value}
use Rattle.zk_typed.specs.Running.{table_of}
use Rattle.zk_value.specs.Plain.{key_of}
use Rattle.zk_machine.specs.declared.entries.Entry.{Entry}

-- the object that a value names
abbrev pub object_named : Option Value → Option ObjectNo
object_named (Some (plain.Object number)) = Some number
object_named other = None

-- the table of an object
abbrev pub table_at : Store → ObjectNo → Option Table
table_at store object = table_of (slice_get store object.0)

-- the first turn of a table's entries
abbrev pub turn_of : Option Table → Option (Moment × ℕ)
turn_of None = None
turn_of (Some table) = first_due table.entries

abbrev pub turn_in : Store → Option ObjectNo → Option (Moment × ℕ)
turn_in store None = None
turn_in store (Some object) = turn_of (table_at store object)

abbrev pub key_in : ℕ → Option Table → Option (List Value)
key_in order None = None
key_in order (Some table) = option_map (λ entry. entry.key) (entry_numbered order table.entries)

abbrev pub keyed : ObjectNo → List Value → ObjectNo × List Value
keyed object key = (object, key)

-- the key of an entry by its order number, with its table
abbrev pub entry_in : Store → ℕ → Option ObjectNo → Option (ObjectNo × List Value)
entry_in store order None = None
entry_in store order (Some object) = option_map (keyed object) (key_in order (table_at store object))

-- an entry, as Rust holds it
abbrev pub entry_of : Entry → ObjectNo × List Value
entry_of entry = (entry.table, key_of entry.key)

-- The keys of a table with their values.
use Rattle.std.specs.Prelude.{List}
use Rattle.zk_tree.specs.Table.{Entry}
use Rattle.zk_tree.specs.Value.{Value}
use Rattle.zk_value.specs.Plain.{key_of, value_of}
use Rattle.zk_table.specs.declared.slot.Pair.{Pair}

abbrev pub pair_of : Pair → List Value × Value
pair_of pair = (key_of pair.key, value_of pair.value)

abbrev pub pair_in : Entry → List Value × Value
pair_in entry = (entry.key, entry.value)

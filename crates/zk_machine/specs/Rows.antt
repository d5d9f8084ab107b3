-- What a row is made of, as the machine holds it.
use Rattle.std.specs.Prelude.{map, Some}
use Rattle.zk_typed.specs.Columns.{value_at, value_cell}
use Rattle.zk_tree.specs.Value.{Value}
use Rattle.zk_typed.specs.Log.{Stream, Filter, Row}
use Rattle.zk_typed.specs.Logs.{filter_leaves, path_of}
use Rattle.zk_typed.specs.Program.{Program}
use Rattle.zk_typed.specs.State.{World}

-- the row of a record as it is now, for a filter
abbrev pub row_meant : Program → Stream → Filter → Value → World → Row
row_meant types stream one row world = record {
  path = path_of stream one;
  columns = map (λ leaf. leaf.column) (filter_leaves types stream one);
  cells = map (λ leaf. value_cell world.store (value_at world.store leaf.path (Some row))) (filter_leaves types stream one);
  at = world.time;
}

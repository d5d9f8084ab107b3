-- What the streams of logs have as columns, as code holds it.
use Rattle.std.specs.Prelude.{List, [], map, Option, Some, None}
use Rattle.std.specs.declared.alloc.Global.{Global}
use Rattle.std.specs.declared.vec.Vec.{Vec}
use Rattle.zk_base.specs.declared.numbers.RecordNo.{RecordNo}
use Rattle.zk_typed.specs.declared.script.program.Log.{Log}
use Rattle.zk_typed.specs.Columns as columns
use Rattle.zk_typed.specs.Columns.{leaves}
use Rattle.zk_typed.specs.Log as log
use Rattle.zk_typed.specs.Program.{Program, RecordType}
use Rattle.zk_value.specs.declared.cell.Column.{Column}
use Rattle.zk_lower.specs.Code.{types_of}
use Rattle.zk_lower.specs.declared.leaves.Leaf.{Leaf}

abbrev pub column_of : Column → log.Column
column_of column = record { name = column.name; kind = column.kind; wire = column.wire }

abbrev pub leaf_of : Leaf → columns.Leaf
leaf_of leaf = record { column = column_of leaf.column; path = leaf.path.items; log = leaf.log }

abbrev pub leaves_in : Vec Leaf Global → List columns.Leaf
leaves_in all = map leaf_of all.items

-- these record types alone, which decide what columns there are
abbrev pub with_records : List RecordType → Program
with_records records = types_of [] records []

-- the leaves of a record type, where there is one
abbrev pub maybe_leaves : Program → Option RecordNo → List columns.Leaf
maybe_leaves types None = []
maybe_leaves types (Some number) = leaves types number

-- what the stream of a log has as columns
abbrev pub leaves_of : List RecordType → Log → List columns.Leaf
leaves_of records one = maybe_leaves (with_records records) one.columns

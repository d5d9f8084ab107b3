-- The objects that scripts make: records, vectors, sets and tables (Zeek manual, Types). A script passes them
-- by reference, and none is given back before the run ends.
use Rattle.std.specs.Prelude.{List, Option}
use Rattle.zk_base.specs.declared.numbers.RecordNo.{RecordNo}
use Rattle.zk_tree.specs.Table as table
use Rattle.zk_tree.specs.Value.{Value}

pub data Object : Type 0 where
  -- a record of this type: the value of each field, or none
  Record : (of : RecordNo) (fields : List (Option Value)) → Object
  Vector : (items : List Value) → Object
  -- a set or a table
  Table : (table : table.Table) → Object

-- the objects by their numbers, from 0, in the order in which they were made
abbrev pub Store : Type 0
Store = List Object

-- The types of scripts, with names followed to what they stand for (Zeek manual, Types).
use Rattle.std.specs.Prelude.{List}
use Rattle.zk_base.specs.declared.numbers.RecordNo.{RecordNo}
use Rattle.zk_typed.specs.declared.script.types.SimpleType.{SimpleType}

pub data ValueType : Type 0 where
  Simple : (simple : SimpleType) → ValueType
  Record : (record_no : RecordNo) → ValueType
  Table : (keys : List SimpleType) (value : ValueType) → ValueType
  Set : (keys : List SimpleType) → ValueType
  Vector : (item : ValueType) → ValueType

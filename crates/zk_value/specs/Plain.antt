-- Values without where they lie in memory.
use Rattle.std.specs.Prelude.{List, [], ℕ, map, Option, Some, None}
use Rattle.zk_tree.specs.Value as plain
use Rattle.zk_value.specs.declared.value.Value.{Value}
use Rattle.zk_value.specs.declared.value.Value.TheVariants.{Bool, Count, Int, String, Time, Interval, Addr, Port, Subnet, Enum, Object}
use Rattle.zk_value.specs.declared.out.Out.{Out}
use Rattle.zk_value.specs.declared.out.Out.TheVariants.{Line, Row}

abbrev pub value_of : Value → plain.Value
value_of (Bool truth) = plain.Bool truth
value_of (Count count) = plain.Count count
value_of (Int int) = plain.Int int
value_of (String bytes) = plain.String bytes
value_of (Time moment) = plain.Time moment
value_of (Interval span) = plain.Interval span
value_of (Addr address) = plain.Addr address
value_of (Port port proto) = plain.Port port proto
value_of (Subnet prefix width) = plain.Subnet prefix width
value_of (Enum word) = plain.Enum word
value_of (Object number) = plain.Object number

-- the plain values of a key
abbrev pub key_of : List Value → List plain.Value
key_of key = map value_of key

-- the plain value of a field, where it has one
abbrev pub field_of : Option Value → Option plain.Value
field_of None = None
field_of (Some value) = Some (value_of value)

-- the line that is given out, and no byte for a row
abbrev pub line_in : Out → List ℕ
line_in (Line line) = line
line_in (Row path columns cells at) = []

-- Which values a type without parts has, and what an operator makes of values of its operands' types.
use Rattle.std.specs.Prelude.{◌≡◌, ◌^◌, nat_lt, Bool, true, false}
use Rattle.zk_tree.specs.declared.place.Place.{Place}
use Rattle.zk_tree.specs.Value as value
use Rattle.zk_tree.specs.Value.{Value}
use Rattle.zk_typed.specs.declared.ends.FaultKind.{FaultKind}
use Rattle.zk_typed.specs.declared.ends.FaultKind.TheVariants as kind
use Rattle.zk_typed.specs.declared.script.types.SimpleType.{SimpleType}
use Rattle.zk_typed.specs.declared.script.types.SimpleType.TheVariants as simple
use Rattle.zk_typed.specs.Does.{Does, Ran, Gives, Faults, Spent}
use Rattle.zk_typed.specs.Operations.{Row}
use Rattle.zk_typed.specs.Operators.{binary, is_int}
use Rattle.zk_typed.specs.State.{State}

-- A value is of a type, and within its range.
abbrev pub is_of : SimpleType → Value → Bool
is_of simple.Bool (value.Bool truth) = true
is_of simple.Count (value.Count n) = nat_lt n (2 ^ 64)
is_of simple.Int (value.Int n) = is_int n
is_of simple.String (value.String bytes) = true
is_of simple.Time (value.Time moment) = is_int moment.0
is_of simple.Interval (value.Interval span) = is_int span.0
is_of simple.Addr (value.Addr address) = true
is_of simple.Port (value.Port port proto) = nat_lt port (2 ^ 16)
is_of simple.Subnet (value.Subnet prefix width) = true
is_of (simple.Enum number) (value.Enum word) = true
is_of type other = false

-- a fault of numbers and texts alone, which no type can rule out
abbrev pub IsOfNumbers : FaultKind → Type 0
IsOfNumbers kind.ZeroDivisor = Unit {0}
IsOfNumbers kind.Overflow = Unit {0}
IsOfNumbers kind.TooLong = Unit {0}
IsOfNumbers other = ⊥

-- a value of this type came, and nothing else changed; or there was a fault of numbers or texts
abbrev pub Came : SimpleType → State → Ran Value → Type 0
Came type before (Gives one after) = (is_of type one ≡ true) × (after ≡ before)
Came type before (Faults why place world units) = IsOfNumbers why
Came type before (Spent place world) = ⊥

-- from values of the operands' types a row of the operators' table gives one of its own type
abbrev pub RowHolds : Row → Type 0
RowHolds row = (place : Place) (a b : Value) (state : State) → is_of row.left a ≡ true → is_of row.right b ≡ true →
    Came row.gives state (binary place row.operator a b state)

-- so does an operator with one operand
abbrev pub OperatorHolds : (Place → Value → Does Value) → SimpleType → SimpleType → Type 0
OperatorHolds operator operand gives = (place : Place) (a : Value) (state : State) → is_of operand a ≡ true → Came gives state (operator place a state)

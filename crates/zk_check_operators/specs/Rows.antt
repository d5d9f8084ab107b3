-- The table of arithmetic, as the rows that the rules have.
use Rattle.std.specs.Prelude.{List, [], ◌∷◌, Ok, map, find, Option, Some, None, Bool, true, false, ◌&&◌, if◌then◌else◌}
use Rattle.std.specs.List.{list_any}
use Rattle.std.specs.Option.{option_map}
use Rattle.zk_tree.specs.declared.operator.Assigning.{Assigning}
use Rattle.zk_tree.specs.declared.operator.Assigning.TheVariants as assigning
use Rattle.zk_tree.specs.declared.place.Place.{Place}
use Rattle.zk_typed.specs.declared.script.primitive.Binary.{Binary}
use Rattle.zk_typed.specs.declared.script.primitive.Relation.{Relation}
use Rattle.zk_typed.specs.declared.script.types.SimpleType.{SimpleType}
use Rattle.zk_typed.specs.declared.script.types.SimpleType.TheVariants as simple
use Rattle.zk_typed.specs.Operations.{Row, row, same_binary, same_simple, same_type, relates}
use Rattle.zk_typed.specs.Checked.{Checked, broken, require, ◌>>◌}
use Rattle.zk_typed.specs.declared.rule.Rule.TheVariants as rule
use Rattle.zk_typed.specs.Making.{types_same}
use Rattle.zk_typed.specs.Types.{ValueType, Simple, Record, Vector}
use Rattle.zk_typed.specs.Typing.{Typed}

abbrev pub row_of : Binary × SimpleType × SimpleType × SimpleType → Row
row_of entry = row entry.0 entry.1 entry.2 entry.3

-- the type that some rows give
abbrev pub given_by : Binary → SimpleType → SimpleType → List (Binary × SimpleType × SimpleType × SimpleType) → Option SimpleType
given_by operator left right rows =
    option_map (λ one. one.gives) (find (λ one. same_binary one.operator operator && same_simple one.left left && same_simple one.right right) (map row_of rows))

-- whether some rows have the type on the left
abbrev pub taken_by : Binary → SimpleType → List (Binary × SimpleType × SimpleType × SimpleType) → Bool
taken_by operator left rows = list_any (λ one. same_binary one.operator operator && same_simple one.left left) (map row_of rows)

-- the type of the negative of a value
abbrev pub negative_type : SimpleType → Option SimpleType
negative_type simple.Count = Some simple.Int
negative_type simple.Int = Some simple.Int
negative_type simple.Interval = Some simple.Interval
negative_type other = None

-- the operand that has a wrong type, by its place
abbrev pub wrong_operand : Relation → Place → Place → ValueType → ValueType → Option Place
wrong_operand relation first second a b =
    if relates relation a then (if same_type a b then None else Some second) else Some first

-- whether a value of a type without parts can be added to one of the same type, or taken from it
abbrev pub adds_simple : Assigning → SimpleType → Bool
adds_simple by simple.Count = true
adds_simple by simple.Int = true
adds_simple by simple.Interval = true
adds_simple assigning.Add simple.String = true
adds_simple by other = false

-- whether a type has a size
abbrev pub type_has_size : ValueType → Bool
type_has_size (Simple simple.String) = true
type_has_size (Simple simple.Int) = true
type_has_size (Simple other) = false
type_has_size (Record number) = false
type_has_size container = true

abbrev pub without_parts : ValueType → Bool
without_parts (Simple simple) = true
without_parts other = false

-- the type of a vector of the one type that its items have
abbrev pub vector_type : Place → List Typed → Checked ValueType
vector_type place [] = broken rule.WrongType place
vector_type place (first ∷ others) = require (types_same first.type others) rule.WrongType place >> Ok (Vector first.type)

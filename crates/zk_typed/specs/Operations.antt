-- The types of operators and of built-in functions, row by row (Zeek manual, Operators; Built-in functions).
use Rattle.std.specs.Prelude.{ℕ, ◌+◌, ◌==◌, Bool, true, false, ◌&&◌, List, [], ◌∷◌, find, Option, Some, None}
use Rattle.std.specs.List.{list_any}
use Rattle.std.specs.Option.{option_map}
use Rattle.zk_tree.specs.declared.operator.Operator.{Operator}
use Rattle.zk_tree.specs.declared.operator.Operator.TheVariants as operator
use Rattle.zk_tree.specs.declared.operator.Comparing.{Comparing}
use Rattle.zk_tree.specs.declared.operator.Comparing.TheVariants as comparing
use Rattle.zk_typed.specs.declared.script.primitive.Binary.{Binary}
use Rattle.zk_typed.specs.declared.script.primitive.Binary.TheVariants.{Plus, Minus, Times, Over, Modulo}
use Rattle.zk_typed.specs.declared.script.primitive.BuiltIn.{BuiltIn}
use Rattle.zk_typed.specs.declared.script.primitive.BuiltIn.TheVariants as built_in
use Rattle.zk_typed.specs.declared.script.primitive.Relation.{Relation}
use Rattle.zk_typed.specs.declared.script.primitive.Relation.TheVariants as relation
use Rattle.zk_typed.specs.declared.script.types.SimpleType.{SimpleType}
use Rattle.zk_typed.specs.declared.script.types.SimpleType.TheVariants.{Bool as BoolType, Count, Int, String, Time, Interval, Addr, Port, Subnet, Enum}
use Rattle.zk_typed.specs.Predefined as type
use Rattle.zk_typed.specs.Types.{ValueType, Simple, Record, Table, Set, Vector}

-- Types that are the same -------------------------------------------------------------------------------------------

abbrev pub simple_number : SimpleType → ℕ
simple_number BoolType = 0
simple_number Count = 1
simple_number Int = 2
simple_number String = 3
simple_number Time = 4
simple_number Interval = 5
simple_number Addr = 6
simple_number Port = 7
simple_number Subnet = 8
simple_number (Enum number) = number + 9

abbrev pub same_simple : SimpleType → SimpleType → Bool
same_simple a b = simple_number a == simple_number b

abbrev pub same_keys : List SimpleType → List SimpleType → Bool
same_keys [] [] = true
same_keys [] (b ∷ bs) = false
same_keys (a ∷ xs) [] = false
same_keys (a ∷ xs) (b ∷ ys) = same_simple a b && same_keys xs ys

-- a record type is the same only as itself
abbrev pub same_type : ValueType → ValueType → Bool
same_type (Simple a) (Simple b) = same_simple a b
same_type (Record a) (Record b) = a.0 == b.0
same_type (Table keys value) (Table others other) = same_keys keys others && same_type value other
same_type (Set keys) (Set others) = same_keys keys others
same_type (Vector item) (Vector other) = same_type item other
same_type a b = false

-- Arithmetic ---------------------------------------------------------------------------------------------------------

pub record Row : Type 0 where
  pub operator : Binary
  pub left : SimpleType
  pub right : SimpleType
  pub gives : SimpleType

abbrev pub row : Binary → SimpleType → SimpleType → SimpleType → Row
row operator left right gives = record { operator = operator; left = left; right = right; gives = gives }

abbrev pub arithmetic : List Row
arithmetic =
    row Plus Count Count Count ∷ row Plus Int Int Int ∷ row Plus String String String ∷
    row Plus Interval Interval Interval ∷ row Plus Time Interval Time ∷
    row Minus Count Count Count ∷ row Minus Int Int Int ∷
    row Minus Interval Interval Interval ∷ row Minus Time Interval Time ∷ row Minus Time Time Interval ∷
    row Times Count Count Count ∷ row Times Int Int Int ∷ row Times Interval Count Interval ∷ row Times Interval Int Interval ∷
    row Over Count Count Count ∷ row Over Int Int Int ∷ row Over Interval Count Interval ∷ row Over Interval Int Interval ∷
    row Modulo Count Count Count ∷ row Modulo Int Int Int ∷ []

abbrev pub binary_number : Binary → ℕ
binary_number Plus = 0
binary_number Minus = 1
binary_number Times = 2
binary_number Over = 3
binary_number Modulo = 4

abbrev pub same_binary : Binary → Binary → Bool
same_binary a b = binary_number a == binary_number b

-- the type that an operator gives for operands of two types
abbrev pub arithmetic_of : Binary → SimpleType → SimpleType → Option SimpleType
arithmetic_of operator left right =
    option_map (λ one. one.gives) (find (λ one. same_binary one.operator operator && same_simple one.left left && same_simple one.right right) arithmetic)

-- a type is that of a left operand of an operator
abbrev pub takes_left : Binary → ValueType → Bool
takes_left operator (Simple left) = list_any (λ one. same_binary one.operator operator && same_simple one.left left) arithmetic
takes_left operator other = false

abbrev pub binary_of : Operator → Option Binary
binary_of operator.Plus = Some Plus
binary_of operator.Minus = Some Minus
binary_of operator.Times = Some Times
binary_of operator.Over = Some Over
binary_of operator.Modulo = Some Modulo
binary_of operator.Or = None
binary_of operator.And = None

-- Comparisons --------------------------------------------------------------------------------------------------------

-- what `in` and `!in` test is no relation of two values of one type
abbrev pub relation_of : Comparing → Option Relation
relation_of comparing.Equal = Some relation.Equal
relation_of comparing.NotEqual = Some relation.NotEqual
relation_of comparing.Less = Some relation.Less
relation_of comparing.LessEqual = Some relation.LessEqual
relation_of comparing.Greater = Some relation.Greater
relation_of comparing.GreaterEqual = Some relation.GreaterEqual
relation_of comparing.In = None
relation_of comparing.NotIn = None

abbrev pub is_ordered : SimpleType → Bool
is_ordered BoolType = false
is_ordered Subnet = false
is_ordered (Enum number) = false
is_ordered other = true

-- equality is on all types without parts, and order on some
abbrev pub relates : Relation → ValueType → Bool
relates relation.Equal (Simple one) = true
relates relation.NotEqual (Simple one) = true
relates other (Simple one) = is_ordered one
relates other parts = false

-- Built-in functions -------------------------------------------------------------------------------------------------

-- the types of its parameters and the type that it gives; `fmt`, `cat` and `copy` have rules of their own
abbrev pub built_in_type : BuiltIn → Option (List ValueType × ValueType)
built_in_type built_in.Fmt = None
built_in_type built_in.Cat = None
built_in_type built_in.ToLower = Some (type.string ∷ [], type.string)
built_in_type built_in.ToUpper = Some (type.string ∷ [], type.string)
built_in_type built_in.SubBytes = Some (type.string ∷ type.count ∷ type.int ∷ [], type.string)
built_in_type built_in.Strstr = Some (type.string ∷ type.string ∷ [], type.count)
built_in_type built_in.ToCount = Some (type.string ∷ [], type.count)
built_in_type built_in.StartsWith = Some (type.string ∷ type.string ∷ [], type.bool)
built_in_type built_in.JoinStringVec = Some (type.string_vec ∷ type.string ∷ [], type.string)
built_in_type built_in.AddrToCounts = Some (type.addr ∷ [], Vector type.count)
built_in_type built_in.NetworkTime = Some ([], type.time)
built_in_type built_in.Copy = None

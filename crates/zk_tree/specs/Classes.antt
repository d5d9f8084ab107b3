-- The tokens that have a value of their own, and what marks stand for.
use Rattle.std.specs.Prelude.{ℕ, Bool, true, false, if◌then◌else◌, List, codes, Option, Some, None}
use Rattle.std.specs.Str.{bytes_eq}
use Rattle.zk_tree.specs.declared.token.TokenKind.{TokenKind}
use Rattle.zk_tree.specs.declared.token.TokenKind.TheVariants as token
use Rattle.zk_tree.specs.declared.token.Sign.TheVariants as sign
use Rattle.zk_tree.specs.declared.keyword.Keyword.{Keyword}
use Rattle.zk_tree.specs.declared.keyword.Keyword.TheVariants as keyword
use Rattle.zk_tree.specs.declared.keyword.Mark.{Mark}
use Rattle.zk_tree.specs.declared.keyword.Mark.TheVariants as mark
use Rattle.zk_tree.specs.declared.operator.Assigning.{Assigning}
use Rattle.zk_tree.specs.declared.operator.Assigning.TheVariants as assigning
use Rattle.zk_tree.specs.declared.operator.Comparing.{Comparing}
use Rattle.zk_tree.specs.declared.operator.Comparing.TheVariants as comparing
use Rattle.zk_tree.specs.declared.operator.Container.{Container}
use Rattle.zk_tree.specs.declared.operator.Container.TheVariants as container
use Rattle.zk_tree.specs.declared.operator.Level.{Level}
use Rattle.zk_tree.specs.declared.operator.Level.TheVariants as level
use Rattle.zk_tree.specs.declared.operator.Operator.{Operator}
use Rattle.zk_tree.specs.declared.operator.Operator.TheVariants as operator
use Rattle.zk_tree.specs.declared.operator.Prefix.{Prefix}
use Rattle.zk_tree.specs.declared.operator.Prefix.TheVariants as prefix
use Rattle.zk_tree.specs.declared.operator.TimeUnit.{TimeUnit}
use Rattle.zk_tree.specs.declared.operator.TimeUnit.TheVariants as unit
use Rattle.zk_tree.specs.declared.expr.Literal.{Literal}
use Rattle.zk_tree.specs.declared.expr.Literal.TheVariants as literal
use Rattle.zk_tree.specs.declared.types.Atomic.{Atomic}
use Rattle.zk_tree.specs.declared.types.Atomic.TheVariants as atomic
use Rattle.zk_tree.specs.declared.decl.Lasting.{Lasting}
use Rattle.zk_tree.specs.declared.decl.Lasting.TheVariants as lasting
use Rattle.zk_tree.specs.declared.decl.Redefining.{Redefining}
use Rattle.zk_tree.specs.declared.decl.Redefining.TheVariants as redefining
use Rattle.zk_tree.specs.declared.decl.BodyKind.{BodyKind}
use Rattle.zk_tree.specs.declared.decl.BodyKind.TheVariants as body
use Rattle.zk_tree.specs.Marks.{keyword_of}

-- ---- tokens with a value

-- a kind of token that has a value
pub data Class : Type 0 → Type 1 where
  -- a name that is no reserved word
  ANAME : Class (List ℕ)
  ANUMBER : Class ℕ
  -- a unit of time, and whether it is written in the plural
  AUNIT : Class (TimeUnit × Bool)
  ALITERAL : Class Literal
  ANATTRIBUTE : Class (List ℕ)
  ALOAD : Class (List ℕ)

abbrev pub unless_reserved : List ℕ → Option Keyword → Option (List ℕ)
unless_reserved name None = Some name
unless_reserved name (Some word) = None

-- the units of time, which count only directly behind a number
unfoldable pub unit_of : List ℕ → Option (TimeUnit × Bool)
unit_of name =
    if bytes_eq name (codes "usec") then Some (unit.Microsecond, false)
    else if bytes_eq name (codes "usecs") then Some (unit.Microsecond, true)
    else if bytes_eq name (codes "msec") then Some (unit.Millisecond, false)
    else if bytes_eq name (codes "msecs") then Some (unit.Millisecond, true)
    else if bytes_eq name (codes "sec") then Some (unit.Second, false)
    else if bytes_eq name (codes "secs") then Some (unit.Second, true)
    else if bytes_eq name (codes "min") then Some (unit.Minute, false)
    else if bytes_eq name (codes "mins") then Some (unit.Minute, true)
    else if bytes_eq name (codes "hr") then Some (unit.Hour, false)
    else if bytes_eq name (codes "hrs") then Some (unit.Hour, true)
    else if bytes_eq name (codes "day") then Some (unit.Day, false)
    else if bytes_eq name (codes "days") then Some (unit.Day, true)
    else None

abbrev pub name_in : TokenKind → Option (List ℕ)
name_in (token.Name name) = unless_reserved name (keyword_of name)
name_in kind = None

abbrev pub number_in : TokenKind → Option ℕ
number_in (token.Number number) = Some number
number_in kind = None

abbrev pub unit_in : TokenKind → Option (TimeUnit × Bool)
unit_in (token.Name name) = unit_of name
unit_in kind = None

abbrev pub literal_in : TokenKind → Option Literal
literal_in (token.String bytes) = Some (literal.String bytes)
literal_in (token.Port port proto) = Some (literal.Port port proto)
literal_in (token.Address address) = Some (literal.Address address)
literal_in (token.Subnet prefix width) = Some (literal.Subnet prefix width)
literal_in kind = None

abbrev pub attribute_in : TokenKind → Option (List ℕ)
attribute_in (token.Attribute name) = Some name
attribute_in kind = None

abbrev pub load_in : TokenKind → Option (List ℕ)
load_in (token.Load file) = Some file
load_in kind = None

-- the value of a token of this class
abbrev pub value_in : {A : Type 0} → Class A → TokenKind → Option A
value_in ANAME = name_in
value_in ANUMBER = number_in
value_in AUNIT = unit_in
value_in ALITERAL = literal_in
value_in ANATTRIBUTE = attribute_in
value_in ALOAD = load_in

-- ---- what signs and reserved words stand for

abbrev pub operator_in : Level → Mark → Option Operator
operator_in level.Or (mark.Sign sign.Or) = Some operator.Or
operator_in level.And (mark.Sign sign.And) = Some operator.And
operator_in level.Sum (mark.Sign sign.Plus) = Some operator.Plus
operator_in level.Sum (mark.Sign sign.Minus) = Some operator.Minus
operator_in level.Term (mark.Sign sign.Star) = Some operator.Times
operator_in level.Term (mark.Sign sign.Slash) = Some operator.Over
operator_in level.Term (mark.Sign sign.Percent) = Some operator.Modulo
operator_in level m = None

abbrev pub comparing_in : Mark → Option Comparing
comparing_in (mark.Sign sign.EqualEqual) = Some comparing.Equal
comparing_in (mark.Sign sign.NotEqual) = Some comparing.NotEqual
comparing_in (mark.Sign sign.Less) = Some comparing.Less
comparing_in (mark.Sign sign.LessEqual) = Some comparing.LessEqual
comparing_in (mark.Sign sign.Greater) = Some comparing.Greater
comparing_in (mark.Sign sign.GreaterEqual) = Some comparing.GreaterEqual
comparing_in (mark.Word keyword.In) = Some comparing.In
comparing_in (mark.Sign sign.NotIn) = Some comparing.NotIn
comparing_in m = None

abbrev pub assigning_in : Mark → Option Assigning
assigning_in (mark.Sign sign.Equal) = Some assigning.Set
assigning_in (mark.Sign sign.PlusEqual) = Some assigning.Add
assigning_in (mark.Sign sign.MinusEqual) = Some assigning.Subtract
assigning_in m = None

abbrev pub prefix_in : Mark → Option Prefix
prefix_in (mark.Sign sign.Not) = Some prefix.Not
prefix_in (mark.Sign sign.Minus) = Some prefix.Negate
prefix_in (mark.Sign sign.PlusPlus) = Some prefix.Increment
prefix_in (mark.Sign sign.MinusMinus) = Some prefix.Decrement
prefix_in m = None

abbrev pub truth_in : Mark → Option Bool
truth_in (mark.Word keyword.True) = Some true
truth_in (mark.Word keyword.False) = Some false
truth_in m = None

abbrev pub container_in : Mark → Option Container
container_in (mark.Word keyword.Table) = Some container.Table
container_in (mark.Word keyword.Set) = Some container.Set
container_in (mark.Word keyword.Vector) = Some container.Vector
container_in m = None

abbrev pub atomic_in : Mark → Option Atomic
atomic_in (mark.Word keyword.Bool) = Some atomic.Bool
atomic_in (mark.Word keyword.Count) = Some atomic.Count
atomic_in (mark.Word keyword.Int) = Some atomic.Int
atomic_in (mark.Word keyword.String) = Some atomic.String
atomic_in (mark.Word keyword.Time) = Some atomic.Time
atomic_in (mark.Word keyword.Interval) = Some atomic.Interval
atomic_in (mark.Word keyword.Addr) = Some atomic.Addr
atomic_in (mark.Word keyword.Port) = Some atomic.Port
atomic_in (mark.Word keyword.Subnet) = Some atomic.Subnet
atomic_in m = None

abbrev pub lasting_in : Mark → Option Lasting
lasting_in (mark.Word keyword.Global) = Some lasting.Global
lasting_in (mark.Word keyword.Const) = Some lasting.Const
lasting_in m = None

abbrev pub redefining_in : Mark → Option Redefining
redefining_in (mark.Sign sign.Equal) = Some redefining.Set
redefining_in (mark.Sign sign.PlusEqual) = Some redefining.Add
redefining_in m = None

abbrev pub body_in : Mark → Option BodyKind
body_in (mark.Word keyword.Event) = Some body.Event
body_in (mark.Word keyword.Hook) = Some body.Hook
body_in m = None

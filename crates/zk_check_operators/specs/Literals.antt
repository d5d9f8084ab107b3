-- The tokens that are literals, and the values of `&default`.
use Rattle.std.specs.Prelude.{Option, Some, None}
use Rattle.zk_base.specs.declared.network.Addr.TheVariants.{V4}
use Rattle.zk_tree.specs.declared.expr.Literal.{Literal}
use Rattle.zk_tree.specs.declared.expr.Literal.TheVariants as token
use Rattle.zk_tree.specs.declared.expr.Expr.{Expr}
use Rattle.zk_tree.specs.declared.operator.Container.{Container}
use Rattle.zk_tree.specs.declared.operator.Container.TheVariants as container
use Rattle.zk_tree.specs.declared.place.Place.{Place}
use Rattle.zk_typed.specs.declared.rule.Rule.TheVariants as rule
use Rattle.zk_typed.specs.declared.script.literal.DefaultValue.{DefaultValue}
use Rattle.zk_typed.specs.declared.script.literal.DefaultValue.TheVariants as default
use Rattle.zk_typed.specs.declared.script.literal.Literal as value
use Rattle.zk_typed.specs.declared.script.literal.Literal.TheVariants as literal
use Rattle.zk_typed.specs.declared.script.types.SimpleType.{SimpleType}
use Rattle.zk_typed.specs.declared.script.types.SimpleType.TheVariants as simple
use Rattle.zk_typed.specs.Checked.{Checked, broken}
use Rattle.zk_typed.specs.Declarations.{literal_of, negative_default, container_default}
use Rattle.zk_typed.specs.Types.{ValueType, Table, Set, Vector}

-- a string, a port, an address or a subnet, with its type
abbrev pub literal_with_type : Literal → value.Literal × SimpleType
literal_with_type (token.String bytes) = (literal.String bytes, simple.String)
literal_with_type (token.Port port proto) = (literal.Port port proto, simple.Port)
literal_with_type (token.Address address) = (literal.Addr (V4 address), simple.Addr)
literal_with_type (token.Subnet prefix width) = (literal.Subnet prefix width, simple.Subnet)

-- a new empty container of a kind, where it has the type that is wanted
abbrev pub empty_where : ValueType → Container → Option DefaultValue
empty_where (Table keys value) container.Table = Some default.EmptyTable
empty_where (Set keys) container.Set = Some default.EmptyTable
empty_where (Vector item) container.Vector = Some default.EmptyVector
empty_where other made = None

-- the value of `&default` where it isn't a literal by itself, by the operand of its minus sign and the empty container that it is
abbrev pub default_of : Place → ValueType → Option Expr → Option Container → Checked DefaultValue
default_of place wanted (Some operand) made = of_negative (literal_of operand)
  where
    of_negative : Option (value.Literal × SimpleType) → Checked DefaultValue
    of_negative None = broken rule.NotConst place
    of_negative (Some one) = negative_default place wanted one
default_of place wanted None None = broken rule.NotConst place
default_of place wanted None (Some made) = container_default place wanted made

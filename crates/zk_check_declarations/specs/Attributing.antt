-- The attributes of globals.
use Rattle.std.specs.Prelude.{ℕ, Bool, false, not, ◌&&◌, ◌||◌, List, [], ◌∷◌, map, codes, Option, Some, None, if◌then◌else◌}
use Rattle.std.specs.Str.{bytes_eq}
use Rattle.zk_tree.specs.declared.expr.Expr.{Expr}
use Rattle.zk_tree.specs.declared.place.Place.{Place}
use Rattle.zk_typed.specs.declared.rule.Rule.TheVariants as rule
use Rattle.zk_typed.specs.declared.script.types.SimpleType.TheVariants as simple
use Rattle.zk_typed.specs.Checked.{Checked, broken, require, ◌>>=◌}
use Rattle.zk_typed.specs.Declarations.{ValueGiven, default_typed, expire_func_value, expiry_value, is_made, is_set, nothing}
use Rattle.zk_typed.specs.Errors.{same_types}
use Rattle.zk_typed.specs.Names.{Declared, Meant, Function, Signature}
use Rattle.zk_typed.specs.Operations.{same_type}
use Rattle.zk_typed.specs.Resolving.{Scripts}
use Rattle.zk_typed.specs.Types.{ValueType, Simple, Table, Set}
use Rattle.zk_typed.specs.Typing.{Env}
use Rattle.zk_check_declarations.specs.Signing.{signed}

-- a value makes a table or a set, unless it is added to another
abbrev pub made_by : ValueGiven → Bool
made_by one = not (is_set one.1) || is_made one.2

-- the type of values in a table
abbrev pub item_type : ValueType → ValueType
item_type (Table keys value) = value
item_type other = other

-- the parameters of the function of `&expire_func`
abbrev pub expire_params : ValueType → List ValueType
expire_params (Table keys value) = Table keys value ∷ map Simple keys
expire_params (Set keys) = Set keys ∷ map Simple keys
expire_params other = []

abbrev pub gives_interval : Option ValueType → Bool
gives_interval (Some one) = same_type one (Simple simple.Interval)
gives_interval None = false

-- the function of `&expire_func`, by its signature
abbrev pub expire_call : Scripts → Place → ValueType → Signature → Checked (Unit {0})
expire_call scripts place type signature =
    signed scripts signature >>= (λ parts. require (same_types parts.0 (expire_params type) && gives_interval parts.1) rule.WrongType place)

-- by what its name means
abbrev pub expire_meaning : Scripts → Place → ValueType → Meant → Checked (Unit {0})
expire_meaning scripts place type (Function signature) = expire_call scripts place type signature
expire_meaning scripts place type other = broken rule.WrongType place

abbrev pub expire_named : Scripts → Place → ValueType → Option Declared → Checked (Unit {0})
expire_named scripts place type None = broken rule.Unknown place
expire_named scripts place type (Some one) = expire_meaning scripts place type one.meant

-- the value of an attribute of a name
abbrev pub attr_value : Env → ValueType → List ℕ → Expr → Checked (Unit {0})
attr_value env type name one =
    if bytes_eq name (codes "default") then nothing (default_typed env (item_type type) one)
    else (if bytes_eq name (codes "expire_func") then expire_func_value env type one else nothing (expiry_value env one))

-- What a `for` gives at each turn.
use Rattle.std.specs.Prelude.{ℕ, ◌==◌, List, [], ◌∷◌, ◌++◌, length, map, Option, Some, None, Ok}
use Rattle.std.specs.declared.alloc.Global.{Global}
use Rattle.std.specs.declared.vec.Vec.{Vec}
use Rattle.std.specs.Option.{option_map}
use Rattle.zk_tree.specs.declared.name.Name.{Name}
use Rattle.zk_tree.specs.declared.stmt.Keys.{Keys}
use Rattle.zk_typed.specs.declared.rule.Rule.TheVariants as rule
use Rattle.zk_typed.specs.declared.script.types.ValueType.{ValueType as RustType}
use Rattle.zk_typed.specs.Checked.{Checked, broken, require, ◌>>◌}
use Rattle.zk_typed.specs.Statements.{Context, key_names, place_of}
use Rattle.zk_typed.specs.Types.{ValueType}
use Rattle.zk_typed.specs.View.{type_of}
use Rattle.zk_check_statements.specs.declared.over.Turn.{Turn}

abbrev pub turn_of : Turn → List ValueType × Option ValueType
turn_of turn = (map type_of turn.keys.items, option_map type_of turn.value)

abbrev pub types_in : Vec RustType Global → List ValueType
types_in types = map type_of types.items

-- the types of the names of a `for`, which are as many as are given
abbrev pub types_of_names : Context → ℕ → Keys → Option Name → List ValueType × Option ValueType → Checked (List ValueType)
types_of_names context place keys named types =
    require (length types.0 == length (key_names keys)) rule.WrongType (place_of context place) >> with_value types.0 types.1 named
  where
    with_value : List ValueType → Option ValueType → Option Name → Checked (List ValueType)
    with_value types value None = Ok types
    with_value types (Some value) (Some name) = Ok (types ++ value ∷ [])
    with_value types None (Some name) = broken rule.WrongType (place_of context name.place)

-- Bodies and the signatures of their declarations.
use Rattle.std.specs.Prelude.{List, ◌&&◌, Option, Some, None}
use Rattle.zk_tree.specs.declared.name.Name.{Name}
use Rattle.zk_tree.specs.declared.place.Place.{Place}
use Rattle.zk_typed.specs.declared.rule.Rule.TheVariants as rule
use Rattle.zk_typed.specs.Checked.{Checked, broken, both, require, ◌>>=◌}
use Rattle.zk_typed.specs.Errors.{same_result, same_types}
use Rattle.zk_typed.specs.LoadOrder.{Home}
use Rattle.zk_typed.specs.Names.{Signature}
use Rattle.zk_typed.specs.Resolving.{Scripts, params_of, place_in, result_of}
use Rattle.zk_typed.specs.Types.{ValueType}

-- the types of the parameters and of the result
abbrev pub signed : Scripts → Signature → Checked (List ValueType × Option ValueType)
signed scripts signature = both (params_of scripts signature) (result_of scripts signature)

-- two signatures have the same parameters and the same result
abbrev pub alike : Scripts → Place → Signature → Signature → Checked (Unit {0})
alike scripts place given declared =
    both (signed scripts given) (signed scripts declared) >>= (λ parts. require (same_types parts.0.0 parts.1.0 && same_result parts.0.1 parts.1.1) rule.Arguments place)

-- the head of a body whose name has a signature of its kind, or hasn't
abbrev pub of_kind : Scripts → Home → Place → Name → Signature → Option Signature → Checked (Unit {0})
of_kind scripts home place name given None = broken rule.WrongType (place_in home name.place)
of_kind scripts home place name given (Some declared) = alike scripts place given declared

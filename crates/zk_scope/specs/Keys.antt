-- The types of keys.
use Rattle.std.specs.Prelude.{ℕ, List, Ok}
use Rattle.zk_tree.specs.declared.types.Param.{Param, out-Param}
use Rattle.zk_tree.specs.declared.types.Type.{«Type»}
use Rattle.zk_tree.specs.declared.place.Place.{Place}
use Rattle.zk_tree.specs.Places.{type_place}
use Rattle.zk_typed.specs.declared.script.types.SimpleType.{SimpleType}
use Rattle.zk_typed.specs.Checked.{Checked, ◌>>=◌, both, each}
use Rattle.zk_typed.specs.LoadOrder.{Home}
use Rattle.zk_typed.specs.Resolving.{Scripts, as_key, place_in, type_of, type_to}
use Rattle.zk_typed.specs.Types.{ValueType, Table}

-- what has no parts can be a key
abbrev pub keyed : Place → Checked ValueType → Checked SimpleType
keyed place checked = checked >>= as_key place

-- the type of a key, with names followed at most so deep
abbrev pub key_to : ℕ → Scripts → Home → «Type» → Checked SimpleType
key_to depth scripts home one = keyed (place_in home (type_place one)) (type_to depth scripts home one)

abbrev pub keys_to : ℕ → Scripts → Home → List «Type» → Checked (List SimpleType)
keys_to depth scripts home keys = each (key_to depth scripts home) keys

-- the type of a table by those of its keys and its values
abbrev pub tabled : Checked (List SimpleType) → Checked ValueType → Checked ValueType
tabled keys value = both keys value >>= (λ parts. Ok (Table parts.0 parts.1))

abbrev pub param_types_of : Scripts → Home → List Param → Checked (List ValueType)
param_types_of scripts home params = each (λ param. type_of scripts home (out-Param param).param_type) params

-- The columns that the fields of a record type would be.
use Rattle.std.specs.Prelude.{ℕ, List, ◌++◌, map, codes}
use Rattle.zk_typed.specs.declared.script.types.SimpleType.{SimpleType}
use Rattle.zk_typed.specs.Columns.{simple_name, type_name}
use Rattle.zk_typed.specs.LogCalls.{LeafInfo}
use Rattle.zk_typed.specs.Resolving.{FieldInfo}
use Rattle.zk_typed.specs.Types.{ValueType}
use Rattle.zk_scope.specs.declared.leaves.Leaf.{Leaf}

abbrev pub leaf_of : Leaf → LeafInfo
leaf_of leaf = record { name = leaf.name.items; kind = leaf.kind.items; wire = leaf.wire; log = leaf.log }

abbrev pub leaves_lent : List Leaf → List LeafInfo
leaves_lent leaves = map leaf_of leaves

-- a field that is no record
abbrev pub own_leaf : FieldInfo → ValueType → LeafInfo
own_leaf field one = record { name = field.name; kind = type_name one; wire = field.wire; log = field.log }

-- a key behind others in the name of a type
abbrev pub further_key : SimpleType → List ℕ
further_key key = codes "," ++ simple_name key

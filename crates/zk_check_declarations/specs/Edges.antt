-- The fields of record types, as the types to which these lead.
use Rattle.std.specs.Prelude.{ℕ, ◌==◌, List, [], ◌∷◌, flat_map, map, Ok, Err, if◌then◌else◌}
use Rattle.zk_typed.specs.Checked.{Checked}
use Rattle.zk_tree.specs.declared.name.Name.{Name}
use Rattle.zk_tree.specs.declared.types.Field.{Field}
use Rattle.zk_typed.specs.LoadOrder.{Home}
use Rattle.zk_typed.specs.Resolving.{FieldInfo, Scripts, is_that, type_named, written_field}
use Rattle.zk_typed.specs.Types.{ValueType}
use Rattle.zk_typed.specs.View.{type_of}
use Rattle.zk_check_declarations.specs.declared.edges.Edge.{Edge}

-- these at a number
abbrev pub only : {A : Type 0} → ℕ → ℕ → List A → List A
only owner number items = if owner == number then items else []

abbrev pub edge_at : ℕ → Edge → List ValueType
edge_at number edge = only edge.owner number (type_of edge.part ∷ [])

-- the types of the fields of a record type
abbrev pub edges_at : ℕ → List Edge → List ValueType
edges_at number edges = flat_map (edge_at number) edges

abbrev pub kind_of : Checked ValueType → List ValueType
kind_of (Ok one) = one ∷ []
kind_of (Err rules) = []

-- the types of fields that aren't broken
abbrev pub kinds : List FieldInfo → List ValueType
kinds fields = flat_map (λ field. kind_of field.field_type) fields

-- the fields that `redef record` adds to the record type of a number
abbrev pub redef_fields : Scripts → ℕ → Home → Name → List Field → List FieldInfo
redef_fields scripts number home name fields = if is_that number (type_named scripts home name) then map (written_field scripts home) fields else []

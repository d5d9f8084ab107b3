-- What stands within a type, by its parts.
use Rattle.std.proofs.Common.{◌≡◌, ℕ, List, [], ◌∷◌, ◌++◌, flat_map, refl, ap, ◌∙◌, append-nil}
use Rattle.zk_tree.specs.declared.types.Field.{Field, out-Field}
use Rattle.zk_tree.specs.declared.types.Param.{Param, out-Param}
use Rattle.zk_tree.specs.declared.types.Type.{«Type», out-Type}
use Rattle.zk_tree.specs.declared.types.Type as tree
use Rattle.zk_tree.specs.Opening.{trees}
use Rattle.zk_typed.specs.Within.{within}

abbrev behind : {A : Type 0} → List A → List A
behind [] = []
behind (one ∷ others) = others

set_parts : (place : ℕ) (keys : List «Type») → behind (within (tree.Set place keys)) ≡ flat_map within keys
unfolding trees
set_parts place [] = refl
set_parts place (key ∷ keys) = ap (λ more. within key ++ more) (set_parts place keys)

pub within_set : (place : ℕ) (keys : List «Type») → within (tree.Set place keys) ≡ tree.Set place keys ∷ flat_map within keys
unfolding trees
within_set place keys = ap (λ more. tree.Set place keys ∷ more) (set_parts place keys)

pub within_vector : (place : ℕ) (item : «Type») → within (tree.Vector place item) ≡ tree.Vector place item ∷ within item
unfolding trees
within_vector place item = ap (λ more. tree.Vector place item ∷ more) (append-nil (within item))

pub within_table : (place : ℕ) (keys : List «Type») (value : «Type») → within (tree.Table place keys value) ≡ tree.Table place keys value ∷ (flat_map within keys ++ within value)
unfolding trees
within_table place keys value =
    ap (λ more. tree.Table place keys value ∷ (more ++ (within value ++ []))) (set_parts place keys) ∙
    ap (λ more. tree.Table place keys value ∷ (flat_map within keys ++ more)) (append-nil (within value))

record_parts : (place : ℕ) (fields : List Field) → behind (within (tree.Record place fields)) ≡ flat_map (λ field. within (out-Field field).field_type) fields
unfolding trees
record_parts place [] = refl
record_parts place (field ∷ fields) = ap (λ more. within (out-Field field).field_type ++ more) (record_parts place fields)

pub within_record : (place : ℕ) (fields : List Field) → within (tree.Record place fields) ≡ tree.Record place fields ∷ flat_map (λ field. within (out-Field field).field_type) fields
unfolding trees
within_record place fields = ap (λ more. tree.Record place fields ∷ more) (record_parts place fields)

event_parts : (place : ℕ) (params : List Param) → behind (within (tree.Event place params)) ≡ flat_map (λ param. within (out-Param param).param_type) params
unfolding trees
event_parts place [] = refl
event_parts place (param ∷ params) = ap (λ more. within (out-Param param).param_type ++ more) (event_parts place params)

pub within_event : (place : ℕ) (params : List Param) → within (tree.Event place params) ≡ tree.Event place params ∷ flat_map (λ param. within (out-Param param).param_type) params
unfolding trees
within_event place params = ap (λ more. tree.Event place params ∷ more) (event_parts place params)

pub within_hook : (place : ℕ) (params : List Param) → within (tree.Hook place params) ≡ tree.Hook place params ∷ flat_map (λ param. within (out-Param param).param_type) params
unfolding trees
within_hook place params = ap (λ more. tree.Hook place params ∷ more) (event_parts place params)

pub within_procedure : (place : ℕ) (params : List Param) → within (tree.Procedure place params) ≡ tree.Procedure place params ∷ flat_map (λ param. within (out-Param param).param_type) params
unfolding trees
within_procedure place params = ap (λ more. tree.Procedure place params ∷ more) (event_parts place params)

pub within_function : (place : ℕ) (params : List Param) (given : «Type») →
    within (tree.Function place params given) ≡ tree.Function place params given ∷ (flat_map (λ param. within (out-Param param).param_type) params ++ within given)
unfolding trees
within_function place params given =
    ap (λ more. tree.Function place params given ∷ (more ++ (within given ++ []))) (event_parts place params) ∙
    ap (λ more. tree.Function place params given ∷ (flat_map (λ param. within (out-Param param).param_type) params ++ more)) (append-nil (within given))

pub ruleset withins = (within_set, within_vector, within_table, within_record, within_event, within_hook, within_procedure, within_function)

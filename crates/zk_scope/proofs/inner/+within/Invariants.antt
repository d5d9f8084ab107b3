use Rattle.std.proofs.Common.{◌≡◌, ◌++◌, flat_map, take}
use Rattle.zk_tree.specs.declared.types.Field.{out-Field}
use Rattle.zk_tree.specs.declared.types.Param.{out-Param}
use Rattle.zk_typed.specs.Within.{within}
use Rattle.zk_scope.specs.Lent.{types_lent}
use Rattle.zk_scope.proofs.inner.+within.Given as goal

abbrev pub invariant-within_types-loop-tree : goal.invariant-within_types-loop-tree
invariant-within_types-loop-tree l =
    types_lent l.found.items ≡ types_lent l.fn.found.items ++ flat_map within (take l.tree-index l.trees)

abbrev pub invariant-within_fields-loop-field : goal.invariant-within_fields-loop-field
invariant-within_fields-loop-field l =
    types_lent l.found.items ≡ types_lent l.fn.found.items ++ flat_map (λ field. within (out-Field field).field_type) (take l.field-index l.fields)

abbrev pub invariant-within_params-loop-param : goal.invariant-within_params-loop-param
invariant-within_params-loop-param l =
    types_lent l.found.items ≡ types_lent l.fn.found.items ++ flat_map (λ param. within (out-Param param).param_type) (take l.param-index l.params)

use Rattle.std.proofs.Common.{◌≡◌, ◌++◌, ◌+◌, ◌*◌, flat_map, take}
use Rattle.zk_typed.specs.LogCalls.{field_leaves, leaves_to}
use Rattle.zk_scope.specs.Fields.{fields_lent}
use Rattle.zk_scope.specs.Leaves.{leaves_lent}
use Rattle.zk_scope.specs.Scripted.{scripts_in}
use Rattle.zk_scope.proofs.leaves.+leafing.Given as goal

abbrev pub decreases-add_field_leaves : goal.decreases-add_field_leaves
decreases-add_field_leaves l = 3 * l.depth + 1

abbrev pub decreases-add_fields_leaves : goal.decreases-add_fields_leaves
decreases-add_fields_leaves l = 3 * l.depth + 2

abbrev pub decreases-leaves_to : goal.decreases-leaves_to
decreases-leaves_to l = 3 * l.depth

abbrev pub invariant-add_fields_leaves-loop-field : goal.invariant-add_fields_leaves-loop-field
invariant-add_fields_leaves-loop-field l =
    leaves_lent l.all.items ≡ leaves_lent l.fn.all.items ++ flat_map (field_leaves (leaves_to l.depth (scripts_in l.scripts.names))) (fields_lent (take l.field-index l.fields))

use Rattle.std.proofs.Common.{◌≡◌, ◌++◌, ◌+◌, ◌*◌, map, drop}
use Rattle.zk_typed.specs.Columns.{leaves_from, leaves_to}
use Rattle.zk_typed.specs.View.{field_of, record_of}
use Rattle.zk_lower.specs.Leaves.{leaf_of, with_records}
use Rattle.zk_lower.proofs.leaves.+leaves.Given as goal

abbrev pub invariant-leaves_to-loop-place : goal.invariant-leaves_to-loop-place
invariant-leaves_to-loop-place l =
    map leaf_of l.leaves.items ++ leaves_from (leaves_to l.within (with_records (map record_of l.records))) l.place (map field_of (drop l.place l.field-items))
    ≡ leaves_from (leaves_to l.within (with_records (map record_of l.records))) 0 (map field_of l.field-items)

abbrev pub decreases-leaves_to : goal.decreases-leaves_to
decreases-leaves_to l = 2 * l.depth

abbrev pub decreases-add_field : goal.decreases-add_field
decreases-add_field l = 2 * l.depth + 1

use Rattle.std.proofs.Common.{◌≡◌, ◌+◌, ◌*◌, map, drop, None}
use Rattle.zk_tree.specs.declared.place.Place.{Place}
use Rattle.zk_typed.specs.Objects.{copied_to, each_copied, empty_table, fields_copied}
use Rattle.zk_value.specs.Plain.{key_of, field_of}
use Rattle.zk_table.specs.Pairs.{pair_of}
use Rattle.zk_machine.specs.Copied.{pairs_copied}
use Rattle.zk_machine.specs.State.{state_of}
use Rattle.zk_machine.proofs.ThenLemmas.{gathered}
use Rattle.zk_machine.proofs.state.State.+copied.Given as goal

abbrev pub invariant-values_copied-loop-value : goal.invariant-values_copied-loop-value
invariant-values_copied-loop-value l = (place : Place) → gathered (key_of l.copies.items) (each_copied (copied_to l.depth place) (key_of (drop l.value-index l.values)) (state_of l.self))
    ≡ each_copied (copied_to l.depth place) (key_of l.values) (state_of l.fn.self)

abbrev pub invariant-fields_copied-loop-field : goal.invariant-fields_copied-loop-field
invariant-fields_copied-loop-field l = (place : Place) → gathered (map field_of l.copies.items) (fields_copied (copied_to l.depth place) (map field_of (drop l.field-index l.fields)) (state_of l.self))
    ≡ fields_copied (copied_to l.depth place) (map field_of l.fields) (state_of l.fn.self)

abbrev pub invariant-entries_copied-loop-pair : goal.invariant-entries_copied-loop-pair
invariant-entries_copied-loop-pair l = (place : Place) → pairs_copied (copied_to l.depth place) l.table (map pair_of (drop l.pair-index l.pairs)) (state_of l.self)
    ≡ pairs_copied (copied_to l.depth place) (empty_table None) (map pair_of l.pairs) (state_of l.fn.self)

abbrev pub decreases-copied : goal.decreases-copied
decreases-copied l = 5 * l.depth

abbrev pub decreases-field_copied : goal.decreases-field_copied
decreases-field_copied l = 5 * l.depth + 1

abbrev pub decreases-values_copied : goal.decreases-values_copied
decreases-values_copied l = 5 * l.depth + 2

abbrev pub decreases-fields_copied : goal.decreases-fields_copied
decreases-fields_copied l = 5 * l.depth + 2

abbrev pub decreases-entries_copied : goal.decreases-entries_copied
decreases-entries_copied l = 5 * l.depth + 2

abbrev pub decreases-put_together : goal.decreases-put_together
decreases-put_together l = 5 * l.depth + 3

abbrev pub decreases-object_copied : goal.decreases-object_copied
decreases-object_copied l = 5 * l.depth + 4

use Rattle.std.proofs.Common.{◌≡◌, Bor, List, Some, map, sym, ap, ◌∙◌}
use Rattle.zk_typed.specs.Columns as columns
use Rattle.zk_typed.specs.Columns.{value_at, value_cell}
use Rattle.zk_typed.specs.Log as log
use Rattle.zk_typed.specs.Logs.{filter_leaves, path_of, picked}
use Rattle.zk_value.specs.Plain.{value_of}
use Rattle.zk_lower.specs.Leaves.{column_of, leaf_of}
use Rattle.zk_machine.specs.Running.{stream_in}
use Rattle.zk_machine.specs.State.{cell_of}
use Rattle.zk_lower.specs.declared.leaves.Leaf.{Leaf}
use Rattle.zk_machine.proofs.ListLemmas.{map-made}
use Rattle.zk_machine.proofs.rows.row_of.Goals as goal

abbrev plain_leaf : Bor Leaf → columns.Leaf
plain_leaf leaf = leaf_of leaf.now

pub returns-clause-row : goal.returns-clause-row
returns-clause-row c = λ types is.
    let heap = c.args.world.now.heap.objects in
    let write = c.args.write.now in
    let filter = c.args.filter.now in
    let row = Some (value_of write.row) in
    let at = c.args.world.now.time in
    let kept = c.in_ok-kept.kept.items in
    let leaves : map plain_leaf kept ≡ filter_leaves types (stream_in write) filter =
    c.in_ok-kept.ensures ∙ ap (λ all. picked (picked all write.stream.columns) filter.columns) is in
    let path : c.in_ok-copy_of.field-0 ≡ path_of (stream_in write) filter = c.in_ok-copy_of.ensures ∙ c.path_of.ensures in
    let made : map column_of c.from.result ≡ map (λ leaf. leaf.column) (filter_leaves types (stream_in write) filter) =
    ap (map column_of) c.from.ensures ∙ (c.in_ok-columns_of.ensures ∙ (ap (map (λ (leaf : Bor Leaf). column_of leaf.now.column)) c.deref.ensures.value
    ∙ (sym (map-made plain_leaf (λ leaf. leaf.column) kept) ∙ ap (map (λ leaf. leaf.column)) leaves))) in
    let cell : columns.Leaf → log.Cell = λ leaf. value_cell heap (value_at heap leaf.path row) in
    let cells : map cell_of c.from-2.result ≡ map (λ leaf. value_cell heap (value_at heap leaf.path row)) (filter_leaves types (stream_in write) filter) =
    ap (map cell_of) c.from-2.ensures ∙ (c.in_ok-cells.ensures ∙ (ap (map (λ (leaf : Bor Leaf). value_cell heap (value_at heap leaf.now.path.items row))) c.deref-2.ensures.value
    ∙ (sym (map-made plain_leaf (λ leaf. value_cell heap (value_at heap leaf.path row)) kept) ∙ ap (map (λ leaf. value_cell heap (value_at heap leaf.path row))) leaves))) in
    ap (λ p. Some (record { path = p; columns = map column_of c.from.result; cells = map cell_of c.from-2.result; at = at })) path
    ∙ (ap (λ cs. Some (record { path = path_of (stream_in write) filter; columns = cs; cells = map cell_of c.from-2.result; at = at })) made
    ∙ ap (λ (cs : List log.Cell). Some (record { path = path_of (stream_in write) filter; columns = map (λ leaf. leaf.column) (filter_leaves types (stream_in write) filter); cells = cs; at = at })) cells)

use Rattle.std.proofs.Common.{◌++◌, ◌∷◌, [], Bor, Some, map, take, sym, ap, ◌∙◌}
use Rattle.std.proofs.lemmas.List.{map-append}
use Rattle.zk_typed.specs.Columns.{value_at, value_cell}
use Rattle.zk_typed.specs.Log as log
use Rattle.zk_value.specs.Plain.{value_of}
use Rattle.zk_machine.specs.State.{cell_of}
use Rattle.zk_lower.specs.declared.leaves.Leaf.{Leaf}
use Rattle.zk_machine.proofs.ListLemmas.{mapped-more}
use Rattle.zk_machine.proofs.rows.cells.Goals as goal

pub loop-leaf-preserved : goal.loop-leaf-preserved
loop-leaf-preserved c =
    let i = c.loop-leaf.leaf-index in
    let leaves = c.args.leaves.now in
    let heap = c.args.heap.now.objects in
    let row = Some (value_of c.args.row.now) in
    let cell : Bor Leaf → log.Cell = λ leaf. value_cell heap (value_at heap leaf.now.path.items row) in
    ap (map cell_of) c.in_ok-push.ensures.items
    ∙ (map-append cell_of c.loop-leaf.cells.items (c.in_ok-value_cell.field-0 ∷ [])
    ∙ (ap (λ l. l ++ cell_of c.in_ok-value_cell.field-0 ∷ []) c.loop-leaf.invariant
    ∙ (ap (λ one. map cell (take i leaves) ++ one ∷ []) (c.in_ok-value_cell.ensures ∙ ap (value_cell heap) (c.value_at.ensures ∙ ap (λ path. value_at heap path row) c.deref.ensures.value))
    ∙ sym (mapped-more cell leaves i c.leaf-item.result c.loop-leaf-test.true c.leaf-item.is))))

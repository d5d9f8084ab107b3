use Rattle.std.proofs.Common.{◌++◌, ◌∷◌, [], Bor, map, take, sym, ap, ◌∙◌}
use Rattle.std.proofs.lemmas.List.{map-append}
use Rattle.zk_typed.specs.Log as log
use Rattle.zk_lower.specs.Leaves.{column_of}
use Rattle.zk_lower.specs.declared.leaves.Leaf.{Leaf}
use Rattle.zk_machine.proofs.ListLemmas.{mapped-more}
use Rattle.zk_machine.proofs.rows.columns_of.Goals as goal

abbrev column : Bor Leaf → log.Column
column leaf = column_of leaf.now.column

pub loop-leaf-preserved : goal.loop-leaf-preserved
loop-leaf-preserved c =
    let i = c.loop-leaf.leaf-index in
    let leaves = c.args.leaves.now in
    ap (map column_of) c.in_ok-push.ensures.items
    ∙ (map-append column_of c.loop-leaf.columns.items (c.in_ok-clone.field-0 ∷ [])
    ∙ (ap (λ l. l ++ column_of c.in_ok-clone.field-0 ∷ []) c.loop-leaf.invariant
    ∙ (ap (λ one. map column (take i leaves) ++ column_of one ∷ []) c.in_ok-clone.ensures.cases
    ∙ sym (mapped-more column leaves i c.leaf-item.result c.loop-leaf-test.true c.leaf-item.is))))

use Rattle.std.proofs.Common.{List, map, take, fold, refl, sym, ap, ◌∙◌}
use Rattle.zk_tree.specs.Table.{Table, remove}
use Rattle.zk_tree.specs.Value.{Value}
use Rattle.zk_value.specs.Plain.{key_of}
use Rattle.zk_table.specs.Heap.{changed, in_table}
use Rattle.zk_machine.proofs.ListLemmas.{mapped-more}
use Rattle.zk_machine.proofs.SetLemmas.{all-more, all-none}
use Rattle.zk_machine.proofs.updates.remove_all.Goals as goal

abbrev left : Table → List Value → Table
left table key = remove key table

pub loop-key-init : goal.loop-key-init
loop-key-init c = (all-none left c.args.number.0 c.args.heap.now.objects, refl)

pub loop-key-preserved : goal.loop-key-preserved
loop-key-preserved c =
    let keys = c.args.keys.now in
    let i = c.loop-key.key-index in (
      c.remove.ensures.objects ∙ (ap (changed (in_table (remove (key_of c.key-item.result))) c.args.number.0) c.loop-key.invariant.0
          ∙ (all-more left c.args.number.0 c.args.heap.now.objects (map key_of (take i keys)) (key_of c.key-item.result)
          ∙ ap (λ (all : List (List Value)). changed (in_table (λ table. fold left table all)) c.args.number.0 c.args.heap.now.objects) (sym (mapped-more key_of keys i c.key-item.result c.loop-key-test.true c.key-item.is)))),
      c.remove.ensures.unwatched ∙ c.loop-key.invariant.1,
    )

use Rattle.std.proofs.Common.{List, true, map, take, fold, refl, sym, ap, ◌∙◌}
use Rattle.zk_tree.specs.Table.{insert}
use Rattle.zk_typed.specs.Objects.{add_member}
use Rattle.zk_tree.specs.Value as plain
use Rattle.zk_tree.specs.Value.{Value}
use Rattle.zk_value.specs.Plain.{key_of}
use Rattle.zk_table.specs.Heap.{changed, in_table}
use Rattle.zk_machine.proofs.ListLemmas.{mapped-more}
use Rattle.zk_machine.proofs.SetLemmas.{all-more, all-none}
use Rattle.zk_machine.proofs.updates.insert_all.Goals as goal

pub loop-key-init : goal.loop-key-init
loop-key-init c = (all-none (add_member c.args.now) c.args.number.0 c.args.heap.now.objects, refl)

pub loop-key-preserved : goal.loop-key-preserved
loop-key-preserved c =
    let keys = c.args.keys.now in
    let i = c.loop-key.key-index in (
      c.in_ok-insert.ensures.ok ∙ (ap (λ (key : List _). changed (in_table (insert c.args.now (key_of key) (plain.Bool true))) c.args.number.0 c.loop-key.heap.objects) c.in_ok-clone.ensures.cases
          ∙ (ap (changed (in_table (insert c.args.now (key_of c.key-item.result) (plain.Bool true))) c.args.number.0) c.loop-key.invariant.0
          ∙ (all-more (add_member c.args.now) c.args.number.0 c.args.heap.now.objects (map key_of (take i keys)) (key_of c.key-item.result)
          ∙ ap (λ (all : List (List Value)). changed (in_table (λ table. fold (add_member c.args.now) table all)) c.args.number.0 c.args.heap.now.objects) (sym (mapped-more key_of keys i c.key-item.result c.loop-key-test.true c.key-item.is))))),
      c.insert.ensures.unwatched ∙ c.loop-key.invariant.1,
    )

use Rattle.std.proofs.Common.{◌≡◌, Ok, Err, OnOk, OnErr, refl, ap, ◌∙◌}
use Rattle.zk_value.specs.Objects.{tables_in, with_tables, change_object, with_item_behind}
use Rattle.zk_value.specs.Plain.{value_of}
use Rattle.zk_value.proofs.TableLemmas.{tables_in-change}
use Rattle.zk_table.specs.Heap.{changed}
use Rattle.zk_table.proofs.HeapLemmas.{changed-with_tables}
use Rattle.zk_table.proofs.objects.Objects.push_item.Goals as goal

pub invariant_of-self : goal.invariant_of-self
invariant_of-self c =
    let change = with_item_behind (value_of c.args.item) in
    elim c.push_item.result as (λ r. OnOk r (c.push_item.new.self ≡ change_object change c.args.number.0 c.self.inside.store) → OnErr r (c.push_item.new.self ≡ c.self.inside.store) → tables_in c.push_item.new.self ≡ tables_in c.self.inside.store) [
      | Ok a ↦ λ ok err. ap tables_in ok ∙ tables_in-change c.self.inside.store c.args.number.0 change
      | Err e ↦ λ ok err. ap tables_in err
    ] c.push_item.ensures.ok c.push_item.ensures.err ∙ c.self.invariant

pub returns-clause-ok : goal.returns-clause-ok
returns-clause-ok c =
    let s = c.self.inside in
    let change = with_item_behind (value_of c.args.item) in
    elim c.push_item.result as (λ r. OnOk r (c.push_item.new.self ≡ change_object change c.args.number.0 s.store) → OnOk r (with_tables c.push_item.new.self s.tables.items ≡ changed change c.args.number.0 c.args.self.now)) [
      | Ok a ↦ λ ok. ap (λ os. with_tables os s.tables.items) ok
          ∙ (changed-with_tables change c.args.number.0 s.store s.tables.items c.self.invariant (λ table. refl)
          ∙ ap (changed change c.args.number.0) c.self.view_is)
      | Err e ↦ λ ok. ok
    ] c.push_item.ensures.ok

use Rattle.std.proofs.Common.{refl, ap, ◌∙◌}
use Rattle.zk_value.specs.Objects.{tables_in, with_tables, with_field}
use Rattle.zk_value.specs.Plain.{field_of}
use Rattle.zk_value.proofs.TableLemmas.{tables_in-change}
use Rattle.zk_table.specs.Heap.{changed}
use Rattle.zk_table.proofs.HeapLemmas.{changed-with_tables}
use Rattle.zk_table.proofs.objects.Objects.set_field.Goals as goal

pub invariant_of-self : goal.invariant_of-self
invariant_of-self c =
    ap tables_in c.set_field.ensures ∙ (tables_in-change c.self.inside.store c.args.number.0 (with_field c.args.field (field_of c.args.value)) ∙ c.self.invariant)

pub returns : goal.returns
returns c =
    let s = c.self.inside in
    let change = (with_field c.args.field (field_of c.args.value)) in
    ap (λ os. with_tables os s.tables.items) c.set_field.ensures
    ∙ (changed-with_tables change c.args.number.0 s.store s.tables.items c.self.invariant (λ table. refl)
    ∙ ap (changed change c.args.number.0) c.self.view_is)

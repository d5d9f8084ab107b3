use Rattle.std.proofs.Common.{◌++◌, ◌∷◌, [], length, None, sym, ap, ◌∙◌, arith, length-append}
use Rattle.zk_tree.specs.Store as object
use Rattle.zk_value.specs.Objects.{tables_in, with_tables}
use Rattle.zk_value.proofs.TableLemmas.{length-with_tables, table_added-with_tables}
use Rattle.zk_table.proofs.HeapLemmas.{counts_table}
use Rattle.zk_table.proofs.objects.Objects.add_table.Goals as goal

pub invariant_of-self-2 : goal.invariant_of-self-2
invariant_of-self-2 c =
    let s = c.self.inside in
    let more = ap tables_in c.in_ok-number.ensures.ok in
    let counted = counts_table s.store in
    let pushed = ap length c.in-Ok.ensures.items in
    let kept = ap length c.reserve.ensures.items in
    let one = length-append c.reserve.new.self.items (c.args.table ∷ []) in
    omega (arith, more, counted, pushed, kept, one, c.self.invariant)

pub returns-clause-number : goal.returns-clause-number
returns-clause-number c =
    let s = c.self.inside in
    c.in_ok-number.ensures.number ∙ (sym (length-with_tables s.store s.tables.items) ∙ ap length c.self.view_is)

pub returns-clause-ok : goal.returns-clause-ok
returns-clause-ok c =
    let s = c.self.inside in
    let tables = c.in-Ok.ensures.items ∙ ap (λ ts. ts ++ c.args.table ∷ []) c.reserve.ensures.items in
    ap (λ os. with_tables os c.push.new.self.items) c.in_ok-number.ensures.ok
    ∙ (ap (with_tables (s.store ++ None ∷ [])) tables
    ∙ (table_added-with_tables s.store s.tables.items c.args.table c.self.invariant
    ∙ ap (λ os. os ++ object.Table c.args.table ∷ []) c.self.view_is))

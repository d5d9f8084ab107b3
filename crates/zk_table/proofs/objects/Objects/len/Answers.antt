use Rattle.std.proofs.Common.{length, ap, sym, ◌∙◌}
use Rattle.zk_value.proofs.TableLemmas.{length-with_tables}
use Rattle.zk_table.proofs.objects.Objects.len.Goals as goal

pub returns : goal.returns
returns c =
    let s = c.self.inside in
    c.len.ensures ∙ (sym (length-with_tables s.store s.tables.items) ∙ ap length c.self.view_is)

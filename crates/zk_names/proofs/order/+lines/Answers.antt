use Rattle.std.proofs.Common.{ap, sym, ◌∙◌, ◌++◌, flat_map, true}
use Rattle.zk_typed.specs.LoadOrder.{decl_lines}
use Rattle.zk_names.specs.Lines.{lines_lent}
use Rattle.zk_names.proofs.LineLaws.{export_lines}
use Rattle.zk_names.proofs.order.+lines.Goals as goal

pub decl_lines-returns-in_ok-decls_lines-in-Export : goal.decl_lines-returns-in_ok-decls_lines-in-Export
decl_lines-returns-in_ok-decls_lines-in-Export t c =
    c.in_ok-decls_lines-in-Export.ensures ∙
    ap (λ x. lines_lent c.args.lines.now.items ++ x) (ap (flat_map (decl_lines true)) c.as_slice.ensures ∙ sym (export_lines c.args.exported c.in-Export.place c.in-Export.decls) ∙ ap (decl_lines c.args.exported) (sym c.in-Export.is))

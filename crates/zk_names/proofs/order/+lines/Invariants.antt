use Rattle.std.proofs.Common.{◌≡◌, ◌++◌, flat_map, take}
use Rattle.zk_typed.specs.LoadOrder.{decl_lines}
use Rattle.zk_names.specs.Lines.{lines_lent}
use Rattle.zk_names.proofs.order.+lines.Given as goal

abbrev pub invariant-decls_lines-loop-decl : goal.invariant-decls_lines-loop-decl
invariant-decls_lines-loop-decl l =
    lines_lent l.lines.items ≡ lines_lent l.fn.lines.items ++ flat_map (decl_lines l.exported) (take l.decl-index l.decls)

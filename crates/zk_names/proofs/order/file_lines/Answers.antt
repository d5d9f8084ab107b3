use Rattle.std.proofs.Common.{List, ℕ, flat_map, ap, sym, ◌∙◌, refl}
use Rattle.zk_tree.specs.declared.decl.Tree.{Tree}
use Rattle.zk_typed.specs.LoadOrder.{decl_lines}
use Rattle.zk_names.proofs.LineLaws.{decls_of_at, decls_of_past}
use Rattle.zk_names.proofs.order.file_lines.Goals as goal

pub returns-in_ok-decls_lines-in-Some : goal.returns-in_ok-decls_lines-in-Some
returns-in_ok-decls_lines-in-Some c =
    let h = c.in-Some.ensures.lookup in
    rw (c.in_ok-decls_lines-in-Some.ensures, c.new-found.ensures.items)
    (ap (flat_map (decl_lines c.args.exported))
    (c.as_slice.ensures ∙ ap (λ (one : List ℕ × Tree). one.1.decls) h.1 ∙ sym (decls_of_at c.args.files.now c.args.file c.in-Some.entry.now h.3.0)))

pub returns-in-None : goal.returns-in-None
returns-in-None c = rw (c.new-found.ensures.items, decls_of_past c.args.files.now c.args.file c.in-None.ensures.lookup.3) refl

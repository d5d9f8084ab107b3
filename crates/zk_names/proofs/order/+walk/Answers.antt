use Rattle.std.proofs.Common.{ap, ◌∙◌}
use Rattle.zk_tree.specs.Opening.{trees}
use Rattle.zk_typed.specs.LoadOrder.{load, walk_to}
use Rattle.zk_scope.specs.Lent.{files_of}
use Rattle.zk_names.specs.Lines.{found_of}
use Rattle.zk_names.proofs.order.+walk.Goals as goal

pub one_line-returns-in_ok-load-in-Load : goal.one_line-returns-in_ok-load-in-Load
unfolding trees
one_line-returns-in_ok-load-in-Load t c =
    rw c.in-Load.is
    (c.in_ok-load-in-Load.ensures ∙
    ap (load (walk_to c.args.depth (files_of c.args.files.now)) c.args.line.exported (found_of c.args.found.now)) c.file_named-number.ensures)

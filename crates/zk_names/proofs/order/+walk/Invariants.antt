use Rattle.std.proofs.Common.{◌≡◌, ◌+◌, ◌*◌, ◌-◌, take}
use Rattle.std.specs.List.{fold}
use Rattle.zk_typed.specs.LoadOrder.{one_line, walk_to}
use Rattle.zk_scope.specs.Lent.{files_of}
use Rattle.zk_names.specs.Lines.{found_of, lines_lent}
use Rattle.zk_names.proofs.order.+walk.Given as goal

abbrev pub decreases-walk : goal.decreases-walk
decreases-walk l = 3 * l.depth

abbrev pub decreases-one_line : goal.decreases-one_line
decreases-one_line l = 3 * l.depth + 2

abbrev pub decreases-load : goal.decreases-load
decreases-load l = 3 * l.depth + 1

abbrev pub invariant-walk-loop-line : goal.invariant-walk-loop-line
invariant-walk-loop-line l =
    found_of l.found ≡ fold (one_line (walk_to (l.depth - 1) (files_of l.files)) (files_of l.files) l.file) (found_of l.fn.found) (lines_lent (take l.line-index l.line-items))

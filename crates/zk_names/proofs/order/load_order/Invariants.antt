use Rattle.std.proofs.Common.{◌≡◌, length, drop}
use Rattle.zk_typed.specs.LoadOrder.{roots, walk_to, load_order}
use Rattle.zk_scope.specs.Lent.{files_of}
use Rattle.zk_names.specs.Lines.{found_of}
use Rattle.zk_names.proofs.order.load_order.Given as goal

abbrev pub invariant-loop-number : goal.invariant-loop-number
invariant-loop-number l =
    (roots (walk_to (length (files_of l.files)) (files_of l.files)) l.number (found_of l.found) (drop l.number (files_of l.files))).stated ≡ load_order (files_of l.files)

use Rattle.std.proofs.Common.{List, ◌++◌, take}
use Rattle.zk_typed.specs.Errors.{PathUse}
use Rattle.zk_check_declarations.specs.Paths.{HasPaths, uses_lent}
use Rattle.zk_check_declarations.proofs.paths.Paths.add_all.Given as goal

abbrev pub invariant-loop-one : goal.invariant-loop-one
invariant-loop-one l = (before : List PathUse) → HasPaths l.fn.self before → HasPaths l.self (before ++ uses_lent (take l.one-index l.uses))

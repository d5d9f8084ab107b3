use Rattle.std.proofs.Common.{◌≡◌, List, drop}
use Rattle.std.specs.List.{list_all}
use Rattle.zk_typed.specs.Errors.{PathUse, agrees}
use Rattle.zk_check_declarations.specs.Paths.{HasPaths, use_of, uses_lent}
use Rattle.zk_check_declarations.proofs.paths.Paths.all_agree.Given as goal

abbrev pub invariant-loop-one : goal.invariant-loop-one
invariant-loop-one l = (before : List PathUse) → HasPaths l.self before →
    list_all (λ one. agrees before (use_of one)) (drop l.one-index l.uses) ≡ list_all (agrees before) (uses_lent l.uses)

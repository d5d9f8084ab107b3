use Rattle.std.proofs.Common.{◌≡◌, filter, not, take}
use Rattle.zk_typed.specs.Declarations.{is_mark}
use Rattle.zk_check_declarations.proofs.variables.unmarked.Given as goal

abbrev pub invariant-loop-one : goal.invariant-loop-one
invariant-loop-one l = l.others ≡ filter (λ one. not (is_mark one)) (take l.one-index l.rules)

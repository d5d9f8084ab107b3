use Rattle.std.proofs.Common.{◌≡◌, drop}
use Rattle.zk_typed.specs.Blind as spec
use Rattle.zk_typed.specs.View as view
use Rattle.zk_blind.specs.Givens.{all_given}
use Rattle.zk_blind.proofs.reads.+expr.Given as goal

abbrev pub invariant-exprs_blind-loop-one : goal.invariant-exprs_blind-loop-one
invariant-exprs_blind-loop-one l =
    spec.exprs_blind (view.program_of l.program) (view.all_of (drop l.one-index l.all)) ≡ spec.exprs_blind (view.program_of l.program) (view.all_of l.all)

abbrev pub invariant-givens_blind-loop-one : goal.invariant-givens_blind-loop-one
invariant-givens_blind-loop-one l =
    spec.givens_blind (view.program_of l.program) (all_given (drop l.one-index l.all)) ≡ spec.givens_blind (view.program_of l.program) (all_given l.all)

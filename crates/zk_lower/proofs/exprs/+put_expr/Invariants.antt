use Rattle.std.proofs.Common.{◌≡◌, ◌++◌, drop}
use Rattle.zk_typed.specs.View.{all_of}
use Rattle.zk_lower.specs.Lowering.{exprs_code, givens_code}
use Rattle.zk_lower.specs.View.{givens_in}
use Rattle.zk_lower.proofs.exprs.+put_expr.Given as goal

abbrev pub invariant-put_exprs-loop-index : goal.invariant-put_exprs-loop-index
invariant-put_exprs-loop-index l = l.tail ≡ exprs_code l.place (all_of (drop l.index l.exprs)) ++ l.initial.tail

abbrev pub invariant-put_givens-loop-index : goal.invariant-put_givens-loop-index
invariant-put_givens-loop-index l = l.tail ≡ givens_code l.place (givens_in (drop l.index l.given)) ++ l.initial.tail

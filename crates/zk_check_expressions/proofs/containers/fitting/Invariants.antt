use Rattle.std.proofs.Common.{◌≡◌, drop}
use Rattle.zk_check_operators.specs.Views.{typed_all}
use Rattle.zk_check_expressions.specs.Members.{keys_same}
use Rattle.zk_check_expressions.proofs.containers.fitting.Given as goal

abbrev pub invariant-loop-one : goal.invariant-loop-one
invariant-loop-one l = keys_same l.others (typed_all (drop l.one-index l.ones)) ≡ keys_same l.keys (typed_all l.ones)

use Rattle.std.proofs.Common.{◌≡◌, drop, map}
use Rattle.zk_check_operators.specs.Views.{all_typed}
use Rattle.zk_check_expressions.specs.Members.{all_same}
use Rattle.zk_check_expressions.proofs.containers.all_fit.Given as goal

abbrev pub invariant-loop-one : goal.invariant-loop-one
invariant-loop-one l = all_same l.count l.keys (map all_typed (drop l.one-index l.members)) ≡ all_same l.count l.keys (map all_typed l.members)

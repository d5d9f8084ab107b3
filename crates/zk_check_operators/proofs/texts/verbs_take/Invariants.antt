use Rattle.std.proofs.Common.{◌≡◌, drop}
use Rattle.zk_typed.specs.Making as spec
use Rattle.zk_check_operators.specs.Views.{typed_all}
use Rattle.zk_check_operators.proofs.texts.verbs_take.Given as goal

abbrev pub invariant-loop-verb : goal.invariant-loop-verb
invariant-loop-verb l = spec.verbs_take (drop l.verb-index l.verbs) (typed_all l.others) ≡ spec.verbs_take l.verbs (typed_all l.values)

use Rattle.std.proofs.Common.{◌≡◌, drop}
use Rattle.zk_typed.specs.Making as making
use Rattle.zk_typed.specs.View.{type_of}
use Rattle.zk_check_operators.specs.Views.{typed_all}
use Rattle.zk_check_operators.proofs.membership.types_same.Given as goal

abbrev pub invariant-loop-other : goal.invariant-loop-other
invariant-loop-other l = making.types_same (type_of l.one) (typed_all (drop l.other-index l.others)) ≡ making.types_same (type_of l.one) (typed_all l.others)

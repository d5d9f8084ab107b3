use Rattle.std.proofs.Common.{◌≡◌, length}
use Rattle.std.specs.Vec.Iter.{into_iter_items, into_iter_len}
use Rattle.zk_check_operators.specs.Views.{typed_all}
use Rattle.zk_typed.specs.Typing as spec
use Rattle.zk_check_expressions.proofs.KeyLaws.{behind}
use Rattle.zk_check_expressions.proofs.membership.as_keys.Given as goal

abbrev pub invariant-loop-one : goal.invariant-loop-one
invariant-loop-one l =
    (into_iter_len l.one-iterator ≡ length (into_iter_items l.one-iterator)) ×
    (behind (typed_all l.fitting.items) (spec.as_keys l.others (typed_all (into_iter_items l.one-iterator))) ≡ spec.as_keys l.types (typed_all l.fn.keys.items))

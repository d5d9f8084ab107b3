use Rattle.std.proofs.Common.{◌≡◌, ◌++◌, length, map}
use Rattle.std.specs.Vec.Iter.{into_iter_items, into_iter_len}
use Rattle.zk_check_operators.specs.Views.{typed_all, all_typed}
use Rattle.zk_typed.specs.Making as making
use Rattle.zk_check_expressions.proofs.members.joined.Given as goal

abbrev pub invariant-loop-one : goal.invariant-loop-one
invariant-loop-one l =
    (into_iter_len l.one-iterator ≡ length (into_iter_items l.one-iterator)) ×
    (typed_all l.all.items ++ making.joined (map all_typed (into_iter_items l.one-iterator)) ≡ making.joined (map all_typed l.fn.members.items))

use Rattle.std.proofs.Common.{◌≡◌, List, length}
use Rattle.std.specs.Vec.Iter.{into_iter_items, into_iter_len}
use Rattle.zk_check_operators.specs.Views.{typed_all}
use Rattle.zk_typed.specs.Making as making
use Rattle.zk_check_expressions.specs.Envs.{env_of}
use Rattle.zk_check_expressions.proofs.Matching.{GoesOn}
use Rattle.zk_check_expressions.proofs.elements.fitted_keys.Given as goal

abbrev pub invariant-loop-one : goal.invariant-loop-one
invariant-loop-one l =
    (into_iter_len l.one-iterator ≡ length (into_iter_items l.one-iterator)) ×
    GoesOn l.all (making.fitted_keys (env_of l.env) l.keys_left l.written_left (typed_all (into_iter_items l.one-iterator)))
    (making.fitted_keys (env_of l.env) l.keys l.written (typed_all l.fn.values.items))

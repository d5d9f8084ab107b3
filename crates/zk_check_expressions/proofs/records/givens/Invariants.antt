use Rattle.std.proofs.Common.{◌≡◌, length, map}
use Rattle.std.specs.Vec.Iter.{into_iter_items, into_iter_len}
use Rattle.zk_typed.specs.Making as making
use Rattle.zk_check_expressions.specs.Envs.{env_of}
use Rattle.zk_check_expressions.specs.Records.{given_of}
use Rattle.zk_check_expressions.proofs.Once.{given_behind}
use Rattle.zk_check_expressions.proofs.records.givens.Given as goal

abbrev pub invariant-loop-one : goal.invariant-loop-one
invariant-loop-one l =
    (into_iter_len l.one-iterator ≡ length (into_iter_items l.one-iterator)) ×
    (given_behind l.all (making.givens (env_of l.env) (map given_of (into_iter_items l.one-iterator))) ≡ making.givens (env_of l.env) (map given_of l.fn.given.items))

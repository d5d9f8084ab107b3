use Rattle.std.proofs.Common.{map, take}
use Rattle.zk_check_expressions.specs.Marks.{Marks}
use Rattle.zk_check_expressions.proofs.records.given_numbers.Given as goal

abbrev pub invariant-loop-one : goal.invariant-loop-one
invariant-loop-one l = Marks l.marked (map (λ one. one.number) (take l.one-index l.given))

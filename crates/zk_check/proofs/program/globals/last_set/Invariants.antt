use Rattle.std.proofs.Common.{◌≡◌, ◌≤◌, [], drop, take}
use Rattle.zk_typed.specs.Programs.{since_set}
use Rattle.zk_check_declarations.specs.Valuing.{given_lent}
use Rattle.zk_check.proofs.program.globals.last_set.Given as goal

abbrev pub invariant-loop-index : goal.invariant-loop-index
invariant-loop-index l = record {
  below : l.start ≤ l.index;
  same : since_set (drop l.start (take l.index (given_lent l.all))) (drop l.index (given_lent l.all)) ≡ since_set [] (given_lent l.all);
}

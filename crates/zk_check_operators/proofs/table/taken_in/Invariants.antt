use Rattle.std.proofs.Common.{◌≡◌, drop}
use Rattle.zk_check_operators.specs.Rows.{taken_by}
use Rattle.zk_check_operators.proofs.table.taken_in.Given as goal

abbrev pub invariant-loop-row : goal.invariant-loop-row
invariant-loop-row l = taken_by l.operator l.left (drop l.row-index l.rows) ≡ taken_by l.operator l.left l.rows

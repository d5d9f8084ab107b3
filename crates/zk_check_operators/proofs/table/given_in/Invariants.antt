use Rattle.std.proofs.Common.{◌≡◌, drop}
use Rattle.zk_check_operators.specs.Rows.{given_by}
use Rattle.zk_check_operators.proofs.table.given_in.Given as goal

abbrev pub invariant-loop-row : goal.invariant-loop-row
invariant-loop-row l = given_by l.operator l.left l.right (drop l.row-index l.rows) ≡ given_by l.operator l.left l.right l.rows

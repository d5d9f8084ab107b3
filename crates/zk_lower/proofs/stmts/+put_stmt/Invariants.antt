use Rattle.std.proofs.Common.{◌≡◌, ◌≤◌, ◌++◌, drop, map, length}
use Rattle.zk_typed.specs.View.{stmt_of, stmts_of}
use Rattle.zk_lower.specs.Lowering.{stmts_code}
use Rattle.zk_lower.specs.View.{exits_at}
use Rattle.zk_lower.proofs.stmts.+put_stmt.Given as goal

abbrev pub invariant-put_stmts-loop-index : goal.invariant-put_stmts-loop-index
invariant-put_stmts-loop-index l = l.ways.break_at ≤ length l.initial.tail → l.ways.next_at ≤ length l.initial.tail → l.tail ≡ stmts_code (exits_at l.ways (length l.initial.tail)) (stmts_of (map stmt_of (drop l.index l.stmts))) ++ l.initial.tail

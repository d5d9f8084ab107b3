use Rattle.zk_parse.proofs.stmts.+nested_stmt.Given as goal

abbrev pub decreases-nested_stmt : goal.decreases-nested_stmt
decreases-nested_stmt l = l.depth

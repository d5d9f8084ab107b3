use Rattle.zk_parse_expressions.proofs.operands.+nested_expr.Given as goal

abbrev pub decreases-nested_expr : goal.decreases-nested_expr
decreases-nested_expr l = l.depth

use Rattle.zk_parse.proofs.decls.+nested_decl.Given as goal

abbrev pub decreases-nested_decl : goal.decreases-nested_decl
decreases-nested_decl l = l.depth

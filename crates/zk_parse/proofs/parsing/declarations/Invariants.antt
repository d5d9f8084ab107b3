use Rattle.std.proofs.Common.{length}
use Rattle.zk_parse.proofs.TreeLaws.{IsReadTo}
use Rattle.zk_parse.proofs.parsing.declarations.Given as goal

abbrev pub invariant-decls : goal.invariant-decls
invariant-decls l = IsReadTo l.tokens l.decls l.rest

abbrev pub decreases-decls : goal.decreases-decls
decreases-decls l = length l.rest

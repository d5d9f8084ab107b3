use Rattle.zk_logs.proofs.ClosingLemmas.{Closes}
use Rattle.zk_logs.proofs.PieceLemmas.{path_of}
use Rattle.zk_logs.proofs.logs.LogFiles.close.Given as goal

abbrev pub invariant-logs : goal.invariant-logs
invariant-logs g l = Closes path_of l.fn.at l.fn.self.pieces.entries l.path-iterator (g.S.Shelf.outside l.fn.shelf) (g.S.Shelf.outside l.shelf)

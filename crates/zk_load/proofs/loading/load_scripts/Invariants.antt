use Rattle.std.proofs.Common.{◌-◌, length}
use Rattle.zk_load.proofs.LoadLaws.{IsLoading}
use Rattle.zk_load.proofs.loading.load_scripts.Given as goal

abbrev pub invariant-files : goal.invariant-files
invariant-files g l = IsLoading l.fn.before l.names (g.S.Shelf.outside l.initial.shelf) l.scripts (g.S.Shelf.outside l.shelf)

-- each turn reads a script
abbrev pub decreases-files : goal.decreases-files
decreases-files g l = l.most - length l.scripts.read.items

use Rattle.std.proofs.Common.{◌≡◌, take}
use Rattle.zk_streams.proofs.kept.Kept.filters.Given as goal

abbrev pub invariant-loop-filter : goal.invariant-loop-filter
invariant-loop-filter l = l.filters.items ≡ take l.filter-index l.self.filters

use Rattle.std.proofs.Common.{◌≡◌, ℕ, ◌<◌}
use Rattle.std.specs.BTreeMap.{btree_map_len}
use Rattle.zk_reasm.specs.Pages.{page_at}
use Rattle.zk_reasm.proofs.pages.Pages.drop_pages.Given as goal

-- the pages below the number stay
abbrev pub invariant-loop-key : goal.invariant-loop-key
invariant-loop-key l = (key : ℕ) → key < l.least → page_at l.self key ≡ page_at l.initial.self key

abbrev pub decreases-loop-key : goal.decreases-loop-key
decreases-loop-key l = btree_map_len l.self.pages

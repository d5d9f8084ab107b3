-- The pages of a table.
use Rattle.std.specs.Prelude.{ℕ, ◌*◌, ◌+◌, ◌≤◌, IsSome}
use Rattle.std.specs.Ordering.{nat_cmp}
use Rattle.std.specs.BTreeMap as tree
use Rattle.zk_reasm.specs.declared.page.Page.{Page}
use Rattle.zk_reasm.specs.declared.page.TheConstants.{PAGE_LEN}
use Rattle.zk_reasm.specs.declared.place.TheConstants.{PLACES}

-- each page has places that there are
abbrev pub AreWithin : tree.BTreeMap ℕ Page → Type 0
AreWithin pages = (key : ℕ) → IsSome (tree.get nat_cmp pages key) → (key + 1) * PAGE_LEN ≤ PLACES

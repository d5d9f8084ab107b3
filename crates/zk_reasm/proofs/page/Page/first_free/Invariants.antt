use Rattle.std.proofs.Common.{ℕ, ◌-◌, ◌<◌, ◌≤◌, IsSome}
use Rattle.zk_reasm.specs.declared.page.TheConstants.{PAGE_LEN}
use Rattle.zk_reasm.specs.Page.{byte_on}
use Rattle.zk_reasm.proofs.page.Page.first_free.Given as goal

-- each place passed has a byte
abbrev pub invariant-loop-at : goal.invariant-loop-at
invariant-loop-at l = record {
  least : l.from ≤ l.at;
  within : l.at ≤ PAGE_LEN;
  before : (at : ℕ) → l.from ≤ at → at < l.at → IsSome (byte_on l.self at);
}

abbrev pub decreases-loop-at : goal.decreases-loop-at
decreases-loop-at l = PAGE_LEN - l.at

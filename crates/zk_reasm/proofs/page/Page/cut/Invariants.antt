use Rattle.std.proofs.Common.{◌≡◌, ℕ, ◌<◌, ◌≤◌, None}
use Rattle.zk_reasm.specs.Page.{byte_on}
use Rattle.zk_reasm.proofs.page.Page.cut.Given as goal

-- each place passed has no byte, and the others are as they were
abbrev pub invariant-loop-at : goal.invariant-loop-at
invariant-loop-at l = record {
  below : (at : ℕ) → at < l.from → byte_on l.self at ≡ byte_on l.initial.self at;
  passed : (at : ℕ) → l.from ≤ at → at < l.at → byte_on l.self at ≡ None;
}

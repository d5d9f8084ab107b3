use Rattle.std.proofs.Common.{◌≡◌, ℕ, ◌<◌, ◌≤◌, None}
use Rattle.zk_reasm.specs.Page.{byte_on}
use Rattle.zk_reasm.proofs.page.Page.first_held.Given as goal

-- no place passed has a byte
abbrev pub invariant-loop-at : goal.invariant-loop-at
invariant-loop-at l = (at : ℕ) → l.from ≤ at → at < l.at → byte_on l.self at ≡ None

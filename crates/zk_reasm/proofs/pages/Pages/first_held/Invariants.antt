use Rattle.std.proofs.Common.{◌≡◌, ℕ, ◌-◌, ◌<◌, ◌≤◌, None}
use Rattle.zk_reasm.specs.declared.place.TheConstants.{PLACES}
use Rattle.zk_reasm.specs.Pages.{byte_paged}
use Rattle.zk_reasm.proofs.pages.Pages.first_held.Given as goal

-- no place passed has a byte
abbrev pub invariant-loop-key : goal.invariant-loop-key
invariant-loop-key l = record {
  order : l.initial.from ≤ l.from;
  within : l.from ≤ PLACES;
  before : (at : ℕ) → l.initial.from ≤ at → at < l.from → byte_paged l.self at ≡ None;
}

abbrev pub decreases-loop-key : goal.decreases-loop-key
decreases-loop-key l = PLACES - l.from

use Rattle.std.proofs.Common.{◌≡◌, ℕ, ◌-◌, ◌<◌, ◌≤◌, None, IsSome}
use Rattle.zk_reasm.specs.declared.place.TheConstants.{PLACES}
use Rattle.zk_reasm.specs.Pages.{byte_paged}
use Rattle.zk_reasm.proofs.pages.Pages.first_free.Given as goal

-- each place passed has a byte
abbrev pub invariant-loop-place : goal.invariant-loop-place
invariant-loop-place l = record {
  least : l.from ≤ l.place;
  order : l.place ≤ l.next;
  within : l.next ≤ PLACES;
  before : (at : ℕ) → l.from ≤ at → at < l.next → IsSome (byte_paged l.self at);
  free : l.next ≡ l.place → byte_paged l.self l.place ≡ None;
}

abbrev pub decreases-loop-place : goal.decreases-loop-place
decreases-loop-place l = PLACES - l.place

use Rattle.std.proofs.Common.{◌≡◌, ◌-◌, ◌≤◌, max}
use Rattle.zk_reasm.specs.declared.place.TheConstants.{PLACES}
use Rattle.zk_reasm.specs.Pages.{byte_paged}
use Rattle.zk_reasm.specs.Between.{held_between}
use Rattle.zk_reasm.proofs.pages.Pages.count.Given as goal

-- the places passed are counted
abbrev pub invariant-loop-place : goal.invariant-loop-place
invariant-loop-place l = record {
  order : l.initial.from ≤ l.from;
  end : l.from ≤ max l.initial.from l.to;
  count : l.count ≡ held_between (byte_paged l.self) l.initial.from l.from;
  within : l.count ≤ l.from - l.initial.from;
}

abbrev pub decreases-loop-place : goal.decreases-loop-place
decreases-loop-place l = PLACES - l.from

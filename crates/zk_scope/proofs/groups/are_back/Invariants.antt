use Rattle.std.proofs.Common.{◌≡◌, ◌<◌, ℕ, true, Some, slice_get}
use Rattle.zk_scope.specs.declared.groups.Link.{Link}
use Rattle.zk_scope.specs.Grouping.{is_back}
use Rattle.zk_scope.proofs.groups.are_back.Given as goal

abbrev pub invariant-loop-place : goal.invariant-loop-place
invariant-loop-place l = (place : ℕ) (link : Link) → place < l.place → slice_get l.links place ≡ Some link → is_back l.steps l.links place link ≡ true

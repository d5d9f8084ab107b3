use Rattle.std.proofs.Common.{◌≡◌, ◌<◌, ℕ, true, Some, slice_get}
use Rattle.zk_scope.specs.declared.groups.Link.{Link}
use Rattle.zk_scope.specs.Grouping.{are_no_higher}
use Rattle.zk_scope.specs.Indexing.{items_at}
use Rattle.zk_scope.proofs.groups.are_ranked.Given as goal

abbrev pub invariant-loop-place : goal.invariant-loop-place
invariant-loop-place l = (place : ℕ) (link : Link) → place < l.place → slice_get l.links place ≡ Some link → are_no_higher l.links link.rank (items_at l.steps place) ≡ true

use Rattle.std.proofs.Common.{◌≡◌, ◌<◌, ℕ, List, true, Some, slice_get}
use Rattle.zk_typed.specs.Names.{Declared}
use Rattle.zk_scope.specs.declared.groups.Link.{Link}
use Rattle.zk_scope.specs.Grouping.{AreFirsts, first_of, is_low}
use Rattle.zk_scope.proofs.groups.are_low.Given as goal

abbrev pub invariant-loop-place : goal.invariant-loop-place
invariant-loop-place l = (names : List Declared) → AreFirsts l.firsts names → (place : ℕ) (link : Link) → place < l.place → slice_get l.links place ≡ Some link →
    is_low link.rank (slice_get l.lows (first_of names (slice_get names place))) ≡ true

use Rattle.std.proofs.Common.{◌≡◌, ◌<◌, ◌&&◌, ℕ, nat_le, true, Some, slice_get}
use Rattle.zk_typed.specs.Resolving.{Scripts}
use Rattle.zk_scope.specs.declared.ends.End.{End}
use Rattle.zk_scope.specs.Ends.{AreNexts, is_end, next_at}
use Rattle.zk_scope.proofs.ends.are_ends.Given as goal

abbrev pub invariant-loop-place : goal.invariant-loop-place
invariant-loop-place l = (scripts : Scripts) → AreNexts l.nexts scripts → (place : ℕ) (end : End) → place < l.place → slice_get l.ends place ≡ Some end →
    (nat_le end.steps l.most && is_end l.ends place (next_at scripts place) end) ≡ true

use Rattle.std.proofs.Common.{◌≡◌, ◌+◌, ◌-◌, ℕ, length}
use Rattle.zk_table.specs.Dues.{is_watched}
use Rattle.zk_table.proofs.watched.make_mark.Given as goal

abbrev pub invariant-loop-unwatched : goal.invariant-loop-unwatched
invariant-loop-unwatched l = (other : ℕ) → is_watched l.unwatched.items other ≡ is_watched l.initial.unwatched.items other

abbrev pub decreases-loop-unwatched : goal.decreases-loop-unwatched
decreases-loop-unwatched l = (l.number + 1) - length l.unwatched.items

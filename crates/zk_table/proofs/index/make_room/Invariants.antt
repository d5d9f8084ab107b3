use Rattle.std.proofs.Common.{ℕ, ◌+◌, ◌-◌, ◌≤◌, Option, length}
use Rattle.zk_base.specs.declared.time.Moment.{Moment}
use Rattle.zk_table.specs.Index.{IsTree}
use Rattle.zk_table.proofs.index.make_room.Given as goal

abbrev pub invariant-loop-firsts : goal.invariant-loop-firsts
invariant-loop-firsts l =
    (length l.initial.firsts.items ≤ length l.firsts.items)
    × ((turns : ℕ → Option (Moment × ℕ)) → IsTree turns l.initial.firsts.items → IsTree turns l.firsts.items)

abbrev pub decreases-loop-firsts : goal.decreases-loop-firsts
decreases-loop-firsts l = (l.place + 1) - length l.firsts.items

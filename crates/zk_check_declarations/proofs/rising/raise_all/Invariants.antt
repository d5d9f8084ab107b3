use Rattle.std.proofs.Common.{◌≡◌, ℕ, nat_lt, ◌||◌, take}
use Rattle.std.specs.List.{list_any}
use Rattle.zk_check_declarations.specs.Edges.{edges_at}
use Rattle.zk_check_declarations.specs.Heights.{height_at, is_raised}
use Rattle.zk_check_declarations.proofs.rising.raise_all.Given as goal

abbrev pub invariant-loop-edge : goal.invariant-loop-edge
invariant-loop-edge l = (number most : ℕ) →
    nat_lt most (height_at l.next number) ≡ nat_lt most (height_at l.fn.next number) || list_any (is_raised l.heights.heights.items most) (edges_at number (take l.edge-index l.edges))

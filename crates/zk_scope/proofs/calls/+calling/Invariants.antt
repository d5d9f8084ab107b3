use Rattle.std.proofs.Common.{◌≡◌, ◌++◌, ◌+◌, ◌*◌, take}
use Rattle.zk_typed.specs.LogCalls.{expr_calls_to}
use Rattle.zk_scope.specs.Calls.{calls_lent, exprs_calls, items_calls, links_calls, parts_calls}
use Rattle.zk_scope.specs.Lent.{home_of}
use Rattle.zk_scope.proofs.calls.+calling.Given as goal

abbrev pub invariant-add_exprs_calls-loop-one : goal.invariant-add_exprs_calls-loop-one
invariant-add_exprs_calls-loop-one l =
    calls_lent l.found.items ≡ calls_lent l.fn.found.items ++ exprs_calls (expr_calls_to l.depth (home_of l.home)) (take l.one-index l.ones)

abbrev pub invariant-add_items_calls-loop-item : goal.invariant-add_items_calls-loop-item
invariant-add_items_calls-loop-item l =
    calls_lent l.found.items ≡ calls_lent l.fn.found.items ++ items_calls (expr_calls_to l.depth (home_of l.home)) (take l.item-index l.items)

abbrev pub invariant-add_links_calls-loop-link : goal.invariant-add_links_calls-loop-link
invariant-add_links_calls-loop-link l =
    calls_lent l.found.items ≡ calls_lent l.fn.found.items ++ links_calls (expr_calls_to l.depth (home_of l.home)) (take l.link-index l.links)

abbrev pub invariant-add_parts_calls-loop-part : goal.invariant-add_parts_calls-loop-part
invariant-add_parts_calls-loop-part l =
    calls_lent l.found.items ≡ calls_lent l.fn.found.items ++ parts_calls l.depth (home_of l.home) (take l.part-index l.parts)

abbrev pub decreases-add_expr_calls : goal.decreases-add_expr_calls
decreases-add_expr_calls l = 4 * l.depth

abbrev pub decreases-add_exprs_calls : goal.decreases-add_exprs_calls
decreases-add_exprs_calls l = 4 * l.depth + 1

abbrev pub decreases-add_items_calls : goal.decreases-add_items_calls
decreases-add_items_calls l = 4 * l.depth + 1

abbrev pub decreases-add_links_calls : goal.decreases-add_links_calls
decreases-add_links_calls l = 4 * l.depth + 1

abbrev pub decreases-add_part_calls : goal.decreases-add_part_calls
decreases-add_part_calls l = 4 * l.depth + 2

abbrev pub decreases-add_parts_calls : goal.decreases-add_parts_calls
decreases-add_parts_calls l = 4 * l.depth + 3

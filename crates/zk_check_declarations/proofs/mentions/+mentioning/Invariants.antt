use Rattle.std.proofs.Common.{◌+◌, ◌*◌}
use Rattle.zk_check_declarations.proofs.mentions.+mentioning.Given as goal

abbrev pub decreases-add_expr_names : goal.decreases-add_expr_names
decreases-add_expr_names l = 4 * l.depth

abbrev pub decreases-add_pair_names : goal.decreases-add_pair_names
decreases-add_pair_names l = 4 * l.depth + 1

abbrev pub decreases-add_exprs_names : goal.decreases-add_exprs_names
decreases-add_exprs_names l = 4 * l.depth + 1

abbrev pub decreases-add_items_names : goal.decreases-add_items_names
decreases-add_items_names l = 4 * l.depth + 1

abbrev pub decreases-add_links_names : goal.decreases-add_links_names
decreases-add_links_names l = 4 * l.depth + 1

abbrev pub decreases-add_part_names : goal.decreases-add_part_names
decreases-add_part_names l = 4 * l.depth + 2

abbrev pub decreases-add_parts_names : goal.decreases-add_parts_names
decreases-add_parts_names l = 4 * l.depth + 3

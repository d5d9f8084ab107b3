use Rattle.std.proofs.Common.{◌≡◌, ◌++◌, ℕ, List, flat_map, take}
use Rattle.zk_scope.specs.Lent.{stated_lent}
use Rattle.zk_scope.specs.Scripted.{scripts_in}
use Rattle.zk_check_declarations.specs.Grouping.{group_at}
use Rattle.zk_check_declarations.specs.Valuing.{given_lent, stated_given}
use Rattle.zk_check_declarations.proofs.values.add_all_given.Given as goal

abbrev pub invariant-loop-one : goal.invariant-loop-one
invariant-loop-one l = (whole : List ℕ) →
    given_lent (group_at l.given whole) ≡ given_lent (group_at l.fn.given whole) ++ flat_map (stated_given whole (scripts_in l.names)) (stated_lent (take l.one-index l.stated))

use Rattle.std.proofs.Common.{◌≡◌, ℕ, List, flat_map, take}
use Rattle.zk_scope.specs.Lent.{stated_lent}
use Rattle.zk_check.specs.Globals.{stated_place}
use Rattle.zk_check_declarations.specs.Grouping.{group_at}
use Rattle.zk_check.proofs.program.places.places_by_name.Given as goal

abbrev pub invariant-loop-one : goal.invariant-loop-one
invariant-loop-one l = (whole : List ℕ) → group_at l.places whole ≡ flat_map (stated_place whole) (stated_lent (take l.one-index l.one-items))

use Rattle.std.proofs.Common.{◌≡◌}
use Rattle.std.specs.Prelude.{option_copied}
use Rattle.std.specs.List.{list_all}
use Rattle.zk_http.specs.Bodies.{elements_in, elements_left, left_length, has_length}
use Rattle.zk_http.proofs.body.is_length.Given as goal

abbrev pub invariant-loop-left : goal.invariant-loop-left
invariant-loop-left l = list_all (has_length l.number) (elements_left (option_copied l.left)) ≡ list_all (has_length l.number) (elements_in l.value)

abbrev pub decreases-loop-left : goal.decreases-loop-left
decreases-loop-left l = left_length (option_copied l.left)

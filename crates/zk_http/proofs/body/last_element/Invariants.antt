use Rattle.std.proofs.Common.{◌≡◌}
use Rattle.std.specs.Prelude.{option_copied}
use Rattle.zk_http.specs.Bodies.{elements_in, elements_left, left_length, last_element}
use Rattle.zk_http.proofs.body.last_element.Given as goal

abbrev pub invariant-loop-left : goal.invariant-loop-left
invariant-loop-left l = last_element l.last (elements_left (option_copied l.left)) ≡ last_element l.before (elements_in l.value)

abbrev pub decreases-loop-left : goal.decreases-loop-left
decreases-loop-left l = left_length (option_copied l.left)

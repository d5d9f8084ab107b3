use Rattle.std.proofs.Common.{◌≡◌, ◌-◌, vec_len}
use Rattle.zk_lower.specs.View.{code_of}
use Rattle.zk_tree.specs.declared.place.Place.{Place}
use Rattle.zk_machine.specs.Onwards.{filters_from}
use Rattle.zk_machine.specs.State.{state_of}
use Rattle.zk_machine.proofs.state.State.filters.Given as goal

abbrev pub invariant-walk : goal.invariant-walk
invariant-walk l = (place : Place) → filters_from (code_of l.code) l.left place l.write (state_of l.self) ≡ filters_from (code_of l.code) l.left place l.fn.write (state_of l.fn.self)

abbrev pub decreases-walk : goal.decreases-walk
decreases-walk l = vec_len l.write.filters - l.write.at

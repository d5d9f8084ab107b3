use Rattle.std.proofs.Common.{◌≡◌, take}
use Rattle.zk_typed.specs.Typing.{is_variable}
use Rattle.zk_scope.specs.Indexing.{passing}
use Rattle.zk_scope.specs.Lent.{declared_lent}
use Rattle.zk_check_declarations.proofs.rounds.places_of.Given as goal

abbrev pub invariant-loop-place : goal.invariant-loop-place
invariant-loop-place l = l.places.items ≡ passing is_variable (declared_lent (take l.place l.declared))

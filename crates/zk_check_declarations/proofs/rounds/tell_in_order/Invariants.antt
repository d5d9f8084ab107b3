use Rattle.std.proofs.Common.{◌≡◌, ℕ}
use Rattle.zk_typed.specs.Typing.{is_variable}
use Rattle.zk_scope.specs.Indexing.{passing}
use Rattle.zk_scope.specs.Scripted.{scripts_in}
use Rattle.zk_check_declarations.specs.Rounds.{IsAfter}
use Rattle.zk_check_declarations.proofs.rounds.tell_in_order.Given as goal

abbrev pub invariant-loop-number : goal.invariant-loop-number
invariant-loop-number l =
    (round : ℕ) → l.places ≡ passing is_variable (scripts_in l.scripts.names).names → IsAfter (scripts_in l.scripts.names) round l.fn.types.items → IsAfter (scripts_in l.scripts.names) round l.types.items

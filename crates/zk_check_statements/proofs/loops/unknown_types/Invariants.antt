use Rattle.std.proofs.Common.{◌≡◌, length, take}
use Rattle.zk_typed.specs.Statements as spec
use Rattle.zk_check_statements.specs.Numbers.{givens_in}
use Rattle.zk_check_statements.specs.Turns.{names_lent}
use Rattle.zk_check_statements.proofs.loops.unknown_types.Given as goal

abbrev pub invariant-loop-name : goal.invariant-loop-name
invariant-loop-name l = record { many : length l.all.items ≡ l._name-index; types : givens_in l.all.items ≡ spec.unknown_types (names_lent (take l._name-index l.names)) }

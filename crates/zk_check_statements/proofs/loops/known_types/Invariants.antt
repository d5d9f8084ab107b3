use Rattle.std.proofs.Common.{◌≡◌, Ok, length, map, take}
use Rattle.zk_typed.specs.View.{type_of}
use Rattle.zk_check_statements.specs.Numbers.{givens_in}
use Rattle.zk_check_statements.proofs.loops.known_types.Given as goal

abbrev pub invariant-loop-one : goal.invariant-loop-one
invariant-loop-one l = record { many : length l.all.items ≡ l.one-index; types : givens_in l.all.items ≡ map Ok (map type_of (take l.one-index l.types)) }

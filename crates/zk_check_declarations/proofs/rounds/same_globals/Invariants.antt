use Rattle.std.proofs.Common.{◌≡◌, drop, map}
use Rattle.zk_check_expressions.specs.Envs.{global_of}
use Rattle.zk_check_declarations.proofs.rounds.same_globals.Given as goal

abbrev pub invariant-loop-one : goal.invariant-loop-one
invariant-loop-one l = map global_of (drop l.one-index l.a) ≡ map global_of l.others → map global_of l.a ≡ map global_of l.b

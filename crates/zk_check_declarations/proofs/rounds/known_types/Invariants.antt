use Rattle.std.proofs.Common.{◌≡◌, map, take}
use Rattle.zk_typed.specs.Resolving.{hushed}
use Rattle.zk_check_expressions.specs.Envs.{global_of}
use Rattle.zk_check_declarations.proofs.rounds.known_types.Given as goal

abbrev pub invariant-loop-one : goal.invariant-loop-one
invariant-loop-one l = map global_of l.types.items ≡ map (λ one. hushed (global_of one)) (take l.one-index l.told)

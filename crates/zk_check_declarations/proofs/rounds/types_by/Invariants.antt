use Rattle.std.proofs.Common.{◌≡◌, filter, map, take}
use Rattle.zk_typed.specs.Typing.{is_variable}
use Rattle.zk_scope.specs.Lent.{declared_lent}
use Rattle.zk_scope.specs.Scripted.{scripts_in}
use Rattle.zk_check_expressions.specs.Envs.{global_of, globals_at}
use Rattle.zk_check_declarations.specs.Rounds.{filled}
use Rattle.zk_check_declarations.proofs.rounds.types_by.Given as goal

abbrev pub invariant-loop-one : goal.invariant-loop-one
invariant-loop-one l = map global_of l.types.items ≡ filled (scripts_in l.scripts.names) (globals_at l.globals) (filter is_variable (declared_lent (take l.one-index l.declared)))

use Rattle.std.proofs.Common.{◌≡◌, flat_map, map, take}
use Rattle.zk_scope.specs.Lent.{declared_lent}
use Rattle.zk_typed.specs.Typing.{is_function}
use Rattle.zk_typed.specs.View as view
use Rattle.zk_check_declarations.specs.Choosing.{chosen}
use Rattle.zk_check.specs.Functions.{function_among}
use Rattle.zk_check_declarations.specs.Sources.{scripts_from}
use Rattle.zk_check.proofs.program.functions.functions_of.Given as goal

abbrev pub invariant-loop-one : goal.invariant-loop-one
invariant-loop-one l = map view.function_of l.all.items ≡ flat_map (chosen is_function (function_among (scripts_from l.source) l.bodies)) (declared_lent (take l.one-index l.one-items))

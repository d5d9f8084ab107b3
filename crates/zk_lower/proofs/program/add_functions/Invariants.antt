use Rattle.std.proofs.Common.{map, take}
use Rattle.zk_typed.specs.View.{function_of}
use Rattle.zk_lower.specs.Lowering.{function_ops, function_found}
use Rattle.zk_lower.specs.View as view
use Rattle.zk_lower.proofs.Growing.{Grown}
use Rattle.zk_lower.proofs.program.add_functions.Given as goal

abbrev pub invariant-loop-function : goal.invariant-loop-function
invariant-loop-function l = Grown function_ops function_found (map function_of (take l.function-index l.functions)) l.initial.ops l.ops (map view.body_of l.list.items)

use Rattle.std.proofs.Common.{map, take}
use Rattle.zk_typed.specs.View.{hook_of}
use Rattle.zk_lower.specs.Lowering.{hook_ops, hook_found}
use Rattle.zk_lower.specs.View as view
use Rattle.zk_lower.proofs.Growing.{Grown}
use Rattle.zk_lower.proofs.program.add_hooks.Given as goal

abbrev pub invariant-loop-hook : goal.invariant-loop-hook
invariant-loop-hook l = Grown hook_ops hook_found (map hook_of (take l.hook-index l.hooks)) l.initial.ops l.ops (map (map view.body_of) l.list.items)

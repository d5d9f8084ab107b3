use Rattle.std.proofs.Common.{◌≡◌, map, take}
use Rattle.std.specs.Prelude.{is_some}
use Rattle.zk_lower.specs.View.{global_of}
use Rattle.zk_machine.proofs.globals.expiring.Given as goal

abbrev pub invariant-loop-global : goal.invariant-loop-global
invariant-loop-global l = l.list.items ≡ map (λ global. is_some (global_of global).expiry) (take l.global-index l.globals)

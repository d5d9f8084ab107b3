use Rattle.std.proofs.Common.{take}
use Rattle.zk_check_operators.specs.Views.{typed_of}
use Rattle.zk_typed.specs.Checked.{each}
use Rattle.zk_typed.specs.Tells.{Tells}
use Rattle.zk_typed.specs.Typing as spec
use Rattle.zk_check_expressions.proofs.containers.simple_types.Given as goal

abbrev pub invariant-loop-one : goal.invariant-loop-one
invariant-loop-one l = Tells (λ keys. keys.items) l.all (each (λ one. spec.simple_type l.place (typed_of one)) (take l.one-index l.ones))

use Rattle.std.proofs.Common.{◌≡◌, filter, take}
use Rattle.zk_typed.specs.Declarations.{adds_well}
use Rattle.zk_scope.specs.Lent.{stated_lent}
use Rattle.zk_scope.specs.Scripted.{scripts_in}
use Rattle.zk_check_declarations.specs.Heights.{Measures}
use Rattle.zk_check_declarations.proofs.rising.fitting.Given as goal

abbrev pub invariant-loop-one : goal.invariant-loop-one
invariant-loop-one l = Measures l.heights (scripts_in l.names) → stated_lent l.fitting.items ≡ filter (adds_well (scripts_in l.names)) (stated_lent (take l.one-index l.stated))

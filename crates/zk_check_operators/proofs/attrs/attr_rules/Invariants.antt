use Rattle.std.proofs.Common.{◌≡◌, drop, []}
use Rattle.zk_typed.specs.Checked.{both}
use Rattle.zk_typed.specs.Declarations.{nothing}
use Rattle.zk_typed.specs.Declarations as spec
use Rattle.zk_typed.specs.LoadOrder.{Home}
use Rattle.zk_check_operators.specs.Attributes.{before}
use Rattle.zk_check_operators.specs.Gather.{told, Told}
use Rattle.zk_check_operators.proofs.attrs.attr_rules.Given as goal

abbrev pub invariant-loop-end : goal.invariant-loop-end
invariant-loop-end g l = (home : Home) → home.file ≡ l.file → Told l.rules →
    nothing (both (told l.rules) (spec.attr_rules home (g.A.Attributes.allowed l.kind) spec.with_value (g.A.Attributes.value_rules l.kind) (before l.end l.attrs) (drop l.end l.attrs)))
    ≡ spec.attr_rules home (g.A.Attributes.allowed l.kind) spec.with_value (g.A.Attributes.value_rules l.kind) [] l.attrs

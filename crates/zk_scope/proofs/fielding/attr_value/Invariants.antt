use Rattle.std.proofs.Common.{◌≡◌, drop}
use Rattle.zk_typed.specs.Resolving.{attr_value}
use Rattle.zk_scope.proofs.fielding.attr_value.Given as goal

abbrev pub invariant-loop-attr : goal.invariant-loop-attr
invariant-loop-attr l = attr_value l.name (drop l.attr-index l.attrs) ≡ attr_value l.name l.attrs

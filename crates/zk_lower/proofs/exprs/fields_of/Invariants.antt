use Rattle.std.proofs.Common.{◌≡◌, drop, reverse}
use Rattle.zk_lower.specs.Lowering.{field_numbers}
use Rattle.zk_lower.specs.View.{givens_in}
use Rattle.zk_lower.proofs.exprs.fields_of.Given as goal

abbrev pub invariant-loop-index : goal.invariant-loop-index
invariant-loop-index l = reverse l.fields.items ≡ field_numbers (givens_in (drop l.index l.given))

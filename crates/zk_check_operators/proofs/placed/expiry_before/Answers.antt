use Rattle.std.proofs.Common.{arith}
use Rattle.zk_typed.specs.Declarations as spec
use Rattle.zk_check_operators.proofs.AttrLaws.{none_so_far, one_found}
use Rattle.zk_check_operators.proofs.placed.expiry_before.Goals as goal

pub returns-then-is_expiry : goal.returns-then-is_expiry
returns-then-is_expiry c =
    one_found spec.is_expiry c.loop-at.at c.args.attrs.now c.index-attrs-at.result c.as_slice.result.now c.is_expiry.result _
    (omega arith) (omega arith) c.as_slice.ensures c.is_expiry.ensures c.if-is_expiry.true c.loop-at.invariant.1

pub loop-at-preserved : goal.loop-at-preserved
loop-at-preserved c = (
  omega arith,
  none_so_far spec.is_expiry c.loop-at.at c.args.attrs.now c.index-attrs-at.result c.as_slice.result.now c.is_expiry.result _
      (omega arith) (omega arith) c.as_slice.ensures c.is_expiry.ensures c.if-is_expiry.false c.loop-at.invariant.1,
)

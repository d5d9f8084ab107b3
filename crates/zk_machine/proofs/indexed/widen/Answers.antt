use Rattle.std.proofs.Common.{length, ◌∙◌, ap, arith, length-append}
use Rattle.zk_machine.specs.Handling.{numbers_at}
use Rattle.zk_machine.proofs.Handling.{numbers-widened}
use Rattle.zk_machine.proofs.indexed.widen.Goals as goal

pub loop-preserved : goal.loop-preserved
loop-preserved c =
    let items = c.in_ok-push.ensures.items in (
      (λ event. ap (λ lists. numbers_at lists event) items ∙ (numbers-widened c.loop.lists.items _ event c.new.ensures.items ∙ c.loop.invariant.0 event)),
      ap length items ∙ (length-append c.loop.lists.items _ ∙ omega (arith, c.loop.invariant.1)),
    )

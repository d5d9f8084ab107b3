use Rattle.zk_check_expressions.specs.LogSettings.{literal_item}
use Rattle.zk_check_expressions.proofs.Eaches.{text_turn}
use Rattle.zk_check_expressions.proofs.log_columns.literal_items.Goals as goal

pub loop-item-preserved : goal.loop-item-preserved
loop-item-preserved c =
    text_turn (literal_item c.args.place) c.args.items.now c.loop-item.item-index c.item-item.result c.loop-item.all c.literal_item.result c.with_part-all.result
    c.loop-item-test.true c.item-item.is c.loop-item.invariant c.literal_item.ensures c.with_part-all.ensures

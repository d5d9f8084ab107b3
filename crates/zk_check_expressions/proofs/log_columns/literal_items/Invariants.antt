use Rattle.std.proofs.Common.{take}
use Rattle.zk_typed.specs.Checked.{each}
use Rattle.zk_typed.specs.Tells.{Tells}
use Rattle.zk_check_expressions.specs.LogSettings.{all_texts, literal_item}
use Rattle.zk_check_expressions.proofs.log_columns.literal_items.Given as goal

abbrev pub invariant-loop-item : goal.invariant-loop-item
invariant-loop-item l = Tells all_texts l.all (each (literal_item l.place) (take l.item-index l.items))

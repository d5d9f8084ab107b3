use Rattle.zk_check_operators.proofs.BothLaws.{both_tell}
use Rattle.zk_check_operators.specs.Views.{all_typed}
use Rattle.zk_check_expressions.specs.Calls.{text_view}
use Rattle.zk_check_expressions.proofs.judge.Judge.text_and_values.Goals as goal

pub returns : goal.returns
returns g c = both_tell text_view all_typed c.format_item-text.result c.printed_items-values.result c.both.result _ _ c.format_item-text.ensures c.printed_items-values.ensures c.both.ensures

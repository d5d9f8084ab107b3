use Rattle.zk_scope.proofs.PlaceLaws.{all_kinds}
use Rattle.zk_scope.proofs.numbers.Numbers.of.Goals as goal

pub returns : goal.returns
returns c = (all_kinds _ _ c.in_ok-variables.ensures c.in_ok-events.ensures c.in_ok-hooks.ensures c.in_ok-functions.ensures c.in_ok-log_words.ensures, c.in_ok-records.ensures, c.in_ok-enums.ensures)

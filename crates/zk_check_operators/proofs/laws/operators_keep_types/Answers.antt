use Rattle.zk_check_operators.proofs.ValueLaws.{rows_hold, inverted, negated_count, negated_int, negated_interval, turned, count_up, int_up, count_down, int_down}
use Rattle.zk_check_operators.proofs.laws.operators_keep_types.Goals as goal

pub returns : goal.returns
returns c = record {
  rows = rows_hold;
  not = inverted;
  negated_count = negated_count;
  negated_int = negated_int;
  negated_interval = negated_interval;
  to_int = turned;
  up = (count_up, int_up);
  down = (count_down, int_down);
}

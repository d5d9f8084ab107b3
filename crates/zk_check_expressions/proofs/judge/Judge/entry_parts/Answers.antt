use Rattle.zk_check_expressions.proofs.Eaches.{next_tells}
use Rattle.zk_check_expressions.proofs.judge.Judge.entry_parts.Goals as goal

pub returns : goal.returns
returns g c = next_tells c.each_key-before.result c.check-last.result c.with_part.result _ _ c.each_key-before.ensures c.check-last.ensures c.with_part.ensures

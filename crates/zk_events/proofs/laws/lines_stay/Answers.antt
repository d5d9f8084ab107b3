use Rattle.zk_events.proofs.LawLemmas.{all_items_keep, end_keeps}
use Rattle.zk_events.proofs.laws.lines_stay.Goals as goal

pub returns-clause-items : goal.returns-clause-items
returns-clause-items c = all_items_keep c.told_stays.ensures.handlers_keep c.told_stays.ensures.expiries_keep

pub returns-clause-end : goal.returns-clause-end
returns-clause-end c = end_keeps c.told_stays.ensures.handlers_keep c.told_stays.ensures.expiries_keep

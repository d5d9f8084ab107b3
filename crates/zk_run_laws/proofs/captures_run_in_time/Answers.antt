use Rattle.zk_run_laws.proofs.Times.{captures_run_in_time, items_in_order}
use Rattle.zk_run_laws.proofs.captures_run_in_time.Goals as goal

pub returns-clause-order : goal.returns-clause-order
returns-clause-order c = items_in_order c.moments_rise.ensures

pub returns-clause-time : goal.returns-clause-time
returns-clause-time c = captures_run_in_time c.moments_rise.ensures c.agenda_holds.ensures.time c.typed_tables_stay.ensures.tables

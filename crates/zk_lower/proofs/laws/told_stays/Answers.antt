use Rattle.zk_lower.proofs.Earlier.{handlers_go_on, initials_go_on, expiries_go_on, handlers_keep, initials_keep, expiries_keep}
use Rattle.zk_lower.proofs.laws.told_stays.Goals as goal

pub returns : goal.returns
returns c = record {
  handlers = handlers_go_on;
  initials = initials_go_on;
  expiries = expiries_go_on;
  handlers_keep = handlers_keep;
  initials_keep = initials_keep;
  expiries_keep = expiries_keep;
}

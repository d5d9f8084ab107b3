use Rattle.zk_lower.proofs.Means.{handlers_mean, initials_mean, expiries_mean}
use Rattle.zk_lower.proofs.laws.code_means.Goals as goal

pub returns : goal.returns
returns c = record { handlers = handlers_mean; initials = initials_mean; expiries = expiries_mean }

use Rattle.zk_lower.proofs.Budgets.{handlers_within, initials_within, expiries_within}
use Rattle.zk_lower.proofs.Weight.{falls, run_steps}
use Rattle.zk_lower.proofs.laws.code_ends.Goals as goal

pub returns : goal.returns
returns c = record { steps = run_steps; weight = falls; handlers = handlers_within; initials = initials_within; expiries = expiries_within }

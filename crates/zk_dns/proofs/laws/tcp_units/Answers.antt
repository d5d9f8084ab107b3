use Rattle.zk_dns.proofs.StreamLaws.{step-gap_unit, step-quiet, step-unit, units-grow}
use Rattle.zk_dns.proofs.laws.tcp_units.Goals as goal

pub returns-clause-given_again : goal.returns-clause-given_again
returns-clause-given_again c = units-grow

pub returns-clause-message : goal.returns-clause-message
returns-clause-message c = step-unit

pub returns-clause-waits : goal.returns-clause-waits
returns-clause-waits c = step-quiet

pub returns-clause-gap : goal.returns-clause-gap
returns-clause-gap c = step-gap_unit

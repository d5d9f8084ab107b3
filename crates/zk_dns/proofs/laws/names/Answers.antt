use Rattle.zk_dns.proofs.FrontLaws.{name-stays}
use Rattle.zk_dns.proofs.NameLaws.{name-found, name-only}
use Rattle.zk_dns.proofs.laws.names.Goals as goal

pub returns-clause-read : goal.returns-clause-read
returns-clause-read c = λ bytes bound place labels next inside.
    (name-only bytes bound place labels next, name-found bytes bound place (record { labels = labels; next = next }) inside)

pub returns-clause-front : goal.returns-clause-front
returns-clause-front c = name-stays

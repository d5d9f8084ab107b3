use Rattle.zk_units.proofs.ReaderLemmas.{within_dns, within_http}
use Rattle.zk_units.proofs.readers.Readers.held.Goals as goal

pub returns-in-Http-clause-within : goal.returns-in-Http-clause-within
returns-in-Http-clause-within c = within_http c.args.side c.args.self.now c.in-Http.http c.held.result c.in-Http.is c.held.ensures.within

pub returns-in-Dns-clause-within : goal.returns-in-Dns-clause-within
returns-in-Dns-clause-within c = within_dns c.args.side c.args.self.now c.in-Dns.dns c.held-in-Dns.result c.in-Dns.is c.held-in-Dns.ensures.within

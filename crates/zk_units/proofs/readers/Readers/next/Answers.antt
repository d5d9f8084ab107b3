use Rattle.std.proofs.Common.{refl, ap}
use Rattle.zk_units.proofs.DnsLemmas.{if_ok}
use Rattle.zk_units.proofs.ReaderLemmas.{said, turn_dns, turn_http_is, turn_silent}
use Rattle.zk_units.proofs.readers.Readers.next.Goals as goal

pub returns-in-Silent : goal.returns-in-Silent
returns-in-Silent c = turn_silent c.args.side c.args.self.now _ c.in-Silent.is c.in-Silent.is

pub returns-in-Some : goal.returns-in-Some
returns-in-Some c = turn_http_is c.args.side c.args.self.now _ c.in-Http.http c.next.new.self c.in_ok-unit-in-Http.field-0 _ c.in-Http.is refl (ap said c.in-Some.is) c.in_ok-unit-in-Http.ensures

pub returns-in-None : goal.returns-in-None
returns-in-None c = turn_http_is c.args.side c.args.self.now _ c.in-Http.http c.next.new.self c.in_ok-unit-in-Http.field-0 _ c.in-Http.is refl (ap said c.in-None.is) c.in_ok-unit-in-Http.ensures

pub returns-in-Dns : goal.returns-in-Dns
returns-in-Dns c = if_ok c.next-in-Dns.result c.next-in-Dns.ensures (λ found turn. turn_dns c.args.side c.args.self.now _ c.in-Dns.dns c.next-in-Dns.new.self found c.in-Dns.is refl turn)

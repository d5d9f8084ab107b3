use Rattle.std.proofs.Common.{refl, arith}
use Rattle.zk_units.proofs.DnsLemmas.{gap_found, none_yet}
use Rattle.zk_units.proofs.UnreadLemmas.{bytes_within}
use Rattle.zk_units.proofs.dns.DnsSide.gap.Goals as goal

pub returns-then-gap-eq0 : goal.returns-then-gap-eq0
returns-then-gap-eq0 c = λ stream count stands goes.
    let u = c.args.self.now.«unread» in
    let whole = c.gap.ensures.end c.if-gap-eq0.true in
    none_yet c.args.self.now stream count stands goes c.requires.step whole (omega (arith, whole, c.requires.few, bytes_within u))

pub returns : goal.returns
returns c = λ stream count stands goes.
    gap_found c.args.self.now _ stream count c.gap.result stands goes refl c.clear.ensures.places c.requires.step (omega arith) c.gap.ensures.places

use Rattle.std.proofs.Common.{length, refl}
use Rattle.zk_units.proofs.DnsLemmas.{if_ok, turn_at_orig, turn_at_resp}
use Rattle.zk_units.proofs.dns.DnsReader.next.Goals as goal

pub returns-in-Orig : goal.returns-in-Orig
returns-in-Orig c = if_ok c.next.result c.next.ensures (λ found turn streams units stands.
    turn_at_orig c.args.side c.args.self.now _ found streams units c.in-Orig.is refl stands.resp (turn streams.orig (length units.orig) stands.orig))

pub returns-in-Resp : goal.returns-in-Resp
returns-in-Resp c = if_ok c.next-in-Resp.result c.next-in-Resp.ensures (λ found turn streams units stands.
    turn_at_resp c.args.side c.args.self.now _ found streams units c.in-Resp.is refl stands.orig (turn streams.resp (length units.resp) stands.resp))

use Rattle.std.proofs.Common.{◌≤◌, length, sym, subst}
use Rattle.zk_http.specs.Places.{of_side}
use Rattle.zk_units.proofs.dns.DnsReader.held.Goals as goal

pub returns-in-Orig-clause-within : goal.returns-in-Orig-clause-within
returns-in-Orig-clause-within c = λ streams units stands.
    subst (λ s. c.held.result ≤ length (of_side s streams).places) (sym c.in-Orig.is) (c.held.ensures.within streams.orig (length units.orig) stands.orig)

pub returns-in-Resp-clause-within : goal.returns-in-Resp-clause-within
returns-in-Resp-clause-within c = λ streams units stands.
    subst (λ s. c.held-in-Resp.result ≤ length (of_side s streams).places) (sym c.in-Resp.is) (c.held-in-Resp.ensures.within streams.resp (length units.resp) stands.resp)

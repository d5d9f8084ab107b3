use Rattle.std.proofs.Common.{◌≡◌, ◌==◌, cond, MatchOption, Some, None, ℕ, sym, ap, subst}
use Rattle.zk_traffic.specs.Segments.{tcp_judged, udp_judged}
use Rattle.zk_traffic.specs.Taken.{datagram_from, segment_of}
use Rattle.zk_traffic.proofs.datagram.Datagram.segment.Goals as goal

pub returns-in-6 : goal.returns-in-6
returns-in-6 c = λ t.
    let d = datagram_from c.args.self.now in
    subst (λ o. MatchOption c.tcp_segment.result (o ≡ None) (λ s. o ≡ Some (segment_of t s)))
    (sym (ap (λ (n : ℕ). cond (n == 6) (tcp_judged t d) (cond (n == 17) (udp_judged t d) None)) c.in-6.is))
    (c.tcp_segment.ensures t)

pub returns-in-17 : goal.returns-in-17
returns-in-17 c = λ t.
    let d = datagram_from c.args.self.now in
    subst (λ o. MatchOption c.udp_segment.result (o ≡ None) (λ s. o ≡ Some (segment_of t s)))
    (sym (ap (λ (n : ℕ). cond (n == 6) (tcp_judged t d) (cond (n == 17) (udp_judged t d) None)) c.in-17.is))
    (c.udp_segment.ensures t)

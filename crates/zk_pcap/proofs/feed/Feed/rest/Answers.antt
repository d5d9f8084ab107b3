use Rattle.std.proofs.Common.{ap, sym, ◌∙◌, length}
use Rattle.zk_pcap.proofs.StandingLemmas.{rest_none, rest_some}
use Rattle.zk_pcap.proofs.feed.Feed.rest.Goals as goal

pub returns-then-end-as_slice : goal.returns-then-end-as_slice
returns-then-end-as_slice c header file packets stands =
    rest_none c.args.self.now header file packets c.records_end-end.result stands c.records_end-end.ensures.stand c.records_end-end.ensures.no_more c.records_end-end.ensures.within
    (c.if-end-as_slice.true ∙ ap length c.as_slice.ensures)

pub returns-else-end-as_slice : goal.returns-else-end-as_slice
returns-else-end-as_slice c header file packets stands =
    rest_some c.args.self.now header file packets c.records_end-end.result c.saturating_add.result stands c.records_end-end.ensures.stand c.records_end-end.ensures.no_more
    c.records_end-end.ensures.within (λ same. c.if-end-as_slice.false (same ∙ ap length (sym c.as_slice.ensures))) c.saturating_add.ensures

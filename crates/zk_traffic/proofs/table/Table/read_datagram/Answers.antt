use Rattle.std.proofs.Common.{refl, sym, ◌∙◌}
use Rattle.zk_traffic.specs.News.{runs_of}
use Rattle.zk_traffic.specs.Taken.{segment_of}
use Rattle.zk_traffic.proofs.DatagramLemmas.{none_cut, none_else, none_tcp, one_said}
use Rattle.zk_traffic.proofs.table.Table.read_datagram.Goals as goal
use Rattle.zk_traffic.proofs.table.Table.read_datagram.Goals.{then-not-is_datagram-via-then-not-is_datagram, then-not-is_datagram-via-else-not-is_datagram+then-not-speaks_dns, then-not-is_datagram-via-else-not-is_datagram+else-not-speaks_dns+then-was_cut}

pub returns-then-not-is_datagram-clause-units : goal.returns-then-not-is_datagram-clause-units
returns-then-not-is_datagram-clause-units c = λ t talk side speaks.
    let s = segment_of t c.args.segment.now in
    elim c.then-not-is_datagram.branch [
      | then-not-is_datagram-via-then-not-is_datagram w ↦ none_tcp talk s c.args.news.now.«units».items (sym c.is_datagram.ensures ∙ w.if-not-is_datagram.true)
      | then-not-is_datagram-via-else-not-is_datagram+then-not-speaks_dns w ↦ none_else talk s c.args.news.now.«units».items c.args.protocol speaks (sym w.speaks_dns.ensures ∙ w.if-not-speaks_dns.true)
      | then-not-is_datagram-via-else-not-is_datagram+else-not-speaks_dns+then-was_cut w ↦ none_cut talk s c.args.news.now.«units».items (sym (w.was_cut.ensures t) ∙ w.if-was_cut.true)
    ]

pub returns-in_err-push_back-clause-runs : goal.returns-in_err-push_back-clause-runs
unfolding runs_of
returns-in_err-push_back-clause-runs c = refl

pub returns-clause-runs : goal.returns-clause-runs
unfolding runs_of
returns-clause-runs c = refl

pub returns-clause-units : goal.returns-clause-units
returns-clause-units c = λ t talk side speaks.
    one_said talk (segment_of t c.args.segment.now) c.args.news.now.«units».items c.push_back.new.self.items c.args.protocol c.args.side c.in_ok-unit.«unit» side c.in_ok-unit.ensures
    (sym c.is_datagram.ensures ∙ c.if-not-is_datagram.false) speaks (sym c.speaks_dns.ensures ∙ c.if-not-speaks_dns.false) (sym (c.was_cut.ensures t) ∙ c.if-was_cut.false)
    c.in_ok-push_back.ensures.items

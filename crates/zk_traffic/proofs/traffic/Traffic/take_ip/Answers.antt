use Rattle.std.proofs.Common.{◌++◌, refl, sym, ap, subst, ◌∙◌}
use Rattle.std.proofs.lemmas.List.{append-nil}
use Rattle.std.specs.Option.{option_map}
use Rattle.zk_frag.specs.Ip4Fragments as frags
use Rattle.zk_link_ip.specs.Ip4 as ip4
use Rattle.zk_link_ip.specs.Views.{packet}
use Rattle.zk_traffic.specs.Datagram.{carrying, fragments, time_at}
use Rattle.zk_traffic.specs.Segments.{segment_in}
use Rattle.zk_traffic.specs.Taken.{datagram_from, segment_of}
use Rattle.zk_traffic.specs.Taking.{list_of}
use Rattle.zk_traffic.proofs.GivenLemmas.{on_ok}
use Rattle.zk_traffic.proofs.RecordLemmas.{answered, at_packet, has_taken, took_some}
use Rattle.zk_traffic.proofs.traffic.Traffic.take_ip.Goals as goal

pub returns-clause-taken : goal.returns-clause-taken
returns-clause-taken c = on_ok c.take_some.result c.take_some.ensures (λ takes options step is ready.
    let p = (packet c.args.ip.now).now in
    let t = time_at step in
    let r = c.segment-segment.result in
    let at = at_packet options step p is (sym c.is_fragment.ensures ∙ c.if-is_fragment.false) in
    let o_is = at.0 ∙ ap (λ l. segment_in t (carrying options p l (ip4.full_len p))) (sym c.payload.ensures.value)
    ∙ ap (λ n. segment_in t (carrying options p c.payload.result.now n)) (sym c.full_len.ensures.value)
    ∙ ap (λ o. segment_in t (carrying o p c.payload.result.now c.full_len.result)) (sym ready.options_are)
    ∙ ap (segment_in t) (sym c.carrying-datagram.ensures)
    ∙ answered (segment_of t) r (segment_in t (datagram_from c.carrying-datagram.result)) (c.segment-segment.ensures t) in
    has_taken c.args.self.now _ options step (option_map (segment_of t) r) ready o_is refl refl refl
    (subst (λ f. frags.StandsFor c.args.self.now.frags (fragments options step.before ++ list_of f)) (sym at.1)
    (subst (frags.StandsFor c.args.self.now.frags) (sym (append-nil (fragments options step.before))) ready.frags_are))
    (took_some c.args.self.now c.take_some.new.self options step r ready takes))

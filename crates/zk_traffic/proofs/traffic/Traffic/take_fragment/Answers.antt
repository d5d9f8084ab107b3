use Rattle.std.proofs.Common.{◌≡◌, ◌++◌, ◌∷◌, [], cond, None, refl, sym, ap, subst, ◌∙◌, ⊎_elim}
use Rattle.std.specs.Option.{option_map}
use Rattle.zk_frag.specs.Ip4Fragments as frags
use Rattle.zk_frag.specs.Ip4Fragments.{datagram_of, fragment_of, joined_of}
use Rattle.zk_link_ip.specs.Views.{packet}
use Rattle.zk_traffic.specs.Datagram.{fragments, is_whole, put_together, time_at}
use Rattle.zk_traffic.specs.Segments.{segment_in, segments}
use Rattle.zk_traffic.specs.Taken.{datagram_from, segment_of}
use Rattle.zk_traffic.proofs.GivenLemmas.{on_ok}
use Rattle.zk_traffic.proofs.RecordLemmas.{answered, takes_none, took_fragment, took_some}
use Rattle.zk_traffic.proofs.traffic.Traffic.take_fragment.Goals as goal

pub returns-in-Held : goal.returns-in-Held
returns-in-Held c = record {
  taken = λ options step is part ready.
      let p = (packet c.args.ip.now).now in
      took_fragment c.args.self.now _ options step p c.in_ok-take.field-0 None ready is part refl refl refl c.in_ok-take.ensures.answer c.in_ok-take.ensures.taken
      (⊎_elim (λ held. ap (λ j. cond (is_whole j) (segment_in (time_at step) (put_together options p (datagram_of (fragments options step.before) (fragment_of (time_at step) p)))) None) held) (λ ignored. ap (λ j. cond (is_whole j) (segment_in (time_at step) (put_together options p (datagram_of (fragments options step.before) (fragment_of (time_at step) p)))) None) ignored) c.in-Held.is)
      (takes_none options.buffer (segments options step.before) (time_at step) c.args.self.now.connections ready.current ready.no_runs);
  works = refl;
}

pub returns-in-Whole-clause-taken : goal.returns-in-Whole-clause-taken
returns-in-Whole-clause-taken c = on_ok c.take_some.result c.take_some.ensures (λ takes options step is part ready.
    let p = (packet c.args.ip.now).now in
    let t = time_at step in
    let r = c.segment-segment.result in
    let frs = fragments options step.before in
    let whole_is : c.whole-whole.result.now ≡ datagram_of frs (fragment_of t p) = c.whole-whole.ensures.value frs (fragment_of t p)
    (subst (λ m. frags.StandsFor c.take.new.self (frs ++ fragment_of m p ∷ [])) ready.time_is (c.in_ok-take.ensures.taken frs ready.frags_are))
    (sym (c.in_ok-take.ensures.answer frs ready.frags_are ∙ ap (λ m. joined_of frs (fragment_of m p)) ready.time_is) ∙ c.in-Whole.is) in
    took_fragment c.args.self.now _ options step p c.in_ok-take.field-0 (option_map (segment_of t) r) ready is part refl refl refl c.in_ok-take.ensures.answer c.in_ok-take.ensures.taken
    (ap (λ j. cond (is_whole j) (segment_in t (put_together options p (datagram_of frs (fragment_of t p)))) None) c.in-Whole.is
    ∙ ap (λ w. segment_in t (put_together options p w)) (sym whole_is)
    ∙ ap (λ o. segment_in t (put_together o p c.whole-whole.result.now)) (sym ready.options_are)
    ∙ ap (segment_in t) (sym c.carrying-datagram.ensures)
    ∙ answered (segment_of t) r (segment_in t (datagram_from c.carrying-datagram.result)) (c.segment-segment.ensures t))
    (took_some c.args.self.now c.take_some.new.self options step r ready takes))

use Rattle.std.proofs.Common.{cond, not, ◌&&◌, [], ◌∷◌, ◌++◌, sym, ap, subst, ◌∙◌, append_assoc}
use Rattle.zk_reasm.specs.Histories.{put_of}
use Rattle.zk_reasm.specs.Standing.{StandsFor}
use Rattle.zk_reasm.specs.Told.{Segment}
use Rattle.zk_traffic.specs.Conversation.{fin_told, is_gave_up, payload_number}
use Rattle.zk_traffic.specs.Taken.{segment_of}
use Rattle.zk_traffic.proofs.streams.put.Goals as goal

pub returns-clause-told : goal.returns-clause-told
returns-clause-told c = λ t base limit taken told stands.
    let s = segment_of t c.args.segment.now in
    let payload = c.args.segment.now.payload.now in
    subst (λ l. StandsFor c.put.new.self base limit l taken)
    (ap (λ n. told ++ fin_told s ++ Segment n payload ∷ []) (c.payload_number.ensures t)
    ∙ append_assoc told (fin_told s) (Segment (payload_number s) payload ∷ [])
    ∙ sym (ap (λ b. told ++ cond b [] (fin_told s ++ Segment (payload_number s) payload ∷ [])) (sym c.has_rst.ensures ∙ c.if-has_rst.false)))
    (c.in_ok-put.ensures.told base limit taken (told ++ fin_told s) (c.fin_by.ensures t base limit taken told stands))

pub returns-clause-gave_up : goal.returns-clause-gave_up
returns-clause-gave_up c = λ t base limit taken told stands.
    let s = segment_of t c.args.segment.now in
    let payload = c.args.segment.now.payload.now in
    c.is_gave_up.ensures
    ∙ ap is_gave_up (c.in_ok-put.ensures.answer base limit taken (told ++ fin_told s) (c.fin_by.ensures t base limit taken told stands)
    ∙ ap (λ n. put_of base limit (told ++ fin_told s) n payload) (c.payload_number.ensures t))
    ∙ sym (ap (λ b. not b && is_gave_up (put_of base limit (told ++ fin_told s) (payload_number s) payload)) (sym c.has_rst.ensures ∙ c.if-has_rst.false))

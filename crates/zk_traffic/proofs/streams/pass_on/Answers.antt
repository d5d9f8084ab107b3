use Rattle.std.proofs.Common.{◌≡◌, ◌+◌, ◌==◌, Bool, true, false, cond, not, ◌&&◌, [], ◌∷◌, ◌++◌, length, refl, sym, ap, subst, ◌∙◌}
use Rattle.std.proofs.lemmas.List.{append-nil}
use Rattle.std.proofs.lemmas.Option.{IfSome_then}
use Rattle.zk_base.specs.declared.time.Moment.{Moment}
use Rattle.zk_reasm.specs.Histories.{content, put_of}
use Rattle.zk_reasm.specs.declared.stream.Put.TheVariants.{Grew, Old}
use Rattle.zk_reasm.specs.Standing.{StandsFor}
use Rattle.zk_reasm.specs.Told.{Fin, Segment}
use Rattle.zk_traffic.specs.Conversation.{fin_number, fin_told, is_gave_up, payload_number, sent_told}
use Rattle.zk_traffic.specs.Taken.{segment_of}
use Rattle.zk_traffic.proofs.streams.pass_on.Goals as goal

-- the stream isn't told of a FIN
no_fin : (c : goal.After-pass_on) (t : Moment) → fin_told (segment_of t c.args.segment.now) ≡ []
no_fin c t = ap (λ b. cond b (Fin (fin_number (segment_of t c.args.segment.now)) ∷ []) []) (sym c.has_fin.ensures ∙ c.if-has_fin.false)

-- it is told of the payload alone
payload_alone : (c : goal.After-pass_on) (t : Moment) → sent_told (segment_of t c.args.segment.now) ≡ Segment c.payload_number.result c.args.segment.now.payload.now ∷ []
payload_alone c t =
    let s = segment_of t c.args.segment.now in
    ap (λ b. cond b [] (fin_told s ++ Segment (payload_number s) s.payload ∷ [])) (sym c.has_rst.ensures ∙ c.if-has_rst.false)
    ∙ ap (λ l. l ++ Segment (payload_number s) s.payload ∷ []) (no_fin c t)
    ∙ ap (λ n. Segment n s.payload ∷ []) (sym (c.payload_number.ensures t))

pub returns-clause-told : goal.returns-clause-told
returns-clause-told c = IfSome_then c.pass_on.result c.pass_on.ensures.told (λ run told_is t base limit taken told stands.
    subst (λ l. StandsFor c.pass_on.new.self base limit (told ++ l) (taken + length run.now)) (sym (payload_alone c t)) (told_is base limit taken told stands))

pub returns-clause-bytes : goal.returns-clause-bytes
returns-clause-bytes c = IfSome_then c.pass_on.result c.pass_on.ensures.bytes (λ run bytes_are t base limit taken told stands.
    ap (λ l. content base limit (told ++ l) taken) (payload_alone c t) ∙ bytes_are base limit taken told stands)

pub returns-clause-goes_on : goal.returns-clause-goes_on
returns-clause-goes_on c = IfSome_then c.pass_on.result c.pass_on.ensures.answer (λ run answer t base limit taken told stands.
    let s = segment_of t c.args.segment.now in
    ap (λ b. not b && is_gave_up (put_of base limit (told ++ fin_told s) (payload_number s) s.payload)) (sym c.has_rst.ensures ∙ c.if-has_rst.false)
    ∙ ap (λ l. is_gave_up (put_of base limit l (payload_number s) s.payload)) (ap (λ l. told ++ l) (no_fin c t) ∙ append-nil told)
    ∙ ap (λ n. is_gave_up (put_of base limit told n s.payload)) (sym (c.payload_number.ensures t))
    ∙ ap is_gave_up (answer base limit taken told stands)
    ∙ none (length run.now == 0))
  where
    none : (b : Bool) → is_gave_up (cond b Old Grew) ≡ false
    none true = refl
    none false = refl

use Rattle.std.proofs.Common.{cond, [], ◌∷◌, ◌++◌, sym, ap, subst, ◌∙◌}
use Rattle.zk_reasm.specs.Standing.{StandsFor}
use Rattle.zk_reasm.specs.Told.{Fin}
use Rattle.zk_traffic.specs.Conversation.{fin_number}
use Rattle.zk_traffic.specs.Taken.{segment_of}
use Rattle.zk_traffic.proofs.streams.fin_by.Goals as goal

pub returns-then-has_fin : goal.returns-then-has_fin
returns-then-has_fin c = λ t base limit taken told stands.
    subst (λ l. StandsFor c.fin.new.self base limit (told ++ l) taken)
    (ap (λ n. Fin n ∷ []) (c.fin_number.ensures t)
    ∙ sym (ap (λ b. cond b (Fin (fin_number (segment_of t c.args.segment.now)) ∷ []) []) (sym c.has_fin.ensures ∙ c.if-has_fin.true)))
    (c.fin.ensures base limit taken told stands)

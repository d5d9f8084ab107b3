use Rattle.std.proofs.Common.{cond, not, ◌&&◌, [], ◌∷◌, ◌++◌, sym, ap, subst, ◌∙◌}
use Rattle.zk_conn.specs.Segment.{has_ack}
use Rattle.zk_reasm.specs.Standing.{StandsFor}
use Rattle.zk_reasm.specs.Told.{Ack}
use Rattle.zk_traffic.proofs.streams.acknowledge_by.Goals as goal

pub returns-then-has_ack : goal.returns-then-has_ack
returns-then-has_ack c = λ t base limit taken told stands.
    subst (λ l. StandsFor c.ack.new.self base limit (told ++ l) taken)
    (sym (ap (λ b. cond (not b && has_ack c.args.segment.now.view) (Ack c.args.segment.now.ack ∷ []) []) (sym c.has_rst.ensures ∙ c.if-not-has_rst.true)
    ∙ ap (λ b. cond b (Ack c.args.segment.now.ack ∷ []) []) (sym c.has_ack.ensures ∙ c.if-has_ack.true)))
    (c.ack.ensures.told base limit taken told stands)

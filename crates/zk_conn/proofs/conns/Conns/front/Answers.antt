use Rattle.std.proofs.Common.{refl, sym, ◌∙◌}
use Rattle.zk_conn.specs.declared.instance.Instance.{Instance}
use Rattle.zk_conn.specs.Told.{Front}
use Rattle.zk_conn.proofs.StandingLemmas.{told_live, live_told}
use Rattle.zk_conn.proofs.conns.Conns.front.Goals as goal

pub returns-clause-told : goal.returns-clause-told
returns-clause-told c = λ told key stands live.
    told_live c.args.self.now c.tell_front.new.self told key c.args.conn c.in-Some.slot (λ k. Front k c.args.side c.args.front)
    (sym c.slot_numbered.ensures.slot ∙ c.in-Some.is) c.tell_front.ensures stands live refl refl refl refl (λ m. refl)

pub returns-clause-live : goal.returns-clause-live
returns-clause-live c = λ other live.
    live_told c.args.self.now c.tell_front.new.self c.in-Some.slot c.args.conn other (λ (was : Instance). Front was.key c.args.side c.args.front)
    (sym c.slot_numbered.ensures.slot ∙ c.in-Some.is) c.tell_front.ensures live

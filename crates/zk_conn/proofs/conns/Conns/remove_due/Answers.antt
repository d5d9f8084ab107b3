use Rattle.std.proofs.Common.{sym, ap, subst, ◌∙◌}
use Rattle.zk_base.specs.declared.time.Moment.{Moment}
use Rattle.zk_conn.specs.declared.conns.Removed.{Removed}
use Rattle.zk_conn.specs.Histories.{IsLive}
use Rattle.zk_conn.specs.Holds.{facts_in}
use Rattle.zk_conn.proofs.DueLemmas.{none_due, is_removal}
use Rattle.zk_conn.proofs.RemoveLemmas.{removed_live}
use Rattle.zk_conn.proofs.conns.Conns.remove_due.Goals as goal

pub returns-in_default-clause-none : goal.returns-in_default-clause-none
returns-in_default-clause-none c = λ told stands. none_due c.settle.new.self told c.args.t (c.settle.ensures.stands told stands)
    (sym c.first_by.ensures.slot ∙ c.in_default.is)

pub returns-clause-removed : goal.returns-clause-removed
returns-clause-removed c = λ told stands.
    let first = sym c.first_by.ensures.slot ∙ c.in-Some.is in
    is_removal c.settle.new.self told c.args.t c.in-Some.slot c.index.result.now c.remove.result (c.settle.ensures.stands told stands) first
    (c.settle.ensures.fresh c.in-Some.slot first) c.index.ensures
    (c.remove.ensures.removed c.index.result.now c.index.ensures
    ∙ ap (λ (m : Moment). let removed : Removed = record { conn = record { 0 = c.index.result.now.number }; at = m; facts = facts_in c.index.result.now } in removed) c.removal-at.ensures)

pub returns-clause-taken : goal.returns-clause-taken
returns-clause-taken c = λ told key stands live.
    let is = c.remove.ensures.removed c.index.result.now c.index.ensures in
    removed_live c.settle.new.self c.remove.new.self told key c.in-Some.slot c.index.result.now c.remove.result.at (c.settle.ensures.stands told stands) c.index.ensures
    (c.remove.ensures.removes c.index.result.now c.index.ensures) (ap (λ (r : Removed). r.at) is ∙ c.removal-at.ensures)
    (subst (λ (r : Removed). IsLive told key r.conn.0) is live)

use Rattle.std.proofs.Common.{◌+◌, Option, length, sym, ap, subst, ◌∙◌, ◌≡◌, arith}
use Rattle.zk_conn.specs.declared.removals.Filing.{Filing}
use Rattle.zk_conn.specs.Removals.{earlier}
use Rattle.zk_conn.proofs.DueLemmas.{IsEarliest, earliest_more, none_first, is_first}
use Rattle.zk_conn.proofs.conns.Conns.due.Goals as goal

pub loop-slot-preserved : goal.loop-slot-preserved
loop-slot-preserved c =
    subst (IsEarliest c.args.self.now.slots (c.loop-slot.slot + 1)) (sym (c.earlier-first.ensures ∙ ap (earlier c.loop-slot.first) c.removal.ensures))
    (earliest_more c.args.self.now.slots c.loop-slot.slot c.loop-slot.first c.loop-slot.invariant)

pub returns-in-Some-clause-first : goal.returns-in-Some-clause-first
returns-in-Some-clause-first c = λ told stands.
    is_first c.args.self.now told c.in-Some.first stands
    (subst (λ (o : Option Filing). IsEarliest c.args.self.now.slots (length c.args.self.now.removals.firsts.items) o) c.in-Some.is
    (subst (λ n. IsEarliest c.args.self.now.slots n c.loop-slot.first) (let all : c.loop-slot.slot ≡ length c.args.self.now.removals.firsts.items = omega (arith, c.args.self.now.removals.firsts.ok.0) in all) c.loop-slot.invariant))

pub returns-in-None-clause-none : goal.returns-in-None-clause-none
returns-in-None-clause-none c = λ told stands.
    none_first c.args.self.now told stands
    (subst (λ (o : Option Filing). IsEarliest c.args.self.now.slots (length c.args.self.now.removals.firsts.items) o) c.in-None.is
    (subst (λ n. IsEarliest c.args.self.now.slots n c.loop-slot.first) (let all : c.loop-slot.slot ≡ length c.args.self.now.removals.firsts.items = omega (arith, c.args.self.now.removals.firsts.ok.0) in all) c.loop-slot.invariant))

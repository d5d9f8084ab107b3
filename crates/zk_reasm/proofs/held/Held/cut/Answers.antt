use Rattle.std.proofs.Common.{sym, ◌∙◌, ⊎_elim, arith}
use Rattle.std.proofs.lemmas.Bool.{cases_lt}
use Rattle.zk_reasm.specs.Held.{byte_kept}
use Rattle.zk_reasm.proofs.FrontLemmas.{sound_cut}
use Rattle.zk_reasm.proofs.HeldLemmas.{byte_held-run, byte_held-apart}
use Rattle.zk_reasm.proofs.held.Held.cut.Goals as goal

pub overflow_sub-self : goal.overflow_sub-self
overflow_sub-self c = (sound_cut c.args.self.now c.cut.new.self c.requires.order c.cut.ensures.below c.cut.ensures.above).0

pub invariant_of-self : goal.invariant_of-self
invariant_of-self c =
    let s = (sound_cut c.args.self.now c.cut.new.self c.requires.order c.cut.ensures.below c.cut.ensures.above).1 in
    record { start = s.start; end = s.«end»; front_within = s.front_within; kept_counts = s.kept_counts; above_counts = s.above_counts; room = s.room }

pub returns-clause-bytes : goal.returns-clause-bytes
unfolding byte_kept
returns-clause-bytes c = λ at low.
    let held = c.args.self.now in
    ⊎_elim
    (λ inside. byte_held-run held.run held.run_end c.cut.new.self at inside ∙ sym (byte_held-run held.run held.run_end held.apart at inside))
    (λ outside. byte_held-apart held.run held.run_end c.cut.new.self at outside ∙ c.cut.ensures.below at low ∙ sym (byte_held-apart held.run held.run_end held.apart at outside))
    (cases_lt at held.run_end)

pub returns-clause-none : goal.returns-clause-none
unfolding byte_kept
returns-clause-none c = λ at low.
    let held = c.args.self.now in
    byte_held-apart held.run held.run_end c.cut.new.self at (omega (arith, low, c.requires.order)) ∙ c.cut.ensures.above at low

pub returns-clause-kept : goal.returns-clause-kept
returns-clause-kept c =
    let less = (sound_cut c.args.self.now c.cut.new.self c.requires.order c.cut.ensures.below c.cut.ensures.above).0 in
    omega (arith, less)

pub returns-clause-settled : goal.returns-clause-settled
unfolding byte_kept
returns-clause-settled c = record {
  order = c.requires.order;
  gap = λ low.
      let held = c.args.self.now in
      byte_held-apart held.run held.run_end c.cut.new.self held.run_end (omega arith) ∙ c.cut.ensures.below held.run_end low
      ∙ sym (byte_held-apart held.run held.run_end held.apart held.run_end (omega arith)) ∙ c.requires.gap low;
}

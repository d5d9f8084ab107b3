use Rattle.std.proofs.Common.{refl, arith}
use Rattle.zk_reasm.proofs.HeldLemmas.{sound_same, kept-le, stays_same}
use Rattle.zk_reasm.proofs.held.Held.reserve.Goals as goal

pub overflow_add-apart : goal.overflow_add-apart
overflow_add-apart c = omega (arith, kept-le c.args.self.now)

pub invariant_of-self : goal.invariant_of-self
invariant_of-self c =
    let s = sound_same c.args.self.now c.reserve.new.self c.args.self.now.apart c.reserve.ensures.same c.reserve.ensures.room (λ at. refl) in
    record { start = s.start; end = s.«end»; front_within = s.front_within; kept_counts = s.kept_counts; above_counts = s.above_counts; room = s.room }

pub returns-clause-stays : goal.returns-clause-stays
returns-clause-stays c = stays_same c.args.self.now _ refl refl refl refl c.reserve.ensures.same (λ at. refl)

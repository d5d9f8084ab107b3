use Rattle.std.proofs.Common.{◌≡◌, ◌+◌, ◌-◌, max, min, ap, ◌∙◌, arith}
use Rattle.zk_reasm.specs.declared.place.TheConstants.{PLACES}
use Rattle.zk_reasm.specs.Between.{held_between}
use Rattle.zk_reasm.specs.Held.{byte_kept, taken_of}
use Rattle.zk_reasm.specs.Parts.{byte_held}
use Rattle.zk_reasm.proofs.FrontLemmas.{passed_counts, first_free_of, one_first_free, sound_passed}
use Rattle.zk_reasm.proofs.HeldLemmas.{above-le}
use Rattle.zk_reasm.proofs.held.Held.pass.Goals as goal

-- what is passed and what stays above the front is all that was above it
passed : (c : goal.After-count-held) → c.max-known.result - c.args.self.now.front + c.count-held.result + (c.min-front.result - c.min-behind_gaps.result)
    + held_between (byte_held c.args.self.now.run c.args.self.now.run_end c.args.self.now.apart) c.min-front.result PLACES ≡ c.args.self.now.above
unfolding taken_of
passed c =
    passed_counts c.args.self.now c.args.reach c.args.most c.max-known.result c.max-start.result c.first_free.result c.min-front.result c.min-behind_gaps.result c.count-held.result
    c.requires.taken c.max-known.ensures c.max-start.ensures c.first_free.ensures.least c.first_free.ensures.within c.first_free.ensures.before
    (omega arith) c.min-front.ensures c.min-behind_gaps.ensures c.count-held.ensures

pub overflow_add-self : goal.overflow_add-self
overflow_add-self c = omega (arith, passed c, above-le c.args.self.now)

pub overflow_add-self-2 : goal.overflow_add-self-2
overflow_add-self-2 c = omega (arith, passed c, above-le c.args.self.now)

pub overflow_sub-self-3 : goal.overflow_sub-self-3
overflow_sub-self-3 c = omega (arith, passed c)

pub invariant_of-self : goal.invariant_of-self
invariant_of-self c =
    let s = sound_passed c.args.self.now c.min-front.result _ (omega arith) (omega (arith, passed c)) in
    record { start = s.start; end = s.«end»; front_within = s.front_within; kept_counts = s.kept_counts; above_counts = s.above_counts; room = s.room }

pub returns-clause-front : goal.returns-clause-front
unfolding taken_of byte_kept
returns-clause-front c = λ free is.
    c.min-front.ensures
    ∙ ap (λ n. min n c.args.most)
    (one_first_free (byte_held c.args.self.now.run c.args.self.now.run_end c.args.self.now.apart) (max c.args.self.now.front c.args.reach) c.first_free.result free
    (first_free_of c.args.self.now c.args.reach c.max-known.result c.max-start.result c.first_free.result c.requires.taken c.max-known.ensures c.max-start.ensures
    c.first_free.ensures.least c.first_free.ensures.before c.first_free.ensures.free) is)

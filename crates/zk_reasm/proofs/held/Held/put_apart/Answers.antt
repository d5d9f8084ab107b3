use Rattle.std.proofs.Common.{length, Ok, Err, refl, arith}
use Rattle.std.specs.declared.result.Result.{Result}
use Rattle.std.specs.Result.{OnErr}
use Rattle.zk_reasm.specs.Held.{byte_kept}
use Rattle.zk_reasm.proofs.HeldLemmas.{sound_filled, sound_same, stays_same, kept-le, above-le, byte_held-filled, held_between-behind}
use Rattle.zk_reasm.proofs.held.Held.put_apart.Goals as goal

pub invariant_of-self : goal.invariant_of-self
invariant_of-self c =
    let s = sound_same c.args.self.now c.args.self.now.run c.put.new.self refl (omega arith) c.in_err-count.ensures.err in
    record { start = s.start; end = s.«end»; front_within = s.front_within; kept_counts = s.kept_counts; above_counts = s.above_counts; room = s.room }

at_err : {A E P : Type 0} (r : Result A E) → P → OnErr r P
at_err (Ok value) p = tt
at_err (Err error) p = p

pub returns-in_err-count-clause-err : goal.returns-in_err-count-clause-err
returns-in_err-count-clause-err c = at_err c.from_residual.result (stays_same c.args.self.now _ refl refl refl refl refl c.in_err-count.ensures.err)

pub overflow_add-self : goal.overflow_add-self
overflow_add-self c = omega (arith, kept-le c.args.self.now, c.in_ok-count.ensures.count)

pub overflow_add-self-2 : goal.overflow_add-self-2
overflow_add-self-2 c = omega (arith, above-le c.args.self.now, c.in_ok-count.ensures.count)

pub invariant_of-self-2 : goal.invariant_of-self-2
invariant_of-self-2 c =
    let s = sound_filled c.args.self.now c.put.new.self c.args.piece.now.at c.in_ok-count.count c.args.piece.now.bytes.now c.requires.run_end c.requires.front c.requires.within
    c.in_ok-count.ensures.bytes c.in_ok-count.ensures.count c.requires.room in
    record { start = s.start; end = s.«end»; front_within = s.front_within; kept_counts = s.kept_counts; above_counts = s.above_counts; room = s.room }

pub returns-clause-bytes : goal.returns-clause-bytes
unfolding byte_kept
returns-clause-bytes c = λ at.
    let held = c.args.self.now in
    byte_held-filled held.run held.run_end c.args.piece.now.at held.apart c.put.new.self c.args.piece.now.bytes.now c.requires.run_end c.in_ok-count.ensures.bytes at

pub returns-clause-count : goal.returns-clause-count
returns-clause-count c =
    let same = held_between-behind c.args.self.now c.args.piece.now.at (length c.args.piece.now.bytes.now) c.requires.run_end in
    omega (arith, same, c.in_ok-count.ensures.count)

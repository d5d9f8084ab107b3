use Rattle.std.proofs.Common.{◌+◌, sym, ◌∙◌, arith}
use Rattle.zk_reasm.specs.Held.{byte_kept, taken_of, lent_of}
use Rattle.zk_reasm.proofs.FrontLemmas.{sound_skipped}
use Rattle.zk_reasm.proofs.HeldLemmas.{byte_held-apart}
use Rattle.zk_reasm.proofs.held.Held.skip.Goals as goal

pub invariant_of-self : goal.invariant_of-self
unfolding lent_of byte_kept
invariant_of-self c =
    let held = c.args.self.now in
    let s = sound_skipped held (held.run_end + c.args.n) c.requires.empty (omega arith) c.requires.within c.requires.none in
    record { start = s.start; end = s.«end»; front_within = s.front_within; kept_counts = s.kept_counts; above_counts = s.above_counts; room = s.room }

pub returns-clause-bytes : goal.returns-clause-bytes
unfolding byte_kept taken_of lent_of
returns-clause-bytes c = λ at low.
    let held = c.args.self.now in
    c.settle.ensures.bytes at (omega (arith, low, c.settle.ensures.taken))
    ∙ byte_held-apart held.run (held.run_end + c.args.n) held.apart at (omega (arith, low, c.settle.ensures.taken, c.requires.empty))
    ∙ sym (byte_held-apart held.run held.run_end held.apart at (omega (arith, low, c.settle.ensures.taken, c.requires.empty)))

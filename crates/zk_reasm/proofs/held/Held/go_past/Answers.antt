use Rattle.std.proofs.Common.{◌+◌, sym, ◌∙◌, arith}
use Rattle.zk_reasm.specs.Held.{byte_kept}
use Rattle.zk_reasm.proofs.HeldLemmas.{byte_held-apart, sound_past}
use Rattle.zk_reasm.proofs.held.Held.go_past.Goals as goal

pub invariant_of-self : goal.invariant_of-self
invariant_of-self c =
    let s = (sound_past c.args.self.now c.args.n c.requires.nothing c.requires.taken c.requires.within).0 in
    record { start = s.start; end = s.«end»; front_within = s.front_within; kept_counts = s.kept_counts; above_counts = s.above_counts; room = s.room }

pub returns-clause-bytes : goal.returns-clause-bytes
unfolding byte_kept
returns-clause-bytes c = λ at low.
    let held = c.args.self.now in
    byte_held-apart held.run (held.run_end + c.args.n) held.apart at (omega (arith, low, c.requires.taken))
    ∙ sym (byte_held-apart held.run held.run_end held.apart at (omega (arith, low, c.requires.taken)))

pub returns-clause-above : goal.returns-clause-above
returns-clause-above c = (sound_past c.args.self.now c.args.n c.requires.nothing c.requires.taken c.requires.within).1

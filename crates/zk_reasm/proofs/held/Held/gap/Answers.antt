use Rattle.std.proofs.Common.{◌≡◌, ◌+◌, ◌-◌, ap, ◌∙◌, arith}
use Rattle.std.specs.Option.{is_some}
use Rattle.zk_reasm.specs.Apart.{byte_apart}
use Rattle.zk_reasm.specs.Held.{byte_kept}
use Rattle.zk_reasm.proofs.HeldLemmas.{byte_held-apart}
use Rattle.zk_reasm.proofs.held.Held.gap.Goals as goal
use Rattle.zk_reasm.proofs.held.Held.gap.Goals.{in-Some, in-None}

pub returns-clause-none : goal.returns-clause-none
unfolding byte_kept
returns-clause-none c = λ at low high.
    let held = c.args.self.now in
    byte_held-apart held.run held.run_end held.apart at low
    ∙ elim c.match-first_held.branch [
      | in-Some w ↦ w.in-Some.ensures.3 at low (omega (arith, low, high, w.end-is, w.min-end.ensures))
      | in-None w ↦ w.in-None.ensures at low
    ]

pub returns-clause-end : goal.returns-clause-end
unfolding byte_kept
returns-clause-end c = λ short.
    let held = c.args.self.now in
    elim c.match-first_held.branch [
      | in-Some w ↦ (let here : held.run_end + (c.match-first_held.end - held.run_end) ≡ w.in-Some.place = omega (arith, short, w.end-is, w.min-end.ensures, w.in-Some.ensures.0) in
          ap is_some (byte_held-apart held.run held.run_end held.apart (held.run_end + (c.match-first_held.end - held.run_end)) (omega arith))
          ∙ ap (λ at. is_some (byte_apart held.apart at)) here ∙ w.in-Some.ensures.2)
      | in-None w ↦ absurd (omega (arith, short, w.end-is, c.if-self.false))
    ]

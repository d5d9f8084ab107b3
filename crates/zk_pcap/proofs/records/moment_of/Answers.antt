use Rattle.std.proofs.Common.{ℕ, ◌+◌, ◌*◌, ◌<◌, ◌≤◌, ◌^◌, w64, ap, arith}
use Rattle.std.proofs.lemmas.Int.{to_z_pos}
use Rattle.zk_base.specs.declared.time.Moment.{Moment}
use Rattle.zk_pcap.proofs.records.moment_of.Goals as goal
use Rattle.zk_pcap.proofs.records.moment_of.Goals.{then-nano, else-nano}

pub returns-clause-bound : goal.returns-clause-bound
returns-clause-bound c =
    let fraction : c.if-nano.microseconds ≤ c.args.fraction = elim c.if-nano.branch [ then-nano w ↦ omega (arith, w.microseconds-is) | else-nano w ↦ omega (arith, w.microseconds-is) ] in
    let micros : ℕ = c.from.result * 1000000 + c.from-2.result in
    let small : micros < 2 ^ 62 = omega (arith, fraction, c.from.ensures, c.from-2.ensures, c.ranges.seconds.fits, c.ranges.fraction.fits) in
    (micros, small, ap (λ z. let moment : Moment = record { 0 = z } in moment) (to_z_pos w64 micros (omega (arith, small))))

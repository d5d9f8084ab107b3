use Rattle.std.proofs.Common.{IsSome, sym, ap, ◌∙◌, ⊎_elim, arith}
use Rattle.std.specs.Option.{is_some}
use Rattle.std.proofs.lemmas.Bool.{cases_lt}
use Rattle.zk_reasm.specs.Stretch.{byte_in_stretch}
use Rattle.zk_reasm.proofs.ScatteredLemmas.{one_place}
use Rattle.zk_reasm.proofs.PieceLemmas.{byte_in-within}
use Rattle.zk_reasm.proofs.scattered.Scattered.cut.Goals as goal

pub invariant_of-self : goal.invariant_of-self
invariant_of-self c = record {
  once = λ at low high.
      let last = c.cut-2.new.self in
      ⊎_elim
      (λ below.
      let there : IsSome (byte_in_stretch last at) = byte_in-within last.at last.bytes.items at low (omega (arith, high, last.bytes.ok.0)) in
      c.cut.ensures.below at below ∙ one_place c.args.self.now at (sym (ap is_some (c.cut-2.ensures.below at below)) ∙ there))
      (c.cut.ensures.above at)
      (cases_lt at c.args.from);
}

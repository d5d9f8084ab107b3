use Rattle.std.proofs.Common.{◌≡◌, ℕ, ◌+◌, ◌<◌, get_or, take, length, sym, ap, ◌∙◌, arith, rules}
use Rattle.std.proofs.lemmas.Grind.{common_steps}
use Rattle.std.specs.Option.{option_or}
use Rattle.zk_frag.specs.Fragment.{byte_of}
use Rattle.zk_frag.specs.Buffer.{byte_held}
use Rattle.zk_frag.proofs.PlaceLemmas.{one_byte, option_or_assoc, held_put, held_keep, byte_of_more}
use Rattle.zk_frag.proofs.assembly.fill.Goals as goal
use Rattle.zk_frag.proofs.assembly.fill.Goals.{then-not-covered-at, else-not-covered-at}

pub loop-k-preserved : goal.loop-k-preserved
loop-k-preserved c =
    let k = c.loop-k.k in
    let at = c.args.place + k in
    let byte = get_or c.args.payload.now k 0 in
    let within : k < length c.args.payload.now = omega arith in
    let step : (i : ℕ) → byte_held c.if-not-covered-at.bytes c.if-not-covered-at.covered i
    ≡ option_or (byte_held c.loop-k.bytes c.loop-k.covered i) (one_byte at byte i) =
    λ i. elim c.if-not-covered-at.branch [
      | then-not-covered-at w ↦ rw (w.bytes-is, w.covered-is)
          (held_put c.loop-k.bytes c.loop-k.covered at byte i (omega arith) (omega arith) (search rules))
      | else-not-covered-at w ↦ rw (w.bytes-is, w.covered-is)
          (held_keep c.loop-k.bytes c.loop-k.covered at byte i (search rules))
    ] in
    record {
      first = λ i. step i
          ∙ ap (λ o. option_or o (one_byte at byte i)) (c.loop-k.invariant.first i)
          ∙ option_or_assoc (byte_held c.args.bytes.now c.args.covered.now i) (byte_of c.args.place (take k c.args.payload.now) i) (one_byte at byte i)
          ∙ ap (option_or (byte_held c.args.bytes.now c.args.covered.now i)) (sym (byte_of_more c.args.place c.args.payload.now k i within));
      kept = λ i was. elim c.if-not-covered-at.branch [
        | then-not-covered-at w ↦ rw w.covered-is (grind (arith, common_steps, c.loop-k.invariant.kept i was))
        | else-not-covered-at w ↦ rw w.covered-is (c.loop-k.invariant.kept i was)
      ];
    }

pub returns : goal.returns
returns c = record {
  first = λ i. c.loop-k.invariant.first i ∙ ap (λ xs. option_or (byte_held c.args.bytes.now c.args.covered.now i) (byte_of c.args.place xs i)) (grind (arith, common_steps));
  kept = c.loop-k.invariant.kept;
}

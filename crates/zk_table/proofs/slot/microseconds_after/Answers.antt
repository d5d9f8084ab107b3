use Rattle.std.proofs.Common.{◌≡◌, ◌∙◌, ◌-◌, ◌^◌, pos, negsuc, ◌+ℤ◌, ◌≤ℤ◌, to_z, of_z, w64, ap, arith}
use Rattle.std.specs.Int.{int_min, int_max, saturate_to_bits}
use Rattle.std.proofs.lemmas.Int.{ints, to_z-of_z}
use Rattle.zk_table.proofs.MomentLemmas.{saturated}
use Rattle.zk_table.proofs.slot.microseconds_after.Goals as goal

pub returns : goal.returns
returns c =
    let low : negsuc (2 ^ 63 - 1) ≤ℤ (c.args.since +ℤ c.max.result) = grind (arith, ints) in
    let sum : c.saturating_add.result ≡ saturate_to_bits 63 (c.args.since +ℤ c.max.result) = grind (arith, to_z-of_z) in
    let length : c.max.result ≡ int_max c.args.span (pos 0) = grind (arith, to_z-of_z) in
    let back : to_z w64 (of_z w64 c.saturating_add.result) ≡ c.saturating_add.result = grind (arith, to_z-of_z) in
    back ∙ sum ∙ saturated (c.args.since +ℤ c.max.result) low
    ∙ ap (λ m. int_min (c.args.since +ℤ m) (pos (2 ^ 63 - 1))) length

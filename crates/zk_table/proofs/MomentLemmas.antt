-- Moments after others.
use Rattle.std.proofs.Common.{◌≡◌, ◌-◌, ◌^◌, ℤ, pos, negsuc, ◌≤ℤ◌, ap, arith}
use Rattle.std.specs.Int.{int_min, saturate_to_bits}
use Rattle.std.proofs.lemmas.Int.{ints}
use Rattle.std.proofs.lemmas.Bool.Decides.{nat_tests}

-- what is not below the first moment is cut at the last one
pub saturated : (z : ℤ) → negsuc (2 ^ 63 - 1) ≤ℤ z → saturate_to_bits 63 z ≡ int_min z (pos (2 ^ 63 - 1))
saturated (pos n) low = grind (arith, ints, nat_tests)
saturated (negsuc n) low = ap (λ k. negsuc k) (grind (arith, ints))

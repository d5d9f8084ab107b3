-- The number that decimal digits write, digit by digit.
use Rattle.std.proofs.Common.{◌≡◌, ℕ, suc, ◌+◌, ◌-◌, ◌*◌, ◌^◌, ◌<◌, ◌≤◌, true, List, length, take, get_or, sym, ap, ◌∙◌, arith}
use Rattle.std.specs.Prelude.{nat_le, slice_index}
use Rattle.std.specs.Char.{is_ascii_digit, digit_value}
use Rattle.std.specs.List.{list_all}
use Rattle.std.specs.Str.Parse.{digits_value}
use Rattle.std.proofs.lemmas.Bool.{and_parts, leb-true}
use Rattle.std.proofs.lemmas.Bool.Decides.{nat_tests}
use Rattle.std.proofs.lemmas.Int.Digits.{digits_value_more}
use Rattle.std.proofs.lemmas.List.Folds.{list_all_more}
use Rattle.std.proofs.Math.Nat.{pow-succ', pow-le-pow_right}

ten_more : (i : ℕ) → 10 ^ (i + 1) ≡ 10 * 10 ^ i
ten_more i =
    let next : i + 1 ≡ suc i = omega arith in
    ap (λ n. 10 ^ n) next ∙ pow-succ' 10 i

-- one more digit
pub digit_more : (number i digit : ℕ) → number < 10 ^ i → digit < 10 → number * 10 + digit < 10 ^ (i + 1)
digit_more number i digit bound small = omega (arith, ten_more i)

-- at most 18 digits
pub fits_digits : (number i : ℕ) → number < 10 ^ i → i ≤ 18 → number < 1000000000000000000
fits_digits number i bound few =
    let most : 10 ^ i ≤ 10 ^ 18 = pow-le-pow_right {n = 10} (omega arith) few in
    omega arith

pub digit_is : (byte : ℕ) → is_ascii_digit byte ≡ true → (48 ≤ byte) × (byte ≤ 57) × (digit_value byte ≡ byte - 48)
digit_is byte is =
    let parts = and_parts (nat_le 48 byte) (nat_le byte 57) is in
    let low : 48 ≤ byte = leb-true 48 byte parts.0 in
    let high : byte ≤ 57 = leb-true byte 57 parts.1 in
    (low, high, value byte low high)
  where
    value : (byte : ℕ) → 48 ≤ byte → byte ≤ 57 → digit_value byte ≡ byte - 48
    value byte low high = grind (arith, nat_tests)

-- what holds of the digits up to one more
pub record AreDigits (element : List ℕ) (number i : ℕ) : Type 0 where
  pub digits : list_all is_ascii_digit (take i element) ≡ true
  pub value : number ≡ digits_value 10 (take i element)
  pub bound : number < 10 ^ i

pub digits_more : (element : List ℕ) (number i byte : ℕ) → AreDigits element number i → i < length element → slice_index element i ≡ byte
    → is_ascii_digit byte ≡ true → AreDigits element (number * 10 + (byte - 48)) (i + 1)
digits_more element number i byte are lt at is =
    let digit = digit_is byte is in
    record {
      digits = list_all_more is_ascii_digit element i 0 lt ∙ rw (are.digits, at) is;
      value = sym (digits_value_more 10 element i lt ∙ ap (λ n. n * 10 + digit_value (get_or element i 0)) (sym are.value)
          ∙ ap (λ b. number * 10 + digit_value b) at ∙ ap (λ n. number * 10 + n) digit.2);
      bound = digit_more number i (byte - 48) are.bound (omega arith);
    }

-- Which words are read as numbers: those that numbers are written as.
use Rattle.std.proofs.Common.{◌≡◌, ℕ, zero, suc, ◌+◌, ◌-◌, ◌*◌, ◌^◌, ◌<◌, ◌≤◌, Bool, true, false, if◌then◌else◌, List, [], ◌∷◌, length, get_or, codes, decimal, Some, None, nat_le, refl, sym, ap, subst, ◌∙◌, arith, rules}
use Rattle.std.specs.Prelude.{◌&&◌, ◌==◌}
use Rattle.std.specs.Char.{is_ascii_digit}
use Rattle.std.specs.Str.{all_ascii_digits, bytes_eq}
use Rattle.std.proofs.lemmas.Bool.{and_parts, and_from, leb-true, le-leb, eq-eqb, ne_eqb}
use Rattle.std.proofs.lemmas.Fmt.{decimal-digits_value, digits_decimal, digits_value-decimal, decimal_nonempty, first_decimal, decimal_injective, decimal_digit}
use Rattle.std.proofs.lemmas.Slice.Eq.{bytes_eq-Decides}
use Rattle.std.proofs.lemmas.Str.Parse.{IsNumeralModel, numerals_by_fold}
use Rattle.zk_command.specs.Command.{number_from, number_in, number_to}

-- the number that digits go on with
abbrev read_on : ℕ → List ℕ → ℕ
read_on number [] = number
read_on number (byte ∷ bytes) = read_on (number * 10 + (byte - 48)) bytes

digits : IsNumeralModel (λ bytes. all_ascii_digits bytes ≡ true) (read_on 0)
digits = numerals_by_fold _ (search rules) read_on (search rules)

-- the more digits, the greater
grows : (number : ℕ) (bytes : List ℕ) → number ≤ read_on number bytes
grows number [] = omega arith
grows number (byte ∷ bytes) = let far : number * 10 + (byte - 48) ≤ read_on (number * 10 + (byte - 48)) bytes = grows (number * 10 + (byte - 48)) bytes in omega (arith, far)

-- what is read is a number in digits, within the limit
record Reads (most number n : ℕ) (bytes : List ℕ) : Type 0 where
  all : all_ascii_digits bytes ≡ true
  is : read_on number bytes ≡ n
  within : n ≤ most

read_digits : (most number n : ℕ) (bytes : List ℕ) → number ≤ most → number_from most number bytes ≡ Some n → Reads most number n bytes
read_digits most number n [] less is =
    let same : number ≡ n = cc in
    record { all = refl; is = same; within = omega (arith, less, same) }
read_digits most number n (byte ∷ bytes) less is =
    by (is_ascii_digit byte && nat_le (number * 10 + (byte - 48)) most) refl is (λ within. read_digits most (number * 10 + (byte - 48)) n bytes within)
  where
    by : (good : Bool) → (is_ascii_digit byte && nat_le (number * 10 + (byte - 48)) most) ≡ good
        → (if good then number_from most (number * 10 + (byte - 48)) bytes else None) ≡ Some n
        → (number * 10 + (byte - 48) ≤ most → number_from most (number * 10 + (byte - 48)) bytes ≡ Some n → Reads most (number * 10 + (byte - 48)) n bytes)
        → Reads most number n (byte ∷ bytes)
    by false good same behind = absurd (let never : ⊥ = cc in never)
    by true good same behind =
        let parts = and_parts (is_ascii_digit byte) (nat_le (number * 10 + (byte - 48)) most) good in
        let rest = behind (leb-true (number * 10 + (byte - 48)) most parts.1) same in
        record { all = and_from (is_ascii_digit byte) (all_ascii_digits bytes) parts.0 rest.all; is = rest.is; within = rest.within }

digits_read : (most number : ℕ) (bytes : List ℕ) → all_ascii_digits bytes ≡ true → read_on number bytes ≤ most → number_from most number bytes ≡ Some (read_on number bytes)
digits_read most number [] all within = refl
digits_read most number (byte ∷ bytes) all within =
    let parts = and_parts (is_ascii_digit byte) (all_ascii_digits bytes) all in
    let far : number * 10 + (byte - 48) ≤ read_on (number * 10 + (byte - 48)) bytes = grows (number * 10 + (byte - 48)) bytes in
    let small : number * 10 + (byte - 48) ≤ most = omega (arith, far, within) in
    let good : (is_ascii_digit byte && nat_le (number * 10 + (byte - 48)) most) ≡ true =
    and_from (is_ascii_digit byte) (nat_le (number * 10 + (byte - 48)) most) parts.0 (le-leb (number * 10 + (byte - 48)) most small) in
    ap (λ g. if g then number_from most (number * 10 + (byte - 48)) bytes else None) good ∙ digits_read most (number * 10 + (byte - 48)) bytes parts.1 within

-- Numbers from 1 on -----------------------------------------------------------------------------------------------------

-- a word is read as a number from 1 to a limit exactly if it is how that is written
pub read_in : (most n : ℕ) (word : List ℕ) → most < 2 ^ 64 → number_in most word ≡ Some n → (1 ≤ n) × (n ≤ most) × (word ≡ decimal n)
read_in most n [] small is = absurd (let never : ⊥ = cc in never)
read_in most n (first ∷ others) small is = by (first == 48) refl is
  where
    by : (is_zero : Bool) → (first == 48) ≡ is_zero → (if is_zero then None else number_from most 0 (first ∷ others)) ≡ Some n → (1 ≤ n) × (n ≤ most) × (first ∷ others ≡ decimal n)
    by true zero_first same = absurd (let never : ⊥ = cc in never)
    by false zero_first same =
        let reads = read_digits most 0 n (first ∷ others) (omega arith) same in
        let not_zero : first ≡ 48 → ⊥ = λ is_48. (let clash : false ≡ true = sym zero_first ∙ eq-eqb first 48 is_48 in let never : ⊥ = cc in never) in
        let value : read_on 0 (first ∷ others) < 2 ^ 64 = omega (arith, reads.is, reads.within, small) in
        let written : decimal n ≡ first ∷ others = ap decimal (sym reads.is)
        ∙ decimal-digits_value digits (first ∷ others) reads.all (omega arith) (λ first_48. absurd (not_zero first_48)) value in
        (positive n written not_zero, reads.within, sym written)
      where
        positive : (m : ℕ) → decimal m ≡ first ∷ others → (first ≡ 48 → ⊥) → 1 ≤ m
        positive zero written not_zero = absurd (not_zero (ap (λ bytes. get_or bytes 0 0) (sym written ∙ decimal_digit 0 (omega arith))))
        positive (suc m) written not_zero = omega arith

pub in_read : (most n : ℕ) → most < 2 ^ 64 → 1 ≤ n → n ≤ most → number_in most (decimal n) ≡ Some n
in_read most n small some within =
    let value : n < 2 ^ 64 = omega (arith, small, within) in
    by (decimal n) (decimal_nonempty n value) (first_decimal n (omega (arith, some)) value) (digits_decimal digits n value) (digits_value-decimal digits n value)
  where
    by : (word : List ℕ) → 0 < length word → 48 < get_or word 0 0 → all_ascii_digits word ≡ true → read_on 0 word ≡ n → number_in most word ≡ Some n
    by [] there great all is = absurd (omega (arith, there))
    by (first ∷ others) there great all is =
        let not_zero : (first == 48) ≡ false = ne_eqb first 48 (λ same. omega (arith, same, great)) in
        ap (λ z. if z then None else number_from most 0 (first ∷ others)) not_zero
        ∙ digits_read most 0 (first ∷ others) all (omega (arith, is, within)) ∙ ap Some is

-- Numbers from 0 on -----------------------------------------------------------------------------------------------------

pub read_to : (most n : ℕ) (word : List ℕ) → most < 2 ^ 64 → number_to most word ≡ Some n → (n ≤ most) × (word ≡ decimal n)
read_to most n word small is = by (bytes_eq word (codes "0")) refl is
  where
    by : (is_zero : Bool) → bytes_eq word (codes "0") ≡ is_zero → (if is_zero then Some 0 else number_in most word) ≡ Some n → (n ≤ most) × (word ≡ decimal n)
    by true here same =
        let none : 0 ≡ n = cc in
        (subst (λ m. m ≤ most) none (omega arith), (bytes_eq-Decides word (codes "0")).0 here ∙ sym (decimal_digit 0 (omega arith)) ∙ ap decimal none)
    by false here same = let read = read_in most n word small same in (read.1, read.2)

pub to_read : (most n : ℕ) → most < 2 ^ 64 → n ≤ most → number_to most (decimal n) ≡ Some n
to_read most zero small within = ap (number_to most) (decimal_digit 0 (omega arith))
to_read most (suc n) small within = by (bytes_eq (decimal (suc n)) (codes "0")) refl
  where
    by : (is_zero : Bool) → bytes_eq (decimal (suc n)) (codes "0") ≡ is_zero → (if is_zero then Some 0 else number_in most (decimal (suc n))) ≡ Some (suc n)
    by true here =
        let same : decimal (suc n) ≡ decimal 0 = (bytes_eq-Decides (decimal (suc n)) (codes "0")).0 here ∙ sym (decimal_digit 0 (omega arith)) in
        let none : suc n ≡ 0 = decimal_injective (suc n) 0 (omega (arith, small, within)) (omega arith) same in
        absurd (omega (arith, none))
    by false here = in_read most (suc n) small (omega arith) within

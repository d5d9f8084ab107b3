-- The text of a time or an interval tells the number: no two of 64 bits have the same one.
use Rattle.std.proofs.Common.{◌≡◌, ℕ, zero, suc, ◌+◌, ◌/◌, ◌%◌, ◌^◌, ◌<◌, ◌≤◌, ◌-◌, List, ◌∷◌, ◌++◌, length, take, drop, get_or, replicate, codes, decimal, ℤ, pos, negsuc, FitsSigned, w64, refl, sym, ap, ◌∙◌, arith, length-append}
use Rattle.std.proofs.lemmas.Fmt.{decimal_is_IsNumeral, decimal_injective}
use Rattle.std.proofs.lemmas.List.{take_at, drop_at, get_or_append_left}
use Rattle.std.proofs.lemmas.Str.Parse.{digit_at}
use Rattle.std.specs.Str.Parse.{digits_value}
use Rattle.zk_text.proofs.Seconds.{length-padded_decimal, length-rest}
use Rattle.zk_text.specs.Span.{padded_decimal, seconds_decimal, span_decimal}

-- zeros in front do not change what digits write
value-zeros : (k : ℕ) (ds : List ℕ) → digits_value 10 (replicate k 48 ++ ds) ≡ digits_value 10 ds
value-zeros zero ds = refl
value-zeros (suc k) ds = value-zeros k ds

value-padded_decimal : (width n : ℕ) → n < 2 ^ 64 → digits_value 10 (padded_decimal width n) ≡ n
value-padded_decimal width n h =
    value-zeros (width - length (decimal n)) (decimal n) ∙ (decimal_is_IsNumeral n h).1

padded_decimal_injective : (width m n : ℕ) → m < 2 ^ 64 → n < 2 ^ 64 → padded_decimal width m ≡ padded_decimal width n → m ≡ n
padded_decimal_injective width m n hm hn e =
    sym (value-padded_decimal width m hm) ∙ ap (digits_value 10) e ∙ value-padded_decimal width n hn

-- two equal texts whose ends are equally long have the same fronts and the same ends
same_parts : (a b x y : List ℕ) → length x ≡ length y → a ++ x ≡ b ++ y → (a ≡ b) × (x ≡ y)
same_parts a b x y long e =
    let whole : length a + length x ≡ length b + length y = sym (length-append a x) ∙ ap length e ∙ length-append b y in
    let front : length b ≡ length a = omega arith in (
      sym (take_at a x (length a) refl) ∙ ap (take (length a)) e ∙ take_at b y (length a) front,
      sym (drop_at a x (length a) refl) ∙ ap (drop (length a)) e ∙ drop_at b y (length a) front,
    )

pub seconds_decimal_injective : (m n : ℕ) → m < 2 ^ 64 → n < 2 ^ 64 → seconds_decimal m ≡ seconds_decimal n → m ≡ n
seconds_decimal_injective m n hm hn e =
    let rests : length (padded_decimal 6 (m % 1000000)) ≡ length (padded_decimal 6 (n % 1000000)) =
    length-padded_decimal 6 (m % 1000000) (length-rest m) ∙ sym (length-padded_decimal 6 (n % 1000000) (length-rest n)) in
    let parts = same_parts (decimal (m / 1000000) ++ codes ".") (decimal (n / 1000000) ++ codes ".") (padded_decimal 6 (m % 1000000)) (padded_decimal 6 (n % 1000000)) rests e in
    let points = same_parts (decimal (m / 1000000)) (decimal (n / 1000000)) (codes ".") (codes ".") refl parts.0 in
    let whole = decimal_injective (m / 1000000) (n / 1000000) (omega arith) (omega arith) points.0 in
    let rest = padded_decimal_injective 6 (m % 1000000) (n % 1000000) (omega arith) (omega arith) parts.1 in
    omega arith

-- a number of seconds begins with a digit, and so with no sign
first-seconds_decimal : (n : ℕ) → n < 2 ^ 64 → 48 ≤ get_or (seconds_decimal n) 0 0
first-seconds_decimal n h =
    let numeral = (decimal_is_IsNumeral (n / 1000000) (omega arith)).0 in
    let digit = digit_at (decimal (n / 1000000)) 0 numeral.1 numeral.0 in
    let long : 0 < length (decimal (n / 1000000) ++ codes ".") = rw length-append (omega (arith, numeral.0)) in
    rw (get_or_append_left (decimal (n / 1000000) ++ codes ".") (padded_decimal 6 (n % 1000000)) 0 0 long, get_or_append_left (decimal (n / 1000000)) (codes ".") 0 0 numeral.0) (omega (arith, digit))

no_sign : (m n : ℕ) → m < 2 ^ 64 → ¬ (seconds_decimal m ≡ 45 ∷ seconds_decimal n)
no_sign m n h e =
    let first = ap (λ (l : List ℕ). get_or l 0 0) e in omega (arith, first-seconds_decimal m h, first)

pub span_decimal_injective : (y z : ℤ) → FitsSigned w64 y → FitsSigned w64 z → span_decimal y ≡ span_decimal z → y ≡ z
unfolding span_decimal
span_decimal_injective (pos m) (pos n) hy hz e =
    ap pos (seconds_decimal_injective m n (omega (arith, hy.sfits)) (omega (arith, hz.sfits)) e)
span_decimal_injective (pos m) (negsuc n) hy hz e = absurd (no_sign m (suc n) (omega (arith, hy.sfits)) e)
span_decimal_injective (negsuc m) (pos n) hy hz e = absurd (no_sign n (suc m) (omega (arith, hz.sfits)) (sym e))
span_decimal_injective (negsuc m) (negsuc n) hy hz e =
    let same = seconds_decimal_injective (suc m) (suc n) (omega (arith, hy.sfits)) (omega (arith, hz.sfits)) (ap (drop 1) e) in
    ap negsuc (omega arith)

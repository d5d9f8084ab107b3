-- How the text of a number of microseconds comes about: the rest of a second is written behind a one, which keeps its zeros.
use Rattle.std.proofs.Common.{◌≡◌, ℕ, suc, ◌<◌, ◌≤◌, ◌+◌, ◌-◌, ◌*◌, ◌/◌, ◌%◌, ◌^◌, List, [], ◌∷◌, ◌++◌, length, get_or, drop, take, replicate, codes, decimal, ℤ, pos, negsuc, ◌≤ℤ◌, ◌<ℤ◌, unsigned_abs, refl, sym, ap, ◌∙◌, arith, append_assoc, length-append, drop-cons, inl, inr}
use Rattle.std.proofs.Math.ListN.{set}
use Rattle.std.proofs.lemmas.Bool.{cases_lt}
use Rattle.std.proofs.lemmas.Fmt.{decimal_digit, decimal_step, length-decimal-le}
use Rattle.std.proofs.lemmas.Int.{ints}
use Rattle.std.proofs.lemmas.List.{drop-set, length-replicate, replicate_more, take-take}
use Rattle.zk_text.specs.Span.{padded_decimal, seconds_decimal, span_decimal}

-- a number below ten, with zeros before it
padded_digit : (w r : ℕ) → r < 10 → padded_decimal (w + 2) r ≡ padded_decimal (w + 1) 0 ++ ((48 + r) ∷ [])
padded_digit w r h =
    let none : w + 1 - 1 ≡ w = omega arith in
    let more : w + 2 - 1 ≡ w + 1 = omega arith in
    rw (decimal_digit r h, decimal_digit 0 (omega arith), none, more, replicate_more {X = ℕ} w 48) refl

-- the last digit of a greater one stands behind the others
padded_step : (w r : ℕ) → 10 ≤ r → r < 2 ^ 64 → padded_decimal (w + 2) r ≡ padded_decimal (w + 1) (r / 10) ++ ((48 + r % 10) ∷ [])
padded_step w r h fits =
    let long : length (decimal r) ≡ length (decimal (r / 10)) + 1 = rw (decimal_step r h fits) (length-append (decimal (r / 10)) ((48 + r % 10) ∷ [])) in
    let zeros : w + 2 - length (decimal r) ≡ w + 1 - length (decimal (r / 10)) = omega arith in
    rw (zeros, decimal_step r h fits, append_assoc) refl

padded_more : (w r : ℕ) → r < 2 ^ 64 → padded_decimal (w + 2) r ≡ padded_decimal (w + 1) (r / 10) ++ ((48 + r % 10) ∷ [])
padded_more w r fits =
    elim (cases_lt r 10) [
      | inl h ↦ let front : r / 10 ≡ 0 = omega arith in let last : r % 10 ≡ r = omega arith in rw (front, last) (padded_digit w r h)
      | inr h ↦ padded_step w r h fits
    ]

-- a one before some digits keeps the zeros that they begin with, and so before one digit more
led_step : (p w r : ℕ) → 0 < p → 10 * p + r < 2 ^ 64 → decimal (p + r / 10) ≡ 49 ∷ padded_decimal (w + 1) (r / 10) → decimal (10 * p + r) ≡ 49 ∷ padded_decimal (w + 2) r
led_step p w r some fits front =
    let tens : (10 * p + r) / 10 ≡ p + r / 10 = omega arith in
    let last : (10 * p + r) % 10 ≡ r % 10 = omega arith in
    decimal_step (10 * p + r) (omega arith) fits ∙ rw (tens, last, front) (ap (λ (l : List ℕ). 49 ∷ l) (sym (padded_more w r (omega arith))))

led_1 : (r : ℕ) → r < 10 → decimal (10 + r) ≡ 49 ∷ padded_decimal 1 r
led_1 r h =
    let tens : (10 + r) / 10 ≡ 1 = omega arith in
    let last : (10 + r) % 10 ≡ r = omega arith in
    decimal_step (10 + r) (omega arith) (omega arith) ∙ rw (tens, last, decimal_digit 1 (omega arith), decimal_digit r h) refl

led_2 : (r : ℕ) → r < 100 → decimal (100 + r) ≡ 49 ∷ padded_decimal 2 r
led_2 r h = led_step 10 0 r (omega arith) (omega arith) (led_1 (r / 10) (omega arith))

led_3 : (r : ℕ) → r < 1000 → decimal (1000 + r) ≡ 49 ∷ padded_decimal 3 r
led_3 r h = led_step 100 1 r (omega arith) (omega arith) (led_2 (r / 10) (omega arith))

led_4 : (r : ℕ) → r < 10000 → decimal (10000 + r) ≡ 49 ∷ padded_decimal 4 r
led_4 r h = led_step 1000 2 r (omega arith) (omega arith) (led_3 (r / 10) (omega arith))

led_5 : (r : ℕ) → r < 100000 → decimal (100000 + r) ≡ 49 ∷ padded_decimal 5 r
led_5 r h = led_step 10000 3 r (omega arith) (omega arith) (led_4 (r / 10) (omega arith))

-- the rest of a second behind a one
pub led_rest : (r : ℕ) → r < 1000000 → decimal (1000000 + r) ≡ 49 ∷ padded_decimal 6 r
led_rest r h = led_step 100000 4 r (omega arith) (omega arith) (led_5 (r / 10) (omega arith))

-- the point is written over the one
pub pointed : (bytes text : List ℕ) (start : ℕ) → start < length bytes → drop start bytes ≡ 49 ∷ text → drop start (set bytes start 46) ≡ 46 ∷ text
pointed bytes text start within written =
    let one : drop start bytes ≡ get_or bytes start 0 ∷ drop (suc start) bytes = drop-cons bytes start 0 within in
    let next : start + 1 ≡ suc start = omega arith in
    let behind : drop (suc start) bytes ≡ text = cc in
    rw (drop-set bytes start 46 within, next, behind) refl

-- the rest of a second has six digits at most
pub length-rest : (n : ℕ) → length (decimal (n % 1000000)) ≤ 6
length-rest n = length-decimal-le 6 (n % 1000000) (omega arith) (omega arith) (omega arith)

-- the whole seconds of 64 bits have thirteen digits at most
pub length-whole : (n : ℕ) → n ≤ 2 ^ 63 → length (decimal (n / 1000000)) ≤ 13
length-whole n h = length-decimal-le 13 (n / 1000000) (omega arith) (omega arith) (omega arith)

pub length-padded_decimal : (width n : ℕ) → length (decimal n) ≤ width → length (padded_decimal width n) ≡ width
length-padded_decimal width n h =
    length-append (replicate (width - length (decimal n)) 48) (decimal n) ∙ rw (length-replicate {A = ℕ} (width - length (decimal n)) 48) (omega arith)

-- with a second added to it, seven
pub length-led : (r : ℕ) → r < 1000000 → length (decimal (1000000 + r)) ≡ 7
length-led r h =
    let six = length-padded_decimal 6 r (length-decimal-le 6 r (omega arith) (omega arith) (omega arith)) in
    let whole = ap length (led_rest r h) in
    omega (arith, six, whole)

-- the point and the rest have seven
pub length-seconds : (n : ℕ) → length (seconds_decimal n) ≡ length (decimal (n / 1000000)) + 7
length-seconds n =
    let six = length-padded_decimal 6 (n % 1000000) (length-rest n) in
    let all = length-append (decimal (n / 1000000) ++ codes ".") (padded_decimal 6 (n % 1000000)) in
    let pointed = length-append (decimal (n / 1000000)) (codes ".") in
    let point : length (codes ".") ≡ 1 = refl in
    omega (arith, six, all, pointed, point)

-- a number that is not negative has no sign
pub span_decimal_plain : (z : ℤ) → pos 0 ≤ℤ z → span_decimal z ≡ seconds_decimal (unsigned_abs z)
unfolding span_decimal
span_decimal_plain (pos n) h = refl
span_decimal_plain (negsuc n) h = absurd (omega (arith, ints))

-- a negative number has one
pub span_decimal_minus : (z : ℤ) → z <ℤ pos 0 → span_decimal z ≡ 45 ∷ seconds_decimal (unsigned_abs z)
unfolding span_decimal
span_decimal_minus (pos n) h = absurd (omega (arith, ints))
span_decimal_minus (negsuc n) h = refl

-- what stands before a place stays where what stands before a later one did
pub kept_before : (a b : ℕ) (new mid old : List ℕ) → a ≤ b → take a new ≡ take a mid → take b mid ≡ take b old → take a new ≡ take a old
kept_before a b new mid old h later earlier = later ∙ sym (take-take a b mid h) ∙ ap (take a) earlier ∙ take-take a b old h

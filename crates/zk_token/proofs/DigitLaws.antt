-- Digits at the front of a text that make a number of at most a bound.
use Rattle.std.proofs.Common.{◌≡◌, ℕ, ◌+◌, ◌-◌, ◌*◌, ◌^◌, ◌<◌, ◌≤◌, true, false, ◌&&◌, nat_le, nat_lt, cond, List, [], ◌∷◌, ◌++◌, length, take, drop, slice_index, Option, Some, None, refl, sym, ap, subst, ◌∙◌, arith, add-one, one-add, drop-cons}
use Rattle.std.specs.List.{AllPass, take_while, prefix_len}
use Rattle.std.specs.Char.{is_ascii_digit, digit_value}
use Rattle.std.specs.Option.{option_map_or}
use Rattle.std.specs.Str.Parse.{digits_value_after, digits_value}
use Rattle.std.proofs.lemmas.Bool.{leb-true, leb-false, le-leb, lt-ltb, le-ltb}
use Rattle.std.proofs.lemmas.List.Elements.{All-nil, All-cons, All-head, All-tail}
use Rattle.std.proofs.lemmas.List.Sums.{take_while-cons}
use Rattle.zk_tree.specs.declared.token.TokenKind.TheVariants as token
use Rattle.zk_token.specs.Numerals.{begins_digit, with_digit, digits_within, digits_at, ranged}
use Rattle.zk_token.proofs.ItemLaws.{rest_whole}
use Rattle.zk_token.proofs.ByteTests.{both}

Digit : ℕ → Type 0
Digit byte = is_ascii_digit byte ≡ true

-- One more digit --------------------------------------------------------------------------------------------------

-- a digit that is read keeps the number at most the bound
pub record IsWithDigit (most value byte more : ℕ) : Type 0 where
  pub digit : is_ascii_digit byte ≡ true
  pub is : value * 10 + digit_value byte ≡ more
  pub small : more ≤ most

pub with_digit-some : (most value byte more : ℕ) → with_digit most value byte ≡ Some more → IsWithDigit most value byte more
with_digit-some most value byte more found =
    let next : ℕ = value * 10 + digit_value byte in
    elim (is_ascii_digit byte && nat_le next most) as (λ b. (is_ascii_digit byte && nat_le next most) ≡ b → cond {A = Option ℕ} b (Some next) None ≡ Some more → IsWithDigit most value byte more) [
      | true ↦ λ fits same.
          let parts = both (is_ascii_digit byte) (nat_le next most) fits in
          let is : next ≡ more = cc in
          record { digit = parts.0; is = is; small = subst (λ n. n ≤ most) is (leb-true next most parts.1) }
      | false ↦ λ past same. absurd (let never : ⊥ = cc in never)
    ] refl found

pub with_digit-digit : (most value byte : ℕ) → is_ascii_digit byte ≡ true → value * 10 + digit_value byte ≤ most → with_digit most value byte ≡ Some (value * 10 + digit_value byte)
with_digit-digit most value byte digit small = rw digit (rw (le-leb (value * 10 + digit_value byte) most small) refl)

-- a digit that isn't read would make the number pass the bound
with_digit-none : (most value byte : ℕ) → with_digit most value byte ≡ None → is_ascii_digit byte ≡ true → most < value * 10 + digit_value byte
with_digit-none most value byte none digit =
    let next : ℕ = value * 10 + digit_value byte in
    elim (nat_le next most) as (λ b. nat_le next most ≡ b → most < next) [
      | true ↦ λ fits. let found = with_digit-digit most value byte digit (leb-true next most fits) in absurd (let never : ⊥ = cc in never)
      | false ↦ λ past. leb-false next most past
    ] refl

-- All digits ------------------------------------------------------------------------------------------------------

-- more digits make no less
value_rises : (value : ℕ) (digits : List ℕ) → value ≤ digits_value_after 10 value digits
value_rises value [] = omega arith
value_rises value (byte ∷ digits) = let more = value_rises (value * 10 + digit_value byte) digits in omega (arith, more)

-- digits that fit are read, and then those behind them
pub digits_within-append : (most value : ℕ) (digits rest : List ℕ) → AllPass is_ascii_digit digits → digits_value_after 10 value digits ≤ most
    → digits_within most value (digits ++ rest) ≡ length digits + digits_within most (digits_value_after 10 value digits) rest
unfolding Digit
digits_within-append most value [] rest are fit = omega arith
digits_within-append most value (byte ∷ digits) rest are fit =
    let next : ℕ = value * 10 + digit_value byte in
    let small = value_rises next digits in
    let others = digits_within-append most next digits rest (All-tail Digit byte digits are) fit in
    rw (with_digit-digit most value byte (All-head Digit byte digits are) (omega (arith, small, fit))) (omega (arith, others))

-- what is read are digits, and they fit
pub record AreDigitsWithin (most value count : ℕ) (text : List ℕ) : Type 0 where
  pub digits : AllPass is_ascii_digit (take count text)
  pub small : digits_value_after 10 value (take count text) ≤ most

one_taken : (byte count : ℕ) (rest : List ℕ) → take (1 + count) (byte ∷ rest) ≡ byte ∷ take count rest
one_taken byte count rest = rw one-add refl

pub digits_within-are : (most value : ℕ) (text : List ℕ) → value ≤ most → AreDigitsWithin most value (digits_within most value text) text
unfolding Digit
digits_within-are most value [] small = record { digits = All-nil Digit; small = small }
digits_within-are most value (byte ∷ rest) small =
    elim (with_digit most value byte) as (λ (o : Option ℕ). with_digit most value byte ≡ o → AreDigitsWithin most value (option_map_or (λ more. 1 + digits_within most more rest) o 0) (byte ∷ rest)) [
      | None ↦ λ none. record { digits = All-nil Digit; small = small }
      | Some more ↦ λ found.
          let one = with_digit-some most value byte more found in
          let others = digits_within-are most more rest one.small in
          let count : ℕ = digits_within most more rest in
          let taken = sym (one_taken byte count rest) in
          record {
            digits = subst (AllPass is_ascii_digit) taken (All-cons Digit byte (take count rest) one.digit others.digits);
            small = subst (λ digits. digits_value_after 10 value digits ≤ most) taken
                (subst (λ next. digits_value_after 10 next (take count rest) ≤ most) (sym one.is) others.small);
          }
    ] refl

-- where no digit is left behind them, they are all
pub digits_within-all : (most value : ℕ) (text : List ℕ) → begins_digit (drop (digits_within most value text) text) ≡ false → digits_within most value text ≡ prefix_len is_ascii_digit text
digits_within-all most value [] ends = refl
digits_within-all most value (byte ∷ rest) ends =
    elim (with_digit most value byte) as (λ (o : Option ℕ). with_digit most value byte ≡ o
    → begins_digit (drop (option_map_or (λ more. 1 + digits_within most more rest) o 0) (byte ∷ rest)) ≡ false
    → option_map_or (λ more. 1 + digits_within most more rest) o 0 ≡ cond (is_ascii_digit byte) (1 + prefix_len is_ascii_digit rest) 0) [
      | None ↦ λ none stops. rw stops refl
      | Some more ↦ λ found stops.
          let one = with_digit-some most value byte more found in
          let others = digits_within-all most more rest (rw one-add at stops) in
          rw one.digit (ap (λ n. 1 + n) others)
    ] refl ends

-- where a digit is left behind them, all digits make a number past the bound
pub digits_within-past : (most value : ℕ) (text : List ℕ) → begins_digit (drop (digits_within most value text) text) ≡ true
    → most < digits_value_after 10 value (take_while is_ascii_digit text)
digits_within-past most value [] goes_on = absurd (let never : ⊥ = cc in never)
digits_within-past most value (byte ∷ rest) goes_on =
    elim (with_digit most value byte) as (λ (o : Option ℕ). with_digit most value byte ≡ o
    → begins_digit (drop (option_map_or (λ more. 1 + digits_within most more rest) o 0) (byte ∷ rest)) ≡ true
    → most < digits_value_after 10 value (take_while is_ascii_digit (byte ∷ rest))) [
      | None ↦ λ none more.
          let past = with_digit-none most value byte none more in
          let rises = value_rises (value * 10 + digit_value byte) (take_while is_ascii_digit rest) in
          rw (take_while-cons is_ascii_digit byte rest) (rw more (omega (arith, past, rises)))
      | Some next ↦ λ found more.
          let one = with_digit-some most value byte next found in
          let others = digits_within-past most next rest (rw one-add at more) in
          rw (take_while-cons is_ascii_digit byte rest) (rw one.digit (subst (λ n. most < digits_value_after 10 n (take_while is_ascii_digit rest)) (sym one.is) others))
    ] refl goes_on

-- As the code reads them ------------------------------------------------------------------------------------------

-- one digit further
pub digits_within-step : (most value : ℕ) (text : List ℕ) (place more : ℕ) → place < length text → with_digit most value (slice_index text place) ≡ Some more
    → digits_within most value (drop place text) ≡ 1 + digits_within most more (drop (place + 1) text)
digits_within-step most value text place more inside found =
    rw (drop-cons text place 0 inside) (rw found (ap (λ n. 1 + digits_within most more (drop n text)) (sym (add-one place))))

-- a digit is left behind the digits that fit, so there are too many
pub number_past : (text : List ℕ) (count : ℕ) → count ≡ digits_within (2 ^ 64 - 1) 0 text → begins_digit (take (length text - count) (drop count text)) ≡ true
    → None ≡ ranged (digits_at text)
number_past text count is goes_on =
    let left : begins_digit (drop (digits_within (2 ^ 64 - 1) 0 text) text) ≡ true =
    ap (λ n. begins_digit (drop n text)) (sym is) ∙ ap begins_digit (sym (rest_whole count text)) ∙ goes_on in
    let past = digits_within-past (2 ^ 64 - 1) 0 text left in
    rw (le-ltb (digits_value 10 (take_while is_ascii_digit text)) (2 ^ 64) (omega (arith, past))) refl

-- none is left
pub number_whole : (text : List ℕ) (count value : ℕ) → count ≡ digits_within (2 ^ 64 - 1) 0 text → value ≡ digits_value 10 (take count text) → value ≤ 2 ^ 64 - 1
    → begins_digit (take (length text - count) (drop count text)) ≡ false → Some (token.Number value, take (length text - count) (drop count text)) ≡ ranged (digits_at text)
number_whole text count value is meant small ends =
    let left : begins_digit (drop (digits_within (2 ^ 64 - 1) 0 text) text) ≡ false =
    ap (λ n. begins_digit (drop n text)) (sym is) ∙ ap begins_digit (sym (rest_whole count text)) ∙ ends in
    let all : prefix_len is_ascii_digit text ≡ count = sym (digits_within-all (2 ^ 64 - 1) 0 text left) ∙ sym is in
    let same : digits_value 10 (take_while is_ascii_digit text) ≡ value = ap (λ n. digits_value 10 (take n text)) all ∙ sym meant in
    let fits : nat_lt value (2 ^ 64) ≡ true = lt-ltb value (2 ^ 64) (omega (arith, small)) in
    rw (rest_whole count text) (rw same (rw all (rw fits refl)))

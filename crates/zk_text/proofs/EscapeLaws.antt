-- What the text of a string in a cell comes to.
use Rattle.std.proofs.Common.{◌≡◌, ◌≢◌, ℕ, zero, suc, ◌+◌, ◌*◌, ◌/◌, ◌%◌, ◌^◌, ◌<◌, Bool, true, false, ◌||◌, List, [], ◌∷◌, ◌++◌, length, get_or, drop, count_by, flat_map, cond, refl, sym, ap, ◌∙◌, arith, length-append, All, codes, ◌==◌, bytes_eq}
use Rattle.std.proofs.lemmas.Bool.{false_from_ne_true}
use Rattle.std.proofs.lemmas.Bool.Decides.{nat_tests}
use Rattle.std.proofs.lemmas.Slice.Eq.{bytes_eq-Decides}
use Rattle.std.specs.Char.{digit_char}
use Rattle.std.proofs.lemmas.List.Elements.{All-append, All-cons, All-nil}
use Rattle.std.proofs.lemmas.List.Sums.{sum_by-cons}
use Rattle.zk_text.specs.Escape.{byte_text, escaped, is_escaped, is_taken, piece, IsPrinted, IsCell}

-- an escape has three bytes more than what it stands for
length-piece : (escapes : Bool) (byte : ℕ) → length (piece escapes byte) ≡ 1 + 3 * cond escapes 1 0
length-piece true byte = refl
length-piece false byte = refl

pub length-byte_texts : (in_set : Bool) (bytes : List ℕ) → length (flat_map (byte_text in_set) bytes) ≡ length bytes + 3 * count_by (is_escaped in_set) bytes
length-byte_texts in_set [] = refl
length-byte_texts in_set (byte ∷ bytes) =
    let rest = length-byte_texts in_set bytes in
    let first = length-piece (is_escaped in_set byte) byte in
    let count : count_by (is_escaped in_set) (byte ∷ bytes) ≡ cond (is_escaped in_set byte) 1 0 + count_by (is_escaped in_set) bytes = sum_by-cons (λ x. cond (is_escaped in_set x) 1 0) byte bytes in
    rw (length-append (byte_text in_set byte) (flat_map (byte_text in_set) bytes)) (omega (arith, rest, first, count))

-- bytes, as a slice has them
abbrev pub AreBytes : List ℕ → Type 0
AreBytes xs = (k : ℕ) → get_or xs k 0 < 2 ^ 8

same_digit : (d e : ℕ) → d < 16 → e < 16 → digit_char d ≡ digit_char e → d ≡ e
same_digit d e hd he same = grind (arith, nat_tests)

-- the backslash is always escaped
no_backslash : (in_set : Bool) (byte : ℕ) → is_escaped in_set byte ≡ false → byte ≢ 92
no_backslash in_set byte plain is = let same : is_escaped in_set byte ≡ true = ap (is_escaped in_set) is in cc

-- what stands first in a text tells the first byte, and what is left
same_piece : (e f : Bool) (b c : ℕ) (r s : List ℕ) → (e ≡ false → b ≢ 92) → (f ≡ false → c ≢ 92) → b < 2 ^ 8 → c < 2 ^ 8 → piece e b ++ r ≡ piece f c ++ s → (b ≡ c) × (r ≡ s)
same_piece true true b c r s hb hc small_b small_c same =
    let high = same_digit (b / 16) (c / 16) (omega arith) (omega arith) (ap (λ (l : List ℕ). get_or l 2 0) same) in
    let low = same_digit (b % 16) (c % 16) (omega arith) (omega arith) (ap (λ (l : List ℕ). get_or l 3 0) same) in
    (omega arith, ap (drop 4) same)
same_piece true false b c r s hb hc small_b small_c same = absurd (hc refl (sym (ap (λ (l : List ℕ). get_or l 0 0) same)))
same_piece false true b c r s hb hc small_b small_c same = absurd (hb refl (ap (λ (l : List ℕ). get_or l 0 0) same))
same_piece false false b c r s hb hc small_b small_c same = (ap (λ (l : List ℕ). get_or l 0 0) same, ap (drop 1) same)

not_empty : (e : Bool) (byte : ℕ) (rest : List ℕ) → ¬ (piece e byte ++ rest ≡ [])
not_empty true byte rest same = absurd (omega (arith, ap length same))
not_empty false byte rest same = absurd (omega (arith, ap length same))

pub same_texts : (in_set : Bool) (xs ys : List ℕ) → AreBytes xs → AreBytes ys → flat_map (byte_text in_set) xs ≡ flat_map (byte_text in_set) ys → xs ≡ ys
same_texts in_set [] [] hx hy same = refl
same_texts in_set [] (y ∷ ys) hx hy same = absurd (not_empty (is_escaped in_set y) y (flat_map (byte_text in_set) ys) (sym same))
same_texts in_set (x ∷ xs) [] hx hy same = absurd (not_empty (is_escaped in_set x) x (flat_map (byte_text in_set) xs) same)
same_texts in_set (x ∷ xs) (y ∷ ys) hx hy same =
    let parts = same_piece (is_escaped in_set x) (is_escaped in_set y) x y (flat_map (byte_text in_set) xs) (flat_map (byte_text in_set) ys) (no_backslash in_set x) (no_backslash in_set y) (hx 0) (hy 0) same in
    let rest = same_texts in_set xs ys (λ k. hx (suc k)) (λ k. hy (suc k)) parts.1 in
    λ i. parts.0 i ∷ rest i

or_false : (a b : Bool) → (a || b) ≡ false → (a ≡ false) × (b ≡ false)
or_false true b h = cc
or_false false b h = (refl, h)

-- the text of a string in a cell tells the string
pub escaped_injective : (in_set : Bool) (xs ys : List ℕ) → AreBytes xs → AreBytes ys → escaped in_set xs ≡ escaped in_set ys → xs ≡ ys
escaped_injective in_set [] [] hx hy same = refl
escaped_injective in_set [] (y ∷ ys) hx hy same = absurd (not_empty (is_taken (y ∷ ys) || is_escaped in_set y) y (flat_map (byte_text in_set) ys) (sym same))
escaped_injective in_set (x ∷ xs) [] hx hy same = absurd (not_empty (is_taken (x ∷ xs) || is_escaped in_set x) x (flat_map (byte_text in_set) xs) same)
escaped_injective in_set (x ∷ xs) (y ∷ ys) hx hy same =
    let marked_x = is_taken (x ∷ xs) || is_escaped in_set x in
    let marked_y = is_taken (y ∷ ys) || is_escaped in_set y in
    let parts = same_piece marked_x marked_y x y (flat_map (byte_text in_set) xs) (flat_map (byte_text in_set) ys)
    (λ plain. no_backslash in_set x (or_false (is_taken (x ∷ xs)) (is_escaped in_set x) plain).1)
    (λ plain. no_backslash in_set y (or_false (is_taken (y ∷ ys)) (is_escaped in_set y) plain).1) (hx 0) (hy 0) same in
    let rest = same_texts in_set xs ys (λ k. hx (suc k)) (λ k. hy (suc k)) parts.1 in
    λ i. parts.0 i ∷ rest i

-- What holds of the bytes of an escape, and of each byte that needs none, holds of the bytes of a text.
module _ (P : ℕ → Type 0) (backslash : P 92) (letter : P 120) (digit : (d : ℕ) → d < 16 → P (digit_char d)) where
  all_piece : (e : Bool) (byte : ℕ) → byte < 2 ^ 8 → (e ≡ false → P byte) → All P (piece e byte)
  all_piece true byte small plain =
      let low : ℕ = digit_char (byte % 16) in
      let high : ℕ = digit_char (byte / 16) in
      All-cons P 92 (120 ∷ high ∷ low ∷ []) backslash
      (All-cons P 120 (high ∷ low ∷ []) letter
      (All-cons P high (low ∷ []) (digit (byte / 16) (omega arith)) (All-cons P low [] (digit (byte % 16) (omega arith)) (All-nil P))))
  all_piece false byte small plain = All-cons P byte [] (plain refl) (All-nil P)

  all_texts : (in_set : Bool) → ((byte : ℕ) → is_escaped in_set byte ≡ false → P byte) → (xs : List ℕ) → AreBytes xs → All P (flat_map (byte_text in_set) xs)
  all_texts in_set plain [] small = All-nil P
  all_texts in_set plain (x ∷ xs) small =
      All-append P (byte_text in_set x) (flat_map (byte_text in_set) xs) (all_piece (is_escaped in_set x) x (small 0) (plain x)) (all_texts in_set plain xs (λ k. small (suc k)))

  all_escaped : (in_set : Bool) → ((byte : ℕ) → is_escaped in_set byte ≡ false → P byte) → (xs : List ℕ) → AreBytes xs → All P (escaped in_set xs)
  all_escaped in_set plain [] small = All-nil P
  all_escaped in_set plain (x ∷ xs) small =
      All-append P (piece (is_taken (x ∷ xs) || is_escaped in_set x) x) (flat_map (byte_text in_set) xs)
      (all_piece (is_taken (x ∷ xs) || is_escaped in_set x) x (small 0) (λ e. plain x (or_false (is_taken (x ∷ xs)) (is_escaped in_set x) e).1))
      (all_texts in_set plain xs (λ k. small (suc k)))

printed_digit : (d : ℕ) → d < 16 → IsPrinted (digit_char d)
printed_digit d h = (grind (arith, nat_tests), grind (arith, nat_tests))

printed_plain : (in_set : Bool) (byte : ℕ) → is_escaped in_set byte ≡ false → IsPrinted byte
printed_plain in_set byte plain = (grind (arith, nat_tests), grind (arith, nat_tests))

no_comma_digit : (d : ℕ) → d < 16 → digit_char d ≢ 44
no_comma_digit d h is = grind (arith, nat_tests)

no_comma_plain : (byte : ℕ) → is_escaped true byte ≡ false → byte ≢ 44
no_comma_plain byte plain is = let same : is_escaped true byte ≡ true = ap (is_escaped true) is in cc

-- A text that says a word without an escape is that word's.
same_word : (in_set : Bool) (x : ℕ) (xs : List ℕ) (first : ℕ) (rest : List ℕ) → AreBytes xs → AreBytes rest → flat_map (byte_text in_set) rest ≡ rest → x ∷ flat_map (byte_text in_set) xs ≡ first ∷ rest → x ∷ xs ≡ first ∷ rest
same_word in_set x xs first rest hx hr plain same =
    let rest_is = same_texts in_set xs rest hx hr (ap (drop 1) same ∙ sym plain) in
    let first_is = ap (λ (l : List ℕ). get_or l 0 0) same in
    λ i. first_is i ∷ rest_is i

no_escapes : (in_set : Bool) → flat_map (byte_text in_set) (codes "empty)") ≡ codes "empty)"
no_escapes true = refl
no_escapes false = refl

other_word : (in_set : Bool) (x : ℕ) (xs : List ℕ) (first : ℕ) (rest : List ℕ) → AreBytes xs → AreBytes rest → flat_map (byte_text in_set) rest ≡ rest
    → bytes_eq (x ∷ xs) (first ∷ rest) ≡ false → bytes_eq (x ∷ flat_map (byte_text in_set) xs) (first ∷ rest) ≡ false
other_word in_set x xs first rest hx hr plain other =
    false_from_ne_true _ (λ equal.
    let same = same_word in_set x xs first rest hx hr plain ((bytes_eq-Decides (x ∷ flat_map (byte_text in_set) xs) (first ∷ rest)).0 equal) in
    let back : bytes_eq (x ∷ xs) (first ∷ rest) ≡ true = (bytes_eq-Decides (x ∷ xs) (first ∷ rest)).1 same in
    cc)

both_false : (a b : Bool) → a ≡ false → b ≡ false → (a || b) ≡ false
both_false a b ha hb = cc

are_bytes-cons : (x : ℕ) (xs : List ℕ) → x < 2 ^ 8 → AreBytes xs → AreBytes (x ∷ xs)
are_bytes-cons x xs small rest zero = small
are_bytes-cons x xs small rest (suc k) = rest k

pub are_bytes : (xs : List ℕ) → All (λ byte. byte < 2 ^ 8) xs → AreBytes xs
are_bytes [] all = λ k. omega arith
are_bytes (x ∷ xs) all = are_bytes-cons x xs (all 0 0 (omega arith)) (are_bytes xs (λ k d h. all (suc k) d (omega (arith, h))))

empty_bytes : AreBytes (codes "empty)")
empty_bytes =
    are_bytes-cons 101 (codes "mpty)") (omega arith) (are_bytes-cons 109 (codes "pty)") (omega arith) (are_bytes-cons 112 (codes "ty)") (omega arith)
    (are_bytes-cons 116 (codes "y)") (omega arith) (are_bytes-cons 121 (codes ")") (omega arith) (are_bytes-cons 41 [] (omega arith) (λ k. omega arith))))))

own_piece : (in_set marked : Bool) (x : ℕ) (xs : List ℕ) → AreBytes xs → (marked ≡ false → is_taken (x ∷ xs) ≡ false) → is_taken (piece marked x ++ flat_map (byte_text in_set) xs) ≡ false
own_piece in_set true x xs small plain = refl
own_piece in_set false x xs small plain =
    let all = or_false ((x == 35) || bytes_eq (x ∷ xs) (codes "-")) (bytes_eq (x ∷ xs) (codes "(empty)")) (plain refl) in
    let two = or_false (x == 35) (bytes_eq (x ∷ xs) (codes "-")) all.0 in
    both_false ((x == 35) || bytes_eq (x ∷ flat_map (byte_text in_set) xs) (codes "-")) (bytes_eq (x ∷ flat_map (byte_text in_set) xs) (codes "(empty)"))
    (both_false (x == 35) (bytes_eq (x ∷ flat_map (byte_text in_set) xs) (codes "-")) two.0 (other_word in_set x xs 45 [] small (λ k. omega arith) refl two.1))
    (other_word in_set x xs 40 (codes "empty)") small empty_bytes (no_escapes in_set) all.1)

not_taken : (in_set : Bool) (xs : List ℕ) → AreBytes xs → is_taken (escaped in_set xs) ≡ false
not_taken in_set [] small = refl
not_taken in_set (x ∷ xs) small =
    own_piece in_set (is_taken (x ∷ xs) || is_escaped in_set x) x xs (λ k. small (suc k)) (λ e. (or_false (is_taken (x ∷ xs)) (is_escaped in_set x) e).0)

no_comma : (in_set : Bool) (xs : List ℕ) → AreBytes xs → in_set ≡ true → All (λ byte. byte ≢ 44) (escaped in_set xs)
no_comma true xs small within = all_escaped (λ byte. byte ≢ 44) (λ is. absurd (omega (arith, is))) (λ is. absurd (omega (arith, is))) no_comma_digit true no_comma_plain xs small
no_comma false xs small within = cc

pub escaped_is_cell : (in_set : Bool) (xs : List ℕ) → AreBytes xs → IsCell in_set (escaped in_set xs)
escaped_is_cell in_set xs small = record {
  printed = all_escaped IsPrinted (omega arith) (omega arith) printed_digit in_set (printed_plain in_set) xs small;
  apart = no_comma in_set xs small;
  own = not_taken in_set xs small;
}

-- The sum of a header's words of 32 bits, in each of which 2^16 counts as 1.
use Rattle.std.proofs.Common.{◌≡◌, ℕ, zero, suc, ◌+◌, ◌*◌, ◌%◌, ◌≤◌, ◌==◌, List, [], ◌∷◌, length, sum, drop, slice_index, ap, ◌∙◌, arith}
use Rattle.std.proofs.lemmas.List.{drop-drop, length-drop}
use Rattle.std.proofs.lemmas.List.Sums.{sum_by-cons}
use Rattle.byteorder.specs.Endian.{big_number}
use Rattle.zk_base.specs.Checksum.{folded, is_right_sum, words}

-- the first word of 16 bits
abbrev pub high : List ℕ → ℕ
high bytes = 256 * slice_index bytes 0 + slice_index bytes 1

-- a word of 32 bits counts its high half 2^16 times
first-word : (bytes : List ℕ) → 4 ≤ length bytes
    → (big_number 4 bytes + sum (words (drop 4 bytes)) ≡ sum (words bytes) + 65535 * high bytes)
    × (high bytes + sum (words (drop 4 bytes)) ≤ sum (words bytes))
first-word [] long = absurd (omega (arith, long))
first-word (a ∷ []) long = absurd (omega (arith, long))
first-word (a ∷ b ∷ []) long = absurd (omega (arith, long))
first-word (a ∷ b ∷ c ∷ []) long = absurd (omega (arith, long))
first-word (a ∷ b ∷ c ∷ d ∷ rest) long =
    let words_two = sum_by-cons (λ w. w) (256 * a + b) (words (c ∷ d ∷ rest)) in
    let words_one = sum_by-cons (λ w. w) (256 * c + d) (words rest) in
    (omega (arith, words_two, words_one), omega (arith, words_two, words_one))

-- the same of any word of 32 bits and what stands behind it
pub next-word : (place : ℕ) (bytes : List ℕ) → place + 4 ≤ length bytes
    → (big_number 4 (drop place bytes) + sum (words (drop (place + 4) bytes)) ≡ sum (words (drop place bytes)) + 65535 * high (drop place bytes))
    × (high (drop place bytes) + sum (words (drop (place + 4) bytes)) ≤ sum (words (drop place bytes)))
next-word place bytes long =
    let behind : sum (words (drop 4 (drop place bytes))) ≡ sum (words (drop (place + 4) bytes)) =
    ap (λ rest. sum (words rest)) (drop-drop 4 place bytes) in
    let first = first-word (drop place bytes) (omega (arith, length-drop place bytes, long)) in
    (omega (arith, first.0, behind), omega (arith, first.1, behind))

-- 2^16 - 1 more in a sum, at most as often as the sum itself, makes no difference to what is left of it
folded-more : (n times : ℕ) → times ≤ n → folded (n + 65535 * times) ≡ folded n
unfolding folded
folded-more zero times low = ap folded (let none : 0 + 65535 * times ≡ 0 = omega (arith, low) in none)
folded-more (suc n) times low =
    ap folded (let same : suc n + 65535 * times ≡ suc (n + 65535 * times) = omega arith in same)
    ∙ (let same : (n + 65535 * times) % 65535 + 1 ≡ n % 65535 + 1 = omega arith in same)

-- and so it is as right
pub right-more : (n times : ℕ) → times ≤ n → is_right_sum (n + 65535 * times) ≡ is_right_sum n
right-more n times low = ap (λ m. m == 0xffff) (folded-more n times low)

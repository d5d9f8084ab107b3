-- The sum of a pseudo header's words, and of what follows it.
use Rattle.std.proofs.Common.{◌≡◌, ℕ, zero, suc, ◌+◌, ◌-◌, ◌*◌, ◌%◌, ◌<◌, ◌≤◌, ◌==◌, List, [], ◌∷◌, ◌++◌, ◌^◌, length, sum, drop, take, slice_index, refl, sym, ap, ◌∙◌, arith, length-append}
use Rattle.std.proofs.lemmas.List.{drop-drop, length-drop, take_rest}
use Rattle.std.proofs.lemmas.List.Sums.{sum_by-cons}
use Rattle.byteorder.specs.Endian.{little_from, little_number}
use Rattle.zk_base.specs.Checksum.{folded, is_right_sum, words}
use Rattle.zk_base.specs.declared.network.Addr.{Addr}
use Rattle.zk_base.specs.declared.network.Addr.TheVariants.{V4, V6}
use Rattle.zk_l4.specs.PseudoHeader.{address_bytes, protocol_and_length, pseudo_header}

-- the sum of the words of a piece of even length and of what follows it is that of both
pub sum_words-append : (xs ys : List ℕ) → length xs % 2 ≡ 0 → sum (words (xs ++ ys)) ≡ sum (words xs) + sum (words ys)
sum_words-append [] ys even = omega arith
sum_words-append (x ∷ []) ys even = absurd (omega (arith, even))
sum_words-append (x ∷ y ∷ xs) ys even =
    let rest = sum_words-append xs ys (omega (arith, even)) in
    omega (arith, rest, sum_by-cons (λ w. w) (256 * x + y) (words (xs ++ ys)), sum_by-cons (λ w. w) (256 * x + y) (words xs))

-- each piece of a pseudo header has an even length
address_bytes-even : (address : Addr) → length (address_bytes address) % 2 ≡ 0
address_bytes-even (V4 address) = refl
address_bytes-even (V6 address) = refl

protocol_and_length-even : (address : Addr) (protocol len : ℕ) → length (protocol_and_length address protocol len) % 2 ≡ 0
protocol_and_length-even (V4 address) protocol len = refl
protocol_and_length-even (V6 address) protocol len = refl

-- protocol and length are words of their own, whatever the family
sum_words-protocol_and_length : (address : Addr) (protocol len : ℕ) → len < 65536
    → sum (words (protocol_and_length address protocol len)) ≡ protocol + len
sum_words-protocol_and_length (V4 address) protocol len small = omega arith
sum_words-protocol_and_length (V6 address) protocol len small = omega arith

-- the sum over three pieces of even length and what follows them, that of the third known
sum_words-pieces : (a b c rest : List ℕ) (n : ℕ) → length a % 2 ≡ 0 → length b % 2 ≡ 0 → length c % 2 ≡ 0 → sum (words c) ≡ n
    → sum (words ((a ++ (b ++ c)) ++ rest)) ≡ sum (words a) + (sum (words b) + n) + sum (words rest)
sum_words-pieces a b c rest n even_a even_b even_c third =
    let lengths : length (a ++ (b ++ c)) % 2 ≡ 0 = omega (arith, length-append a (b ++ c), length-append b c) in
    omega (arith, third, sum_words-append (a ++ (b ++ c)) rest lengths, sum_words-append a (b ++ c) even_a, sum_words-append b c even_b)

-- the words of a pseudo header are those of the addresses, the protocol and the length, and no more
pub sum_words-pseudo_header : (src dst : Addr) (protocol len : ℕ) (rest : List ℕ) → len < 65536
    → sum (words (pseudo_header src dst protocol len ++ rest))
    ≡ sum (words (address_bytes src)) + (sum (words (address_bytes dst)) + (protocol + len)) + sum (words rest)
sum_words-pseudo_header src dst protocol len rest small =
    let a : List ℕ = address_bytes src in
    let b : List ℕ = address_bytes dst in
    let c : List ℕ = protocol_and_length src protocol len in
    let even_a : length a % 2 ≡ 0 = address_bytes-even src in
    let even_b : length b % 2 ≡ 0 = address_bytes-even dst in
    let even_c : length c % 2 ≡ 0 = protocol_and_length-even src protocol len in
    sum_words-pieces a b c rest (protocol + len) even_a even_b even_c (sum_words-protocol_and_length src protocol len small)

-- what k words of 16 bits hold
abbrev pub twice : ℕ → ℕ
twice zero = zero
twice (suc k) = suc (suc (twice k))

-- a number of bytes behind a first one
little_from-behind : (n i x : ℕ) (xs : List ℕ) → little_from (suc i) n (x ∷ xs) ≡ little_from i n xs
little_from-behind zero i x xs = refl
little_from-behind (suc n) i x xs = ap (λ rest. slice_index xs i + 256 * rest) (little_from-behind n (suc i) x xs)

-- a word of k times 16 bits, read from its low end and taken 256 times, counts as its words of 16 bits
pub little_number-words : (k : ℕ) (bytes : List ℕ) → twice k ≤ length bytes
    → (256 * little_number (twice k) bytes + sum (words (drop (twice k) bytes))) % 65535 ≡ sum (words bytes) % 65535
little_number-words zero bytes fits = omega arith
little_number-words (suc k) [] fits = absurd (omega (arith, fits))
little_number-words (suc k) (a ∷ []) fits = absurd (omega (arith, fits))
little_number-words (suc k) (a ∷ b ∷ rest) fits =
    let behind : little_from 2 (twice k) (a ∷ b ∷ rest) ≡ little_number (twice k) rest =
    little_from-behind (twice k) 1 a (b ∷ rest) ∙ little_from-behind (twice k) 0 b rest in
    omega (arith, behind, little_number-words k rest (omega (arith, fits)), sum_by-cons (λ w. w) (256 * a + b) (words rest))

-- so does a word of 128 bits before what is left
pub wide_word-words : (bytes : List ℕ) (word : ℕ) → 16 ≤ length bytes → word ≡ little_number 16 bytes
    → (256 * word + sum (words (take (length bytes - 16) (drop 16 bytes)))) % 65535 ≡ sum (words bytes) % 65535
wide_word-words bytes word fits is_read = rw is_read (rw (take_rest bytes 16) (little_number-words 8 bytes fits))

-- and so do two
pub wide_words-words : (bytes : List ℕ) (first second : ℕ) → 32 ≤ length bytes → first ≡ little_number 16 bytes
    → second ≡ little_number 16 (take (length bytes - 16) (drop 16 bytes))
    → (256 * (first + second) + sum (words (take (length bytes - 32) (drop 32 bytes)))) % 65535 ≡ sum (words bytes) % 65535
wide_words-words bytes first second fits is_first is_second =
    let behind : take (length (drop 16 bytes) - 16) (drop 16 (drop 16 bytes)) ≡ take (length bytes - 32) (drop 32 bytes) =
    take_rest (drop 16 bytes) 16 ∙ drop-drop 16 16 bytes ∙ sym (take_rest bytes 32) in
    let sums : sum (words (take (length (drop 16 bytes) - 16) (drop 16 (drop 16 bytes)))) ≡ sum (words (take (length bytes - 32) (drop 32 bytes))) =
    ap (λ left. sum (words left)) behind in
    let fewer : sum (words (take (length bytes - 16) (drop 16 bytes))) ≡ sum (words (drop 16 bytes)) = ap (λ left. sum (words left)) (take_rest bytes 16) in
    let second_counts = wide_word-words (drop 16 bytes) second (omega (arith, length-drop 16 bytes, fits))
    (is_second ∙ ap (λ left. little_number 16 left) (take_rest bytes 16)) in
    omega (arith, wide_word-words bytes first (omega (arith, fits)) is_first, second_counts, sums, fewer)

-- sums above 0 that differ by multiples of 2^16 - 1 are as right
right-same : (m n : ℕ) → 0 < m → 0 < n → m % 65535 ≡ n % 65535 → is_right_sum m ≡ is_right_sum n
unfolding folded
right-same zero n positive-m positive-n same = absurd (omega (arith, positive-m))
right-same (suc m) zero positive-m positive-n same = absurd (omega (arith, positive-n))
right-same (suc m) (suc n) positive-m positive-n same =
    ap (λ left. left == 0xffff) (let equal : m % 65535 + 1 ≡ n % 65535 + 1 = omega (arith, same) in equal)

-- so a header that counts the datagram's bytes is as right with what counts as the datagram's sum
pub right-with : (header total : ℕ) (datagram : List ℕ) → length datagram ≤ header → total ≤ 2 ^ 44 * length datagram
    → total % 65535 ≡ sum (words datagram) % 65535
    → is_right_sum (header + total) ≡ is_right_sum (header + sum (words datagram))
right-with header total [] counted within same = ap is_right_sum (omega (arith, within))
right-with header total (byte ∷ rest) counted within same =
    right-same (header + total) (header + sum (words (byte ∷ rest))) (omega (arith, counted)) (omega (arith, counted)) (omega (arith, same))

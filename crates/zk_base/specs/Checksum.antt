-- The Internet checksum (RFC 1071).
use Rattle.std.specs.Prelude.{ℕ, zero, suc, ◌+◌, ◌*◌, ◌/◌, ◌%◌, ◌<◌, Bool, ◌==◌, List, [], ◌∷◌, fold, All}

-- the 16-bit words of a run of bytes in network order; a zero byte follows a last odd one (RFC 1071, section 1)
abbrev pub words : List ℕ → List ℕ
words [] = []
words (high ∷ []) = (256 * high) ∷ []
words (high ∷ low ∷ rest) = (256 * high + low) ∷ words rest

-- each is a word of 16 bits
abbrev pub AreWords : List ℕ → Type 0
AreWords ws = All (λ w. w < 0x10000) ws

-- what is left of a sum of words where each carry out of the top bit is added at the bottom: 2^16 counts as 1,
-- and a sum above 0 never becomes 0 (RFC 1071, section 2)
unfoldable pub folded : ℕ → ℕ
folded zero = 0
folded (suc n) = n % 0xffff + 1

-- words of this sum, the checksum field among them, have the right checksum: their one's complement sum is all ones
abbrev pub is_right_sum : ℕ → Bool
is_right_sum total = folded total == 0xffff

-- the one's complement sum of two words: the carry goes round to the low end (RFC 1071, section 1)
abbrev pub end_around : ℕ → ℕ → ℕ
end_around x y = (x + y) % 0x10000 + (x + y) / 0x10000

-- the one's complement sum of words, one after the other
abbrev pub ones_complement_sum : List ℕ → ℕ
ones_complement_sum ws = fold end_around 0 ws

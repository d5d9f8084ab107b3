-- What the built-in functions give that need nothing but values (Zeek manual, Built-in functions).
use Rattle.std.specs.Prelude.{ℕ, zero, suc, ◌+◌, ◌-◌, ◌*◌, ◌/◌, ◌%◌, ◌^◌, ◌==◌, nat_lt, nat_le, ℤ, pos, negsuc, Bool, true, false, ◌&&◌, List, [], ◌∷◌, ◌++◌, take, drop, codes, if◌then◌else◌}
use Rattle.std.specs.List.{list_all, starts_with}
use Rattle.std.specs.Fmt.{digits}
use Rattle.std.specs.Prelude.{eqb}
use Rattle.zk_base.specs.declared.network.Addr as network
use Rattle.zk_base.specs.declared.network.Addr.TheVariants.{V4, V6}
use Rattle.zk_tree.specs.Value as value
use Rattle.zk_tree.specs.Value.{Value}
use Rattle.zk_typed.specs.Text.{text_of}

-- the texts of values, joined
abbrev pub joined : List Value → List ℕ
joined [] = []
joined (first ∷ others) = text_of first ++ joined others

-- a value by a verb: a count of `%x` in lower-case hexadecimal, and any other by its text
abbrev pub by_verb : ℕ → Value → List ℕ
by_verb verb (value.Count n) = if verb == 120 then digits 16 false n else text_of (value.Count n)
by_verb verb value = text_of value

abbrev pub verb_text : ℕ → List Value → List ℕ
verb_text verb [] = []
verb_text verb (value ∷ values) = by_verb verb value

-- A text with its verbs replaced: `%%` by a percent sign, and each other by the next value. A verb is `%` and a byte.
abbrev mutual
  pub formatted : List ℕ → List Value → List ℕ
  formatted [] values = []
  formatted (byte ∷ bytes) values = elim (byte == 37) [
    | true ↦ with_verb bytes values
    | false ↦ byte ∷ formatted bytes values
  ]

  pub with_verb : List ℕ → List Value → List ℕ
  with_verb [] values = codes "%"
  with_verb (verb ∷ bytes) values = elim (verb == 37) [
    | true ↦ verb ∷ formatted bytes values
    | false ↦ verb_text verb values ++ formatted bytes (drop 1 values)
  ]

-- the bytes from a place on, counted from 1, where 0 counts as 1; below 0 counts as none
abbrev pub sub_bytes : List ℕ → ℕ → ℤ → List ℕ
sub_bytes bytes start (pos n) = take n (drop (start - 1) bytes)
sub_bytes bytes start (negsuc n) = []

-- a place one further, or none
abbrev pub after : ℕ → ℕ
after zero = zero
after (suc n) = suc (suc n)

-- the first place from which a text stands in another, counted from 1, or 0
abbrev pub strstr : List ℕ → List ℕ → ℕ
strstr [] little = elim little [ [] ↦ 1 | b ∷ bs ↦ 0 ]
strstr (byte ∷ bytes) little = elim (starts_with eqb (byte ∷ bytes) little) [ true ↦ 1 | false ↦ after (strstr bytes little) ]

abbrev pub is_digit : ℕ → Bool
is_digit byte = nat_le 48 byte && nat_lt byte 58

abbrev pub number_after : ℕ → List ℕ → ℕ
number_after n [] = n
number_after n (byte ∷ bytes) = number_after (n * 10 + (byte - 48)) bytes

-- the number of decimal digits alone, within the range of a count, or 0
abbrev pub to_count : List ℕ → ℕ
to_count bytes =
    let n = number_after 0 bytes in
    if list_all is_digit bytes && nat_lt n (2 ^ 64) then n else 0

-- the numbers of 32 bits that an address is made of, in network order
abbrev pub address_counts : network.Addr → List ℕ
address_counts (V4 n) = n ∷ []
address_counts (V6 n) = n / 2 ^ 96 ∷ n / 2 ^ 64 % 2 ^ 32 ∷ n / 2 ^ 32 % 2 ^ 32 ∷ n % 2 ^ 32 ∷ []

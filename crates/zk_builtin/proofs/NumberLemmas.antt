-- Numbers by their decimal digits.
use Rattle.std.proofs.Common.{◌≡◌, ◌+◌, ◌*◌, ◌-◌, ◌^◌, ◌<◌, ◌≤◌, ℕ, Bool, true, false, cond, ◌&&◌, List, [], ◌∷◌, ◌++◌, refl, sym, ap, ◌∙◌, arith, true≢false, ltb}
use Rattle.std.specs.List.{list_all}
use Rattle.std.proofs.lemmas.Bool.Decides.{Decides-ltb}
use Rattle.zk_typed.specs.BuiltIns.{is_digit, number_after, to_count}

-- more digits make no smaller number
pub number-grows : (n : ℕ) (bytes : List ℕ) → n ≤ number_after n bytes
number-grows n [] = omega arith
number-grows n (byte ∷ bytes) = let more = number-grows (n * 10 + (byte - 48)) bytes in omega (arith, more)

pub number-append : (n : ℕ) (first others : List ℕ) → number_after n (first ++ others) ≡ number_after (number_after n first) others
number-append n [] others = refl
number-append n (byte ∷ bytes) others = number-append (n * 10 + (byte - 48)) bytes others

not_less : (n bound : ℕ) → bound ≤ n → ltb n bound ≡ false
not_less n bound le = by (ltb n bound) refl
  where
    by : (t : Bool) → ltb n bound ≡ t → ltb n bound ≡ false
    by true e = let lt = (Decides-ltb n bound).0 e in absurd (omega (arith, lt, le))
    by false e = e

neither : (a : Bool) (n : ℕ) → cond (a && false) n 0 ≡ 0
neither true n = refl
neither false n = refl

-- a number out of range counts as 0, whatever follows
pub too_great : (bytes : List ℕ) → 2 ^ 64 ≤ number_after 0 bytes → to_count bytes ≡ 0
too_great bytes great =
    ap (λ b. cond (list_all is_digit bytes && b) (number_after 0 bytes) 0) (not_less (number_after 0 bytes) (2 ^ 64) great)
    ∙ neither (list_all is_digit bytes) (number_after 0 bytes)

all-append : (first others : List ℕ) → list_all is_digit (first ++ others) ≡ true → list_all is_digit others ≡ true
all-append [] others e = e
all-append (byte ∷ bytes) others e = all-append bytes others (second (is_digit byte) (list_all is_digit (bytes ++ others)) e)
  where
    second : (a b : Bool) → (a && b) ≡ true → b ≡ true
    second true b e = e
    second false b e = absurd (true≢false (sym e))

-- and so does a text with another byte
pub other_byte : (first : List ℕ) (byte : ℕ) (others : List ℕ) → is_digit byte ≡ false → to_count (first ++ byte ∷ others) ≡ 0
other_byte first byte others other = by (list_all is_digit (first ++ byte ∷ others)) refl
  where
    text : List ℕ
    text = first ++ byte ∷ others

    by : (t : Bool) → list_all is_digit (first ++ byte ∷ others) ≡ t → to_count (first ++ byte ∷ others) ≡ 0
    by true e =
        let rest = all-append first (byte ∷ others) e in
        absurd (true≢false (sym rest ∙ ap (λ b. b && list_all is_digit others) other))
    by false e = ap (λ b. cond (b && ltb (number_after 0 (first ++ byte ∷ others)) (2 ^ 64)) (number_after 0 (first ++ byte ∷ others)) 0) e

-- the number of digits alone, in range
pub in_range : (bytes : List ℕ) → list_all is_digit bytes ≡ true → number_after 0 bytes < 2 ^ 64 → to_count bytes ≡ number_after 0 bytes
in_range bytes digits less =
    ap (λ b. cond (b && ltb (number_after 0 bytes) (2 ^ 64)) (number_after 0 bytes) 0) digits
    ∙ ap (λ b. cond b (number_after 0 bytes) 0) ((Decides-ltb (number_after 0 bytes) (2 ^ 64)).1 less)

pub digits-push : (first : List ℕ) (byte : ℕ) → list_all is_digit first ≡ true → is_digit byte ≡ true → list_all is_digit (first ++ byte ∷ []) ≡ true
digits-push [] byte all one = ap (λ b. b && true) one
digits-push (digit ∷ first) byte all one = by (is_digit digit) refl all (λ rest. digits-push first byte rest one)
  where
    by : (t : Bool) → is_digit digit ≡ t → (is_digit digit && list_all is_digit first) ≡ true → (list_all is_digit first ≡ true → list_all is_digit (first ++ byte ∷ []) ≡ true)
        → (is_digit digit && list_all is_digit (first ++ byte ∷ [])) ≡ true
    by true e all others = ap (λ b. b && list_all is_digit (first ++ byte ∷ [])) e ∙ others (sym (ap (λ b. b && list_all is_digit first) e) ∙ all)
    by false e all others = absurd (true≢false (sym all ∙ ap (λ b. b && list_all is_digit first) e))

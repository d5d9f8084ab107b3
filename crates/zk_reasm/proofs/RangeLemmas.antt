-- The places from one up to another: cut in two, and how many of them have a byte.
use Rattle.std.proofs.Common.{◌≡◌, ℕ, zero, suc, ◌+◌, ◌-◌, ◌<◌, ◌≤◌, cond, List, [], ◌∷◌, ◌++◌, length, map, Option, Some, None, IsSome, refl, sym, ap, ◌∙◌, inl, inr, ⊎_elim, arith, length-append}
use Rattle.std.specs.Prelude.{is_some, count_by}
use Rattle.std.specs.List.{filter_map, range_with_len}
use Rattle.std.proofs.lemmas.Bool.{cases_lt}
use Rattle.std.proofs.lemmas.List.{map-append}
use Rattle.std.proofs.lemmas.List.FromFn.{length-map-range_with_len}
use Rattle.std.proofs.lemmas.List.Elements.{filter_map-append}
use Rattle.std.proofs.lemmas.List.Sums.{sum_by-append, count_by-le-length}
use Rattle.std.specs.Option.{option_or}
use Rattle.zk_reasm.specs.Piece.{byte_in}
use Rattle.zk_reasm.proofs.PieceLemmas.{some_from, option_or_held, byte_in-behind, byte_in-within, byte_in-append, byte_in-one}
use Rattle.zk_reasm.specs.Between.{places_between, held_between, bytes_between}

pub range_with_len-add : (a m n : ℕ) → range_with_len a (m + n) ≡ range_with_len a m ++ range_with_len (a + m) n
range_with_len-add a zero n = ap (λ k. range_with_len a k) (let e : 0 + n ≡ n = omega arith in e) ∙ ap (λ b. range_with_len b n) (let e : a ≡ a + 0 = omega arith in e)
range_with_len-add a (suc m) n =
    ap (λ k. range_with_len a k) (let e : suc m + n ≡ suc (m + n) = omega arith in e)
    ∙ ap (λ xs. a ∷ xs) (range_with_len-add (a + 1) m n ∙ ap (λ b. range_with_len (a + 1) m ++ range_with_len b n) (let e : a + 1 + m ≡ a + suc m = omega arith in e))

-- the places up to the middle, and those from it on
pub places_between-split : (f : ℕ → Option ℕ) (a b c : ℕ) → a ≤ b → b ≤ c → places_between f a c ≡ places_between f a b ++ places_between f b c
places_between-split f a b c low high =
    ap (λ n. map f (range_with_len a n)) (let e : c - a ≡ (b - a) + (c - b) = omega arith in e)
    ∙ ap (map f) (range_with_len-add a (b - a) (c - b))
    ∙ map-append f (range_with_len a (b - a)) (range_with_len (a + (b - a)) (c - b))
    ∙ ap (λ m. map f (range_with_len a (b - a)) ++ map f (range_with_len m (c - b))) (let e : a + (b - a) ≡ b = omega arith in e)

-- one place
pub places_between-one : (f : ℕ → Option ℕ) (a b : ℕ) → b ≡ a + 1 → places_between f a b ≡ f a ∷ []
places_between-one f a b is = ap (λ n. map f (range_with_len a n)) (let e : b - a ≡ suc 0 = omega arith in e)

pub places_between-none : (f : ℕ → Option ℕ) (a b : ℕ) → b ≤ a → places_between f a b ≡ []
places_between-none f a b past = ap (λ n. map f (range_with_len a n)) (let e : b - a ≡ 0 = omega arith in e)

-- whether a place has a byte, as a number
abbrev pub held_at : (ℕ → Option ℕ) → ℕ → ℕ
held_at f a = cond (is_some (f a)) 1 0

pub held_between-split : (f : ℕ → Option ℕ) (a b c : ℕ) → a ≤ b → b ≤ c → held_between f a c ≡ held_between f a b + held_between f b c
unfolding held_between
held_between-split f a b c low high =
    ap (λ xs. count_by is_some xs) (places_between-split f a b c low high)
    ∙ sum_by-append (λ x. cond (is_some x) 1 0) (places_between f a b) (places_between f b c)

pub held_between-none : (f : ℕ → Option ℕ) (a b : ℕ) → b ≤ a → held_between f a b ≡ 0
unfolding held_between
held_between-none f a b past = ap (λ xs. count_by is_some xs) (places_between-none f a b past)

pub held_between-one : (f : ℕ → Option ℕ) (a b : ℕ) → b ≡ a + 1 → held_between f a b ≡ held_at f a
unfolding held_between
held_between-one f a b is = ap (λ xs. count_by is_some xs) (places_between-one f a b is) ∙ counted (f a)
  where
    counted : (o : Option ℕ) → count_by is_some (o ∷ []) ≡ cond (is_some o) 1 0
    counted None = refl
    counted (Some byte) = refl

-- one place more at the end
pub held_between-more : (f : ℕ → Option ℕ) (a b : ℕ) → a ≤ b → held_between f a (b + 1) ≡ held_between f a b + held_at f b
held_between-more f a b low =
    held_between-split f a b (b + 1) low (omega arith) ∙ ap (λ n. held_between f a b + n) (held_between-one f b (b + 1) refl)

-- one place more at the front
pub held_between-first : (f : ℕ → Option ℕ) (a b : ℕ) → a < b → held_between f a b ≡ held_at f a + held_between f (a + 1) b
held_between-first f a b low =
    held_between-split f a (a + 1) b (omega arith) (omega arith) ∙ ap (λ n. n + held_between f (a + 1) b) (held_between-one f a (a + 1) refl)

pub bytes_between-none : (f : ℕ → Option ℕ) (a b : ℕ) → b ≤ a → bytes_between f a b ≡ []
unfolding bytes_between
bytes_between-none f a b past = ap (filter_map (λ byte. byte)) (places_between-none f a b past)

pub bytes_between-split : (f : ℕ → Option ℕ) (a b c : ℕ) → a ≤ b → b ≤ c → bytes_between f a c ≡ bytes_between f a b ++ bytes_between f b c
unfolding bytes_between
bytes_between-split f a b c low high =
    ap (filter_map (λ byte. byte)) (places_between-split f a b c low high)
    ∙ filter_map-append (λ byte. byte) (places_between f a b) (places_between f b c)

-- one place more at the end, which has a byte
pub bytes_between-more : (f : ℕ → Option ℕ) (a b byte : ℕ) → a ≤ b → f b ≡ Some byte → bytes_between f a (b + 1) ≡ bytes_between f a b ++ byte ∷ []
unfolding bytes_between
bytes_between-more f a b byte low is =
    bytes_between-split f a b (b + 1) low (omega arith)
    ∙ ap (λ xs. bytes_between f a b ++ filter_map (λ (x : Option ℕ). x) xs) (places_between-one f b (b + 1) refl ∙ ap (λ o. o ∷ []) is)

-- how many have a byte depends on which of them have one
pub held_between-congr : (f g : ℕ → Option ℕ) (a n : ℕ) → ((at : ℕ) → a ≤ at → at < a + n → is_some (f at) ≡ is_some (g at))
    → held_between f a (a + n) ≡ held_between g a (a + n)
held_between-congr f g a zero same = held_between-none f a (a + 0) (omega arith) ∙ sym (held_between-none g a (a + 0) (omega arith))
held_between-congr f g a (suc n) same =
    ap (held_between f a) (let e : a + suc n ≡ a + n + 1 = omega arith in e)
    ∙ held_between-more f a (a + n) (omega arith)
    ∙ ap (λ m. m + held_at f (a + n)) (held_between-congr f g a n (λ at low high. same at low (omega arith)))
    ∙ ap (λ b. held_between g a (a + n) + cond b 1 0) (same (a + n) (omega arith) (omega arith))
    ∙ sym (ap (held_between g a) (let e : a + suc n ≡ a + n + 1 = omega arith in e) ∙ held_between-more g a (a + n) (omega arith))

-- the same up to a place
pub held_between-same : (f g : ℕ → Option ℕ) (a b : ℕ) → ((at : ℕ) → a ≤ at → at < b → is_some (f at) ≡ is_some (g at))
    → held_between f a b ≡ held_between g a b
held_between-same f g a b same = elim (cases_lt a b) [
  | inl low ↦
      ap (held_between f a) (let e : b ≡ a + (b - a) = omega arith in e)
      ∙ held_between-congr f g a (b - a) (λ at from to. same at from (omega arith))
      ∙ sym (ap (held_between g a) (let e : b ≡ a + (b - a) = omega arith in e))
  | inr past ↦ held_between-none f a b (omega arith) ∙ sym (held_between-none g a b (omega arith))
]

pub held_between-all : (f : ℕ → Option ℕ) (a n : ℕ) → ((at : ℕ) → a ≤ at → at < a + n → IsSome (f at)) → held_between f a (a + n) ≡ n
held_between-all f a zero all = held_between-none f a (a + 0) (omega arith)
held_between-all f a (suc n) all =
    ap (held_between f a) (let e : a + suc n ≡ a + n + 1 = omega arith in e)
    ∙ held_between-more f a (a + n) (omega arith)
    ∙ ap (λ m. m + held_at f (a + n)) (held_between-all f a n (λ at low high. all at low (omega arith)))
    ∙ ap (λ b. n + cond b 1 0) (all (a + n) (omega arith) (omega arith))
    ∙ (let e : n + 1 ≡ suc n = omega arith in e)

-- each place has a byte
pub held_between-full : (f : ℕ → Option ℕ) (a b : ℕ) → a ≤ b → ((at : ℕ) → a ≤ at → at < b → IsSome (f at)) → held_between f a b ≡ b - a
held_between-full f a b low all =
    ap (held_between f a) (let e : b ≡ a + (b - a) = omega arith in e)
    ∙ held_between-all f a (b - a) (λ at from to. all at from (omega arith))

-- no byte at any place
abbrev nothing : ℕ → Option ℕ
nothing at = None

-- no place has a byte
pub held_between-empty : (f : ℕ → Option ℕ) (a b : ℕ) → ((at : ℕ) → a ≤ at → at < b → f at ≡ None) → held_between f a b ≡ 0
unfolding held_between
held_between-empty f a b empty =
    held_between-same f nothing a b (λ at from to. ap is_some (empty at from to)) ∙ counted a (b - a)
  where
    counted : (c n : ℕ) → count_by is_some (map nothing (range_with_len c n)) ≡ 0
    counted c zero = refl
    counted c (suc n) = let e = counted (c + 1) n in omega (arith, e)

pub held_between-le : (f : ℕ → Option ℕ) (a b : ℕ) → held_between f a b ≤ b - a
unfolding held_between
held_between-le f a b =
    let count = count_by-le-length is_some (places_between f a b) in
    let len = length-map-range_with_len f a (b - a) in
    omega (arith, count, len)

-- the same at places that are moved
pub places_between-shift : (f g : ℕ → Option ℕ) (a b n : ℕ) → ((k : ℕ) → k < n → f (a + k) ≡ g (b + k)) → places_between f a (a + n) ≡ places_between g b (b + n)
places_between-shift f g a b n same =
    ap (λ m. map f (range_with_len a m)) (let e : a + n - a ≡ n = omega arith in e)
    ∙ each a b n same
    ∙ ap (λ m. map g (range_with_len b m)) (let e : n ≡ b + n - b = omega arith in e)
  where
    each : (c d m : ℕ) → ((k : ℕ) → k < m → f (c + k) ≡ g (d + k)) → map f (range_with_len c m) ≡ map g (range_with_len d m)
    each c d zero here = refl
    each c d (suc m) here =
        ap (λ o. o ∷ map f (range_with_len (c + 1) m)) (ap f (let e : c ≡ c + 0 = omega arith in e) ∙ here 0 (omega arith) ∙ ap g (let e : d + 0 ≡ d = omega arith in e))
        ∙ ap (λ xs. g d ∷ xs) (each (c + 1) (d + 1) m
        (λ k low. ap f (let e : c + 1 + k ≡ c + suc k = omega arith in e) ∙ here (suc k) (omega (arith, low)) ∙ ap g (let e : d + suc k ≡ d + 1 + k = omega arith in e)))

pub held_between-shift : (f g : ℕ → Option ℕ) (a b n : ℕ) → ((k : ℕ) → k < n → f (a + k) ≡ g (b + k)) → held_between f a (a + n) ≡ held_between g b (b + n)
unfolding held_between
held_between-shift f g a b n same = ap (λ xs. count_by is_some xs) (places_between-shift f g a b n same)

pub bytes_between-shift : (f g : ℕ → Option ℕ) (a b n : ℕ) → ((k : ℕ) → k < n → f (a + k) ≡ g (b + k)) → bytes_between f a (a + n) ≡ bytes_between g b (b + n)
unfolding bytes_between
bytes_between-shift f g a b n same = ap (filter_map (λ byte. byte)) (places_between-shift f g a b n same)

pub bytes_between-same : (f g : ℕ → Option ℕ) (a b : ℕ) → a ≤ b → ((at : ℕ) → a ≤ at → at < b → f at ≡ g at) → bytes_between f a b ≡ bytes_between g a b
bytes_between-same f g a b low same =
    ap (bytes_between f a) (let e : b ≡ a + (b - a) = omega arith in e)
    ∙ bytes_between-shift f g a a (b - a) (λ k within. same (a + k) (omega arith) (omega (arith, within)))
    ∙ ap (bytes_between g a) (let e : a + (b - a) ≡ b = omega arith in e)

-- bytes at places that all have one
pub length-bytes_between : (f : ℕ → Option ℕ) (a n : ℕ) → ((at : ℕ) → a ≤ at → at < a + n → IsSome (f at)) → length (bytes_between f a (a + n)) ≡ n
length-bytes_between f a zero all = ap (λ (xs : List ℕ). length xs) (bytes_between-none f a (a + 0) (omega arith))
length-bytes_between f a (suc n) all =
    let here = some_from (f (a + n)) (all (a + n) (omega arith) (omega arith)) in
    ap (λ b. length (bytes_between f a b)) (let e : a + suc n ≡ a + n + 1 = omega arith in e)
    ∙ ap (λ (xs : List ℕ). length xs) (bytes_between-more f a (a + n) here.0 (omega arith) here.1)
    ∙ length-append (bytes_between f a (a + n)) (here.0 ∷ [])
    ∙ (let e : length (bytes_between f a (a + n)) ≡ n = length-bytes_between f a n (λ at low high. all at low (omega arith)) in omega (arith, e))

pub byte_in-bytes_between : (f : ℕ → Option ℕ) (a n : ℕ) → ((at : ℕ) → a ≤ at → at < a + n → IsSome (f at))
    → (at : ℕ) → a ≤ at → at < a + n → byte_in a (bytes_between f a (a + n)) at ≡ f at
byte_in-bytes_between f a zero all at low high = absurd (omega arith)
byte_in-bytes_between f a (suc n) all at low high =
    let here = some_from (f (a + n)) (all (a + n) (omega arith) (omega arith)) in
    let len = length-bytes_between f a n (λ i from to. all i from (omega (arith, to))) in
    ap (λ b. byte_in a (bytes_between f a b) at) (let e : a + suc n ≡ a + n + 1 = omega arith in e)
    ∙ ap (λ xs. byte_in a xs at) (bytes_between-more f a (a + n) here.0 (omega arith) here.1)
    ∙ byte_in-append a (bytes_between f a (a + n)) (here.0 ∷ []) at
    ∙ ⊎_elim
    (λ before. option_or_held (byte_in a (bytes_between f a (a + n)) at) (byte_in (a + length (bytes_between f a (a + n))) (here.0 ∷ []) at)
    (byte_in-within a (bytes_between f a (a + n)) at low (omega (arith, before, len)))
    ∙ byte_in-bytes_between f a n (λ i from to. all i from (omega (arith, to))) at low before)
    (λ behind. let same : at ≡ a + n = omega (arith, behind, high) in
    ap (λ o. option_or o (byte_in (a + length (bytes_between f a (a + n))) (here.0 ∷ []) at)) (byte_in-behind a (bytes_between f a (a + n)) at (omega (arith, behind, len)))
    ∙ byte_in-one (a + length (bytes_between f a (a + n))) here.0 at (omega (arith, same, len))
    ∙ sym (ap f same ∙ here.1))
    (cases_lt at (a + n))

-- Bytes that stand one behind another: the byte at a place, of a part and of parts behind one another.
use Rattle.std.proofs.Common.{◌≡◌, ℕ, zero, suc, ◌+◌, ◌-◌, ◌<◌, ◌≤◌, false, List, [], ◌∷◌, ◌++◌, length, take, drop, Option, Some, None, IsSome, refl, sym, ap, ◌∙◌, ⊎_elim, arith}
use Rattle.std.specs.List.{slice_get}
use Rattle.std.specs.Option.{is_some, option_or}
use Rattle.std.proofs.lemmas.Bool.{cases_lt, le-leb, lt-leb}
use Rattle.std.proofs.lemmas.Option.{slice_get_past}
use Rattle.zk_reasm.specs.Piece.{byte_in}

pub none_from : {A : Type 0} (o : Option A) → is_some o ≡ false → o ≡ None
none_from None is = refl
none_from (Some x) is = cc

-- the value that is there
pub some_from : {A : Type 0} (o : Option A) → IsSome o → (x : A) × (o ≡ Some x)
some_from None there = cc
some_from (Some x) there = (x, refl)

pub option_or_none : {A : Type 0} (o : Option A) → option_or o None ≡ o
option_or_none None = refl
option_or_none (Some x) = refl

pub option_or_assoc : {A : Type 0} (o p q : Option A) → option_or (option_or o p) q ≡ option_or o (option_or p q)
option_or_assoc None p q = refl
option_or_assoc (Some x) p q = refl

-- a value that is there stands
pub option_or_held : {A : Type 0} (o p : Option A) → IsSome o → option_or o p ≡ o
option_or_held None p held = cc
option_or_held (Some x) p held = refl

pub slice_get-take : (n i : ℕ) (xs : List ℕ) → i < n → slice_get (take n xs) i ≡ slice_get xs i
slice_get-take zero i xs low = absurd (omega arith)
slice_get-take (suc n) i [] low = refl
slice_get-take (suc n) zero (x ∷ xs) low = refl
slice_get-take (suc n) (suc i) (x ∷ xs) low = slice_get-take n i xs (omega arith)

pub slice_get-drop : (n i : ℕ) (xs : List ℕ) → slice_get (drop n xs) i ≡ slice_get xs (n + i)
slice_get-drop zero i xs = ap (slice_get xs) (let e : i ≡ 0 + i = omega arith in e)
slice_get-drop (suc n) i [] = refl
slice_get-drop (suc n) i (x ∷ xs) = slice_get-drop n i xs ∙ ap (slice_get (x ∷ xs)) (let e : suc (n + i) ≡ suc n + i = omega arith in e)

pub slice_get-append-left : {A : Type 0} (xs ys : List A) (i : ℕ) → i < length xs → slice_get (xs ++ ys) i ≡ slice_get xs i
slice_get-append-left [] ys i low = absurd (omega arith)
slice_get-append-left (x ∷ xs) ys zero low = refl
slice_get-append-left (x ∷ xs) ys (suc i) low = slice_get-append-left xs ys i (omega arith)

pub slice_get-append-right : {A : Type 0} (xs ys : List A) (i : ℕ) → length xs ≤ i → slice_get (xs ++ ys) i ≡ slice_get ys (i - length xs)
slice_get-append-right [] ys i low = ap (slice_get ys) (let e : i ≡ i - 0 = omega arith in e)
slice_get-append-right (x ∷ xs) ys zero low = absurd (omega arith)
slice_get-append-right (x ∷ xs) ys (suc i) low = slice_get-append-right xs ys i (omega arith) ∙ ap (slice_get ys) (let e : i - length xs ≡ suc i - suc (length xs) = omega arith in e)

pub slice_get-within : (xs : List ℕ) (i : ℕ) → i < length xs → IsSome (slice_get xs i)
slice_get-within [] i low = absurd (omega arith)
slice_get-within (x ∷ xs) zero low = refl
slice_get-within (x ∷ xs) (suc i) low = slice_get-within xs i (omega arith)

pub byte_in-at : (from : ℕ) (bytes : List ℕ) (at : ℕ) → from ≤ at → byte_in from bytes at ≡ slice_get bytes (at - from)
byte_in-at from bytes at low = rw (le-leb from at low)

pub byte_in-before : (from : ℕ) (bytes : List ℕ) (at : ℕ) → at < from → byte_in from bytes at ≡ None
byte_in-before from bytes at before = rw (lt-leb from at before)

pub byte_in-behind : (from : ℕ) (bytes : List ℕ) (at : ℕ) → from + length bytes ≤ at → byte_in from bytes at ≡ None
byte_in-behind from bytes at behind = byte_in-at from bytes at (omega arith) ∙ slice_get_past bytes (at - from) (omega arith)

pub byte_in-within : (from : ℕ) (bytes : List ℕ) (at : ℕ) → from ≤ at → at < from + length bytes → IsSome (byte_in from bytes at)
byte_in-within from bytes at low high = rw (byte_in-at from bytes at low) (slice_get-within bytes (at - from) (omega arith))

-- bytes behind others
pub byte_in-append : (from : ℕ) (xs ys : List ℕ) (at : ℕ) → byte_in from (xs ++ ys) at ≡ option_or (byte_in from xs at) (byte_in (from + length xs) ys at)
byte_in-append from xs ys at =
    ⊎_elim
    (λ before. byte_in-before from (xs ++ ys) at before
    ∙ sym (ap (λ o. option_or o (byte_in (from + length xs) ys at)) (byte_in-before from xs at before) ∙ byte_in-before (from + length xs) ys at (omega (arith, before))))
    (λ low. ⊎_elim
    (λ within. byte_in-at from (xs ++ ys) at low ∙ slice_get-append-left xs ys (at - from) (omega (arith, within, low))
    ∙ sym (option_or_held (byte_in from xs at) (byte_in (from + length xs) ys at) (byte_in-within from xs at low within) ∙ byte_in-at from xs at low))
    (λ behind. byte_in-at from (xs ++ ys) at low ∙ slice_get-append-right xs ys (at - from) (omega (arith, behind, low))
    ∙ ap (slice_get ys) (let e : (at - from) - length xs ≡ at - (from + length xs) = omega (arith, behind, low) in e)
    ∙ sym (ap (λ o. option_or o (byte_in (from + length xs) ys at)) (byte_in-behind from xs at behind) ∙ byte_in-at (from + length xs) ys at behind))
    (cases_lt at (from + length xs)))
    (cases_lt at from)

-- one byte
pub byte_in-one : (from byte at : ℕ) → at ≡ from → byte_in from (byte ∷ []) at ≡ Some byte
byte_in-one from byte at same = byte_in-at from (byte ∷ []) at (omega (arith, same)) ∙ ap (slice_get (byte ∷ [])) (let e : at - from ≡ 0 = omega (arith, same) in e)

pub byte_in-one-other : (from byte at : ℕ) → (at ≡ from → ⊥) → byte_in from (byte ∷ []) at ≡ None
byte_in-one-other from byte at other =
    ⊎_elim
    (λ before. byte_in-before from (byte ∷ []) at before)
    (λ low. byte_in-behind from (byte ∷ []) at (omega (arith, low, other)))
    (cases_lt at from)

pub byte_in-nothing : (from at : ℕ) → byte_in from [] at ≡ None
byte_in-nothing from at = ⊎_elim (byte_in-before from [] at) (λ low. byte_in-behind from [] at (omega (arith, low))) (cases_lt at from)

-- the bytes behind the first ones
pub byte_in-drop : (from n : ℕ) (bytes : List ℕ) (at : ℕ) → from + n ≤ at → byte_in (from + n) (drop n bytes) at ≡ byte_in from bytes at
byte_in-drop from n bytes at low =
    byte_in-at (from + n) (drop n bytes) at low ∙ slice_get-drop n (at - (from + n)) bytes
    ∙ ap (slice_get bytes) (let e : n + (at - (from + n)) ≡ at - from = omega (arith, low) in e)
    ∙ sym (byte_in-at from bytes at (omega (arith, low)))

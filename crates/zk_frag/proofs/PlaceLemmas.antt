-- Bytes at their places: a buffer with one more byte, and a payload with one more.
use Rattle.std.proofs.Common.{◌≡◌, ℕ, ◌+◌, ◌-◌, ◌<◌, ◌≤◌, Bool, true, false, cond, List, [], ◌∷◌, ◌++◌, length, get_or, take, eqb, Option, None, Some, refl, sym, ap, ◌∙◌, arith, ⊎_elim, length-append, length-take-le}
use Rattle.std.proofs.lemmas.List.{take_more}
use Rattle.std.specs.List.{slice_get}
use Rattle.std.specs.Option.{option_or}
use Rattle.std.proofs.Math.ListN.{set}
use Rattle.std.proofs.lemmas.Bool.{cases_eq, cases_lt, eq-eqb, ne_eqb, le-leb, lt-leb}
use Rattle.std.proofs.lemmas.Grind.{common_steps}
use Rattle.std.proofs.lemmas.Option.{slice_get-get_or, slice_get_past}
use Rattle.zk_frag.specs.Fragment.{byte_of}
use Rattle.zk_frag.specs.Buffer.{byte_held}

-- a byte at one place and none elsewhere
abbrev pub one_byte : ℕ → ℕ → ℕ → Option ℕ
one_byte at byte i = cond (eqb i at) (Some byte) None

pub option_or_none : {A : Type 0} (o : Option A) → option_or o None ≡ o
option_or_none None = refl
option_or_none (Some x) = refl

pub option_or_assoc : {A : Type 0} (o p q : Option A) → option_or (option_or o p) q ≡ option_or o (option_or p q)
option_or_assoc None p q = refl
option_or_assoc (Some x) p q = refl

one_byte-here : (at byte i : ℕ) → i ≡ at → one_byte at byte i ≡ Some byte
one_byte-here at byte i e = rw (eq-eqb i at e)

one_byte-other : (at byte i : ℕ) → (i ≡ at → ⊥) → one_byte at byte i ≡ None
one_byte-other at byte i ne = rw (ne_eqb i at ne)

-- one more element
slice_get-push : (xs : List ℕ) (y j : ℕ) → slice_get (xs ++ y ∷ []) j ≡ option_or (slice_get xs j) (one_byte (length xs) y j)
slice_get-push xs y j =
    ⊎_elim
    (λ e. slice_get-get_or (xs ++ y ∷ []) j y (omega (arith, length-append {A = ℕ}, e)) ∙ ap Some (grind (arith, common_steps, e))
    ∙ sym (ap (λ o. option_or o (one_byte (length xs) y j)) (slice_get_past xs j (omega (arith, e))) ∙ one_byte-here (length xs) y j e))
    (λ ne. ⊎_elim
    (λ lt. slice_get-get_or (xs ++ y ∷ []) j 0 (omega (arith, length-append {A = ℕ}, lt)) ∙ ap Some (grind (arith, common_steps, lt))
    ∙ sym (ap (λ o. option_or o (one_byte (length xs) y j)) (slice_get-get_or xs j 0 lt)))
    (λ ge. slice_get_past (xs ++ y ∷ []) j (omega (arith, length-append {A = ℕ}, ge, ne))
    ∙ sym (ap (λ o. option_or o (one_byte (length xs) y j)) (slice_get_past xs j ge) ∙ one_byte-other (length xs) y j ne))
    (cases_lt j (length xs)))
    (cases_eq j (length xs))

-- a byte written where there was none
pub held_put : (bytes : List ℕ) (covered : List Bool) (at byte i : ℕ) → at < length bytes → at < length covered → get_or covered at false ≡ false
    → byte_held (set bytes at byte) (set covered at true) i ≡ option_or (byte_held bytes covered i) (one_byte at byte i)
held_put bytes covered at byte i in_bytes in_covered free =
    ⊎_elim
    (λ e. grind (arith, common_steps, e, one_byte-here at byte i e))
    (λ ne. grind (arith, common_steps, one_byte-other at byte i ne, option_or_none (byte_held bytes covered i), ne))
    (cases_eq i at)

-- a byte left out where there was one
pub held_keep : (bytes : List ℕ) (covered : List Bool) (at byte i : ℕ) → get_or covered at false ≡ true
    → byte_held bytes covered i ≡ option_or (byte_held bytes covered i) (one_byte at byte i)
held_keep bytes covered at byte i taken =
    ⊎_elim
    (λ e. grind (arith, common_steps, e))
    (λ ne. sym (ap (option_or (byte_held bytes covered i)) (one_byte-other at byte i ne) ∙ option_or_none (byte_held bytes covered i)))
    (cases_eq i at)

-- a payload that begins later has no byte at the place
byte_of-before : (from : ℕ) (payload : List ℕ) (i : ℕ) → i < from → byte_of from payload i ≡ None
byte_of-before from payload i before = rw (lt-leb from i before)

byte_of-behind : (from : ℕ) (payload : List ℕ) (i : ℕ) → from ≤ i → byte_of from payload i ≡ slice_get payload (i - from)
byte_of-behind from payload i behind = rw (le-leb from i behind)

-- one more byte of a payload
pub byte_of_more : (from : ℕ) (payload : List ℕ) (k i : ℕ) → k < length payload
    → byte_of from (take (k + 1) payload) i ≡ option_or (byte_of from (take k payload) i) (one_byte (from + k) (get_or payload k 0) i)
byte_of_more from payload k i within =
    ⊎_elim
    (λ before. byte_of-before from (take (k + 1) payload) i before
    ∙ sym (ap (λ o. option_or o (one_byte (from + k) (get_or payload k 0) i)) (byte_of-before from (take k payload) i before)
    ∙ one_byte-other (from + k) (get_or payload k 0) i (λ e. omega (arith, e, before))))
    (λ behind. byte_of-behind from (take (k + 1) payload) i behind
    ∙ ap (λ xs. slice_get xs (i - from)) (take_more payload k 0 within)
    ∙ slice_get-push (take k payload) (get_or payload k 0) (i - from)
    ∙ ap (λ o. option_or o (one_byte (length (take k payload)) (get_or payload k 0) (i - from))) (sym (byte_of-behind from (take k payload) i behind))
    ∙ ap (option_or (byte_of from (take k payload) i)) (one_byte-moved from k (get_or payload k 0) i behind (length-take-le k payload (omega (arith, within)))))
    (cases_lt i from)
  where
    one_byte-moved : (from k byte i : ℕ) {n : ℕ} → from ≤ i → n ≡ k → one_byte n byte (i - from) ≡ one_byte (from + k) byte i
    one_byte-moved from k byte i {n} behind same =
        ⊎_elim
        (λ e. one_byte-here n byte (i - from) (omega (arith, e, same)) ∙ sym (one_byte-here (from + k) byte i e))
        (λ ne. one_byte-other n byte (i - from) (λ e. ne (omega (arith, e, same, behind))) ∙ sym (one_byte-other (from + k) byte i ne))
        (cases_eq i (from + k))

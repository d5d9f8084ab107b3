-- Bytes of two parts: of pages, and of a stretch.
use Rattle.std.proofs.Common.{◌≡◌, ℕ, zero, suc, ◌+◌, ◌-◌, ◌<◌, ◌≤◌, max, min, cond, List, ◌∷◌, length, Option, None, Some, IsSome, refl, sym, ap, ◌∙◌, ⊎_elim, arith}
use Rattle.std.specs.List.{slice_get}
use Rattle.std.specs.Option.{is_some, option_or}
use Rattle.std.proofs.lemmas.Bool.{cases_lt}
use Rattle.std.specs.VecDeque.{deque_len}
use Rattle.zk_reasm.specs.declared.scattered.Scattered.{Scattered}
use Rattle.zk_reasm.specs.declared.pages.Pages.{Pages}
use Rattle.zk_reasm.specs.declared.stretch.Stretch.{Stretch}
use Rattle.zk_reasm.specs.Scattered.{byte_scattered}
use Rattle.zk_reasm.specs.Between.{held_between}
use Rattle.zk_reasm.specs.Pages.{byte_paged}
use Rattle.zk_reasm.specs.Piece.{byte_in}
use Rattle.zk_reasm.specs.Stretch.{byte_in_stretch, MayExtend}
use Rattle.zk_reasm.proofs.PieceLemmas.{option_or_held, byte_in-at, byte_in-before, byte_in-behind, byte_in-within, byte_in-drop}
use Rattle.zk_reasm.proofs.RangeLemmas.{held_between-more, held_between-none, held_between-split, held_between-full, held_between-empty}

-- what is there of the second part is what the first has not
pub option_or_other : (o p : Option ℕ) → o ≡ None → option_or o p ≡ p
option_or_other o p none = ap (λ (q : Option ℕ). option_or q p) none

-- two parts of which one has nothing can change places
pub option_or_swap : (o p : Option ℕ) → (IsSome p → o ≡ None) → option_or o p ≡ option_or p o
option_or_swap None None other = refl
option_or_swap None (Some y) other = refl
option_or_swap (Some x) None other = refl
option_or_swap (Some x) (Some y) other = let no : Some x ≡ None = other refl in cc

one_of : (o p : Option ℕ) → (IsSome p → o ≡ None) → cond (is_some (option_or o p)) 1 0 ≡ cond (is_some o) 1 0 + cond (is_some p) 1 0
one_of None None other = refl
one_of None (Some y) other = refl
one_of (Some x) None other = refl
one_of (Some x) (Some y) other = let no : Some x ≡ None = other refl in cc

both_up_to : (f g : ℕ → Option ℕ) (a n : ℕ) → ((at : ℕ) → IsSome (g at) → f at ≡ None)
    → held_between (λ at. option_or (f at) (g at)) a (a + n) ≡ held_between f a (a + n) + held_between g a (a + n)
both_up_to f g a zero other =
    let h = held_between-none (λ at. option_or (f at) (g at)) a (a + 0) (omega arith) in
    let hf = held_between-none f a (a + 0) (omega arith) in
    let hg = held_between-none g a (a + 0) (omega arith) in
    omega (arith, h, hf, hg)
both_up_to f g a (suc n) other =
    let e : a + suc n ≡ a + n + 1 = omega arith in
    let h = ap (held_between (λ at. option_or (f at) (g at)) a) e ∙ held_between-more (λ at. option_or (f at) (g at)) a (a + n) (omega arith) in
    let hf = ap (held_between f a) e ∙ held_between-more f a (a + n) (omega arith) in
    let hg = ap (held_between g a) e ∙ held_between-more g a (a + n) (omega arith) in
    let here = one_of (f (a + n)) (g (a + n)) (other (a + n)) in
    let before = both_up_to f g a n other in
    omega (arith, h, hf, hg, here, before)

-- how many places have a byte of one part or the other, which have no place in common
pub held_between-both : (f g : ℕ → Option ℕ) (a b : ℕ) → ((at : ℕ) → IsSome (g at) → f at ≡ None)
    → held_between (λ at. option_or (f at) (g at)) a b ≡ held_between f a b + held_between g a b
held_between-both f g a b other =
    ⊎_elim
    (λ low. let e : b ≡ a + (b - a) = omega arith in
    let h = ap (held_between (λ at. option_or (f at) (g at)) a) e in
    let hf = ap (held_between f a) e in
    let hg = ap (held_between g a) e in
    let all = both_up_to f g a (b - a) other in
    omega (arith, h, hf, hg, all))
    (λ past.
    let h = held_between-none (λ at. option_or (f at) (g at)) a b past in
    let hf = held_between-none f a b past in
    let hg = held_between-none g a b past in
    omega (arith, h, hf, hg))
    (cases_lt a b)

-- the first of some bytes, and those behind it
pub byte_in-first : (from byte : ℕ) (rest : List ℕ) → byte_in from (byte ∷ rest) from ≡ Some byte
byte_in-first from byte rest = byte_in-at from (byte ∷ rest) from (omega arith) ∙ ap (slice_get (byte ∷ rest)) (let e : from - from ≡ 0 = omega arith in e)

pub byte_in-rest : (from byte : ℕ) (rest : List ℕ) (at : ℕ) → from + 1 ≤ at → byte_in (from + 1) rest at ≡ byte_in from (byte ∷ rest) at
byte_in-rest from byte rest at low = byte_in-drop from 1 (byte ∷ rest) at low

-- no byte outside of the bytes
pub byte_in-outside : (from : ℕ) (bytes : List ℕ) (at : ℕ) → (from ≤ at → at < from + length bytes → ⊥) → byte_in from bytes at ≡ None
byte_in-outside from bytes at outside =
    ⊎_elim
    (byte_in-before from bytes at)
    (λ low. ⊎_elim (λ high. absurd (outside low high)) (byte_in-behind from bytes at) (cases_lt at (from + length bytes)))
    (cases_lt at from)

-- a place that has a byte is one of the bytes' places
pub byte_in-inside : (from : ℕ) (bytes : List ℕ) (at : ℕ) → IsSome (byte_in from bytes at) → (from ≤ at) × (at < from + length bytes)
byte_in-inside from bytes at there =
    ⊎_elim
    (λ before. let no = sym there ∙ ap is_some (byte_in-before from bytes at before) in cc)
    (λ low. ⊎_elim (λ high. (low, high)) (λ behind. let no = sym there ∙ ap is_some (byte_in-behind from bytes at behind) in cc) (cases_lt at (from + length bytes)))
    (cases_lt at from)

-- how many of the places between are places of the bytes
pub held_between-bytes : (from : ℕ) (bytes : List ℕ) (a b : ℕ) → held_between (byte_in from bytes) a b ≡ min b (from + length bytes) - max a from
held_between-bytes from bytes a b =
    ⊎_elim
    (λ some.
    let before = held_between-empty (byte_in from bytes) a (max a from) (λ at low high. byte_in-outside from bytes at (λ l h. omega arith)) in
    let inside = held_between-full (byte_in from bytes) (max a from) (min b (from + length bytes)) (omega arith)
    (λ at low high. byte_in-within from bytes at (omega arith) (omega arith)) in
    let behind = held_between-empty (byte_in from bytes) (min b (from + length bytes)) b (λ at low high. byte_in-outside from bytes at (λ l h. omega arith)) in
    let first = held_between-split (byte_in from bytes) a (max a from) b (omega arith) (omega arith) in
    let second = held_between-split (byte_in from bytes) (max a from) (min b (from + length bytes)) b (omega arith) (omega arith) in
    omega (arith, before, inside, behind, first, second))
    (λ none. let empty = held_between-empty (byte_in from bytes) a b (λ at low high. byte_in-outside from bytes at (λ l h. omega arith)) in omega (arith, empty))
    (cases_lt (max a from) (min b (from + length bytes)))

-- a place of the stretch is on no page
pub one_place : (scattered : Scattered) (at : ℕ) → IsSome (byte_in_stretch scattered.last at) → byte_paged scattered.pages at ≡ None
one_place scattered at there =
    let is = byte_in-inside scattered.last.at scattered.last.bytes.items at there in
    scattered.once at is.0 (omega (arith, is.1, scattered.last.bytes.ok.0))

pub held_scattered : (scattered : Scattered) (a b : ℕ) → held_between (byte_scattered scattered) a b ≡ held_between (byte_paged scattered.pages) a b + held_between (byte_in_stretch scattered.last) a b
unfolding byte_scattered
held_scattered scattered a b = held_between-both (byte_paged scattered.pages) (byte_in_stretch scattered.last) a b (one_place scattered)

-- the byte of a place on a page, and of one in the stretch
pub byte_scattered-page : (scattered : Scattered) (at : ℕ) → IsSome (byte_paged scattered.pages at) → byte_paged scattered.pages at ≡ byte_scattered scattered at
unfolding byte_scattered
byte_scattered-page scattered at there = sym (option_or_held (byte_paged scattered.pages at) (byte_in_stretch scattered.last at) there)

pub byte_scattered-stretch : (scattered : Scattered) (at : ℕ) → IsSome (byte_in_stretch scattered.last at) → byte_in_stretch scattered.last at ≡ byte_scattered scattered at
unfolding byte_scattered
byte_scattered-stretch scattered at there = sym (option_or_other (byte_paged scattered.pages at) (byte_in_stretch scattered.last at) (one_place scattered at there))

-- what is left of the stretch lies behind a place from which on nothing changed
pub once_behind : (scattered : Scattered) (pages : Pages) (last : Stretch) (place : ℕ) → (0 < deque_len last.bytes → place ≤ last.at)
    → ((at : ℕ) → place ≤ at → byte_in_stretch last at ≡ byte_in_stretch scattered.last at) → ((at : ℕ) → place ≤ at → byte_paged pages at ≡ byte_paged scattered.pages at)
    → (at : ℕ) → last.at ≤ at → at < last.at + deque_len last.bytes → byte_paged pages at ≡ None
once_behind scattered pages last place left stretch paged at low high =
    let behind : place ≤ at = let l = left (omega (arith, low, high)) in omega (arith, l, low) in
    let there : IsSome (byte_in_stretch last at) = byte_in-within last.at last.bytes.items at low (omega (arith, high, last.bytes.ok.0)) in
    paged at behind ∙ one_place scattered at (sym (ap is_some (stretch at behind)) ∙ there)

-- the stretch has no byte where it may be extended
pub extended_outside : (last : Stretch) (at n i : ℕ) → MayExtend last at n → at ≤ i → i < at + n → byte_in_stretch last i ≡ None
extended_outside last at n i may low high =
    byte_in-outside last.at last.bytes.items i
    (λ l h. ⊎_elim (λ e. omega (arith, e, l, h, last.bytes.ok.0))
    (⊎_elim (λ e. omega (arith, e, l, h, low, high, last.bytes.ok.0)) (λ e. omega (arith, e, l, h, low, high, last.bytes.ok.0))) may)

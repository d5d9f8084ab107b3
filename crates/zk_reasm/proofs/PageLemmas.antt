-- A page after one of its places has changed.
use Rattle.std.proofs.Common.{◌≡◌, ◌≢◌, ℕ, ◌+◌, ◌<◌, ◌≤◌, true, cond, List, [], ◌∷◌, length, take, get_or, Some, None, IsSome, sym, ap, ◌∙◌, ⊎_elim, arith, length-take-le}
use Rattle.std.specs.Option.{is_some, option_or}
use Rattle.std.specs.Prelude.{nat_lt, ◌==◌, ◌&&◌, slice_index}
use Rattle.std.specs.Int.{bit_at}
use Rattle.std.proofs.lemmas.Bool.{cases_eq, cases_lt, lt-ltb, le-ltb}
use Rattle.std.proofs.lemmas.List.{take_more}
use Rattle.zk_reasm.specs.declared.page.Page.{Page}
use Rattle.zk_reasm.specs.declared.page.TheConstants.{PAGE_LEN}
use Rattle.zk_reasm.specs.Page.{byte_on}
use Rattle.zk_reasm.specs.Piece.{byte_in}
use Rattle.zk_reasm.proofs.PieceLemmas.{option_or_none, option_or_held, byte_in-append, byte_in-behind, byte_in-one, byte_in-one-other}

-- no byte past the page's end
pub byte_on-past : (page : Page) (at : ℕ) → PAGE_LEN ≤ at → byte_on page at ≡ None
unfolding byte_on
byte_on-past page at past = ap (λ b. cond (b && (bit_at page.has at == 1)) (Some (slice_index page.bytes at)) None) (le-ltb at PAGE_LEN past)

-- the byte of a place whose bit is set, and none where it isn't
pub byte_on-held : (page : Page) (at : ℕ) → at < PAGE_LEN → bit_at page.has at ≡ 1 → byte_on page at ≡ Some (slice_index page.bytes at)
unfolding byte_on
byte_on-held page at low is =
    ap (λ b. cond (b && (bit_at page.has at == 1)) (Some (slice_index page.bytes at)) None) (lt-ltb at PAGE_LEN low)
    ∙ ap (λ n. cond (true && (n == 1)) (Some (slice_index page.bytes at)) None) is

pub byte_on-free : (page : Page) (at : ℕ) → at < PAGE_LEN → bit_at page.has at ≡ 0 → byte_on page at ≡ None
unfolding byte_on
byte_on-free page at low is =
    ap (λ b. cond (b && (bit_at page.has at == 1)) (Some (slice_index page.bytes at)) None) (lt-ltb at PAGE_LEN low)
    ∙ ap (λ n. cond (true && (n == 1)) (Some (slice_index page.bytes at)) None) is

-- a place with the same bit and the same byte
pub byte_on-same : (old new : Page) (at : ℕ) → (at < PAGE_LEN → bit_at new.has at ≡ bit_at old.has at) → slice_index new.bytes at ≡ slice_index old.bytes at
    → byte_on new at ≡ byte_on old at
unfolding byte_on
byte_on-same old new at bit byte =
    ⊎_elim
    (λ low. ap (λ n. cond (nat_lt at PAGE_LEN && (n == 1)) (Some (slice_index new.bytes at)) None) (bit low)
    ∙ ap (λ v. cond (nat_lt at PAGE_LEN && (bit_at old.has at == 1)) (Some v) None) byte)
    (λ past. byte_on-past new at past ∙ sym (byte_on-past old at past))
    (cases_lt at PAGE_LEN)

-- a byte put where none was
pub byte_on-put : (old new : Page) (at byte i : ℕ) → byte_on new at ≡ Some byte → ((other : ℕ) → other ≢ at → byte_on new other ≡ byte_on old other) → byte_on old at ≡ None
    → byte_on new i ≡ option_or (byte_on old i) (byte_in at (byte ∷ []) i)
byte_on-put old new at byte i here others free =
    ⊎_elim
    (λ same. ap (byte_on new) same ∙ here
    ∙ sym (ap (λ o. option_or o (byte_in at (byte ∷ []) i)) (ap (byte_on old) same ∙ free) ∙ byte_in-one at byte i same))
    (λ other. others i other
    ∙ sym (ap (option_or (byte_on old i)) (byte_in-one-other at byte i other) ∙ option_or_none (byte_on old i)))
    (cases_eq i at)

-- a byte that isn't put, since one is there
pub byte_on-stays : (page : Page) (at byte i : ℕ) → IsSome (byte_on page at)
    → byte_on page i ≡ option_or (byte_on page i) (byte_in at (byte ∷ []) i)
byte_on-stays page at byte i held =
    ⊎_elim
    (λ same. sym (option_or_held (byte_on page i) (byte_in at (byte ∷ []) i) (ap (λ k. is_some (byte_on page k)) same ∙ held)))
    (λ other. sym (ap (option_or (byte_on page i)) (byte_in-one-other at byte i other) ∙ option_or_none (byte_on page i)))
    (cases_eq i at)

-- one more of the bytes that are put
pub byte_in-more : (from k : ℕ) (bytes : List ℕ) (i : ℕ) → k < length bytes
    → byte_in from (take (k + 1) bytes) i ≡ option_or (byte_in from (take k bytes) i) (byte_in (from + k) (get_or bytes k 0 ∷ []) i)
byte_in-more from k bytes i within =
    ap (λ xs. byte_in from xs i) (take_more bytes k 0 within)
    ∙ byte_in-append from (take k bytes) (get_or bytes k 0 ∷ []) i
    ∙ ap (λ n. option_or (byte_in from (take k bytes) i) (byte_in (from + n) (get_or bytes k 0 ∷ []) i)) (length-take-le k bytes (omega arith))

-- the place behind the first k bytes has none of them
pub byte_in-take-end : (from k : ℕ) (bytes : List ℕ) → k < length bytes → byte_in from (take k bytes) (from + k) ≡ None
byte_in-take-end from k bytes within = byte_in-behind from (take k bytes) (from + k) (let e = length-take-le k bytes (omega arith) in omega (arith, e))

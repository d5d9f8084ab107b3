-- Places by sequence numbers modulo 2^32: which bytes of a segment have one.
use Rattle.std.proofs.Common.{◌≡◌, ℕ, zero, suc, ◌+◌, ◌-◌, ◌^◌, ◌<◌, ◌≤◌, min, cond, List, [], ◌∷◌, ◌++◌, length, take, drop, Option, Some, None, refl, sym, ap, ◌∙◌, ⊎_elim, arith, append-nil}
use Rattle.std.specs.Prelude.{nat_lt}
use Rattle.std.specs.List.{slice_get, filter_map, range_with_len, cons_option}
use Rattle.std.proofs.lemmas.Bool.{cases_lt, lt-ltb, le-ltb}
use Rattle.std.proofs.lemmas.List.{length-take}
use Rattle.std.proofs.lemmas.List.Elements.{filter_map-append}
use Rattle.std.proofs.lemmas.Option.{slice_get_past}
use Rattle.zk_reasm.specs.declared.place.TheConstants.{PLACES}
use Rattle.zk_reasm.specs.Piece.{byte_in}
use Rattle.zk_reasm.specs.Place.{ahead, distance, place, byte_of, places_of}
use Rattle.zk_reasm.proofs.PieceLemmas.{slice_get-take, slice_get-drop, byte_in-at, byte_in-before, byte_in-behind}
use Rattle.zk_reasm.proofs.RangeLemmas.{range_with_len-add}

-- the number of a place at or past a segment's first byte
ahead-behind : (base seq at : ℕ) → base < 2 ^ 32 → seq < 2 ^ 32 → at < 2 ^ 31 → distance base seq ≤ at → ahead seq (base + 1 + at) ≡ at - distance base seq
ahead-behind base seq at low_base low_seq low_at behind = omega arith

-- the number of a place before it
ahead-before : (base seq at : ℕ) → base < 2 ^ 32 → seq < 2 ^ 32 → at < distance base seq → ahead seq (base + 1 + at) ≡ at + 2 ^ 32 - distance base seq
ahead-before base seq at low_base low_seq before = omega arith

-- the numbers behind a number
distance-behind : (base seq k : ℕ) → base < 2 ^ 32 → seq < 2 ^ 32 → distance base seq + k < 2 ^ 32 → distance base (seq + k) ≡ distance base seq + k
distance-behind base seq k low_base low_seq fits = omega arith

distance-wrapped : (base seq k : ℕ) → base < 2 ^ 32 → seq < 2 ^ 32 → k < 2 ^ 31 → 2 ^ 32 ≤ distance base seq + k
    → distance base (seq + k) ≡ distance base seq + k - 2 ^ 32
distance-wrapped base seq k low_base low_seq low_k past = omega arith

byte_of-place : (base seq : ℕ) (bytes : List ℕ) (at : ℕ) → at < PLACES → byte_of base seq bytes at ≡ slice_get bytes (ahead seq (base + 1 + at))
unfolding byte_of
byte_of-place base seq bytes at low = ap (λ b. cond b (slice_get bytes (ahead seq (base + 1 + at))) None) (lt-ltb at PLACES low)

byte_of-past : (base seq : ℕ) (bytes : List ℕ) (at : ℕ) → PLACES ≤ at → byte_of base seq bytes at ≡ None
unfolding byte_of
byte_of-past base seq bytes at past = ap (λ b. cond b (slice_get bytes (ahead seq (base + 1 + at))) None) (le-ltb at PLACES past)

-- the bytes from a segment's first place on, up to the last place that there is
pub byte_in-from_place : (base seq n : ℕ) (bytes : List ℕ) → base < 2 ^ 32 → seq < 2 ^ 32 → distance base seq < PLACES
    → length bytes ≤ 65535 → n ≡ min (length bytes) (PLACES - distance base seq) → (at : ℕ)
    → byte_in (distance base seq) (take n bytes) at ≡ byte_of base seq bytes at
byte_in-from_place base seq n bytes low_base low_seq low short is at =
    ⊎_elim
    (λ before. byte_in-before (distance base seq) (take n bytes) at before
    ∙ sym (byte_of-place base seq bytes at (omega (arith, before, low)) ∙ ap (slice_get bytes) (ahead-before base seq at low_base low_seq before)
    ∙ slice_get_past bytes (at + 2 ^ 32 - distance base seq) (omega (arith, low, short))))
    (λ behind. ⊎_elim
    (λ low_at. byte_in-at (distance base seq) (take n bytes) at behind
    ∙ taken (at - distance base seq) (omega (arith, low_at, behind))
    ∙ sym (byte_of-place base seq bytes at low_at ∙ ap (slice_get bytes) (ahead-behind base seq at low_base low_seq low_at behind)))
    (λ past. byte_in-behind (distance base seq) (take n bytes) at (let e = length-take n bytes in omega (arith, e, past, is, low))
    ∙ sym (byte_of-past base seq bytes at past))
    (cases_lt at PLACES))
    (cases_lt at (distance base seq))
  where
    taken : (i : ℕ) → i < PLACES - distance base seq → slice_get (take n bytes) i ≡ slice_get bytes i
    taken i within = ⊎_elim
        (λ below. slice_get-take n i bytes below)
        (λ from. slice_get_past (take n bytes) i (let e = length-take n bytes in omega (arith, e, from)) ∙ sym (slice_get_past bytes i (omega (arith, from, is, within))))
        (cases_lt i n)

-- the bytes from place 0 on, behind those that lie before the base
pub byte_in-from_base : (base seq m : ℕ) (bytes : List ℕ) → base < 2 ^ 32 → seq < 2 ^ 32 → PLACES ≤ distance base seq
    → length bytes ≤ 65535 → m ≡ min (length bytes) (2 ^ 32 - distance base seq) → (at : ℕ)
    → byte_in 0 (drop m bytes) at ≡ byte_of base seq bytes at
byte_in-from_base base seq m bytes low_base low_seq high short is at =
    byte_in-at 0 (drop m bytes) at (omega arith) ∙ slice_get-drop m (at - 0) bytes
    ∙ ⊎_elim
    (λ low_at. dropped low_at
    ∙ sym (byte_of-place base seq bytes at low_at ∙ ap (slice_get bytes) (ahead-before base seq at low_base low_seq (omega (arith, low_at, high)))))
    (λ past. slice_get_past bytes (m + (at - 0)) (omega (arith, past, short)) ∙ sym (byte_of-past base seq bytes at past))
    (cases_lt at PLACES)
  where
    dropped : at < PLACES → slice_get bytes (m + (at - 0)) ≡ slice_get bytes (at + 2 ^ 32 - distance base seq)
    dropped low_at = ⊎_elim
        (λ below. slice_get_past bytes (m + (at - 0)) (omega (arith, below, is)) ∙ sym (slice_get_past bytes (at + 2 ^ 32 - distance base seq) (omega (arith, below))))
        (λ enough. ap (slice_get bytes) (let e : m + (at - 0) ≡ at + 2 ^ 32 - distance base seq = omega (arith, enough, is) in e))
        (cases_lt (length bytes) (2 ^ 32 - distance base seq))

-- numbers that have the places from d on, in order
filter_map-range : (h : ℕ → Option ℕ) (a d n : ℕ) → ((k : ℕ) → k < n → h (a + k) ≡ Some (d + k)) → filter_map h (range_with_len a n) ≡ range_with_len d n
filter_map-range h a d zero each = refl
filter_map-range h a d (suc n) each =
    ap (λ o. cons_option o (filter_map h (range_with_len (a + 1) n))) (ap h (let e : a ≡ a + 0 = omega arith in e) ∙ each 0 (omega arith) ∙ ap Some (let e : d + 0 ≡ d = omega arith in e))
    ∙ ap (λ xs. d ∷ xs) (filter_map-range h (a + 1) (d + 1) n
    (λ k low. ap h (let e : a + 1 + k ≡ a + suc k = omega arith in e) ∙ each (suc k) (omega (arith, low)) ∙ ap Some (let e : d + suc k ≡ d + 1 + k = omega arith in e)))

-- numbers that have no place
filter_map-range-none : (h : ℕ → Option ℕ) (a n : ℕ) → ((k : ℕ) → k < n → h (a + k) ≡ None) → filter_map h (range_with_len a n) ≡ []
filter_map-range-none h a zero each = refl
filter_map-range-none h a (suc n) each =
    ap (λ o. cons_option o (filter_map h (range_with_len (a + 1) n))) (ap h (let e : a ≡ a + 0 = omega arith in e) ∙ each 0 (omega arith))
    ∙ filter_map-range-none h (a + 1) n (λ k low. ap h (let e : a + 1 + k ≡ a + suc k = omega arith in e) ∙ each (suc k) (omega (arith, low)))

place-there : (base number at : ℕ) → distance base number ≡ at → at < PLACES → place base number ≡ Some at
place-there base number at is low =
    ap (λ d. cond (nat_lt d PLACES) (Some d) None) is ∙ ap (λ b. cond b (Some at) None) (lt-ltb at PLACES low)

place-none : (base number at : ℕ) → distance base number ≡ at → PLACES ≤ at → place base number ≡ None
place-none base number at is past =
    ap (λ d. cond (nat_lt d PLACES) (Some d) None) is ∙ ap (λ b. cond b (Some at) None) (le-ltb at PLACES past)

pub places_of-from_place : (base seq n : ℕ) (bytes : List ℕ) → base < 2 ^ 32 → seq < 2 ^ 32 → distance base seq < PLACES
    → length bytes ≤ 65535 → n ≡ min (length bytes) (PLACES - distance base seq)
    → places_of base seq bytes ≡ range_with_len (distance base seq) n
unfolding places_of
places_of-from_place base seq n bytes low_base low_seq low short is =
    ap (filter_map (λ k. place base (seq + k))) (ap (range_with_len 0) (let e : length bytes ≡ n + (length bytes - n) = omega (arith, is) in e) ∙ range_with_len-add 0 n (length bytes - n))
    ∙ filter_map-append (λ k. place base (seq + k)) (range_with_len 0 n) (range_with_len (0 + n) (length bytes - n))
    ∙ ap (λ xs. xs ++ filter_map (λ k. place base (seq + k)) (range_with_len (0 + n) (length bytes - n)))
    (filter_map-range (λ k. place base (seq + k)) 0 (distance base seq) n
    (λ k within. ap (λ j. place base (seq + j)) (let e : 0 + k ≡ k = omega arith in e)
    ∙ place-there base (seq + k) (distance base seq + k) (distance-behind base seq k low_base low_seq (omega (arith, within, is, low))) (omega (arith, within, is))))
    ∙ ap (λ xs. range_with_len (distance base seq) n ++ xs)
    (filter_map-range-none (λ k. place base (seq + k)) (0 + n) (length bytes - n)
    (λ k within. place-none base (seq + (0 + n + k)) (distance base seq + (0 + n + k))
    (distance-behind base seq (0 + n + k) low_base low_seq (omega (arith, within, short, low))) (omega (arith, within, is))))
    ∙ append-nil (range_with_len (distance base seq) n)

pub places_of-from_base : (base seq m : ℕ) (bytes : List ℕ) → base < 2 ^ 32 → seq < 2 ^ 32 → PLACES ≤ distance base seq
    → length bytes ≤ 65535 → m ≡ min (length bytes) (2 ^ 32 - distance base seq)
    → places_of base seq bytes ≡ range_with_len 0 (length bytes - m)
unfolding places_of
places_of-from_base base seq m bytes low_base low_seq high short is =
    ap (filter_map (λ k. place base (seq + k))) (ap (range_with_len 0) (let e : length bytes ≡ m + (length bytes - m) = omega (arith, is) in e) ∙ range_with_len-add 0 m (length bytes - m))
    ∙ filter_map-append (λ k. place base (seq + k)) (range_with_len 0 m) (range_with_len (0 + m) (length bytes - m))
    ∙ ap (λ xs. xs ++ filter_map (λ k. place base (seq + k)) (range_with_len (0 + m) (length bytes - m)))
    (filter_map-range-none (λ k. place base (seq + k)) 0 m
    (λ k within. place-none base (seq + (0 + k)) (distance base seq + (0 + k))
    (distance-behind base seq (0 + k) low_base low_seq (omega (arith, within, is))) (omega (arith, high))))
    ∙ filter_map-range (λ k. place base (seq + k)) (0 + m) 0 (length bytes - m)
    (λ k within. place-there base (seq + (0 + m + k)) (0 + k)
    (distance-wrapped base seq (0 + m + k) low_base low_seq (omega (arith, within, short)) (omega (arith, within, is)) ∙ (let e : distance base seq + (0 + m + k) - 2 ^ 32 ≡ 0 + k = omega (arith, within, is, low_seq) in e))
    (omega (arith, within, short)))

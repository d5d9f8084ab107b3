-- The front after one more entry that moves it: the first place from the reach on without a byte, or the FIN's place.
use Rattle.std.proofs.Common.{◌≡◌, ℕ, zero, suc, ◌+◌, ◌-◌, ◌<◌, ◌≤◌, max, min, Bool, true, false, cond, ◌&&◌, leb, List, map, Option, None, Some, IsSome, refl, sym, ap, ◌∙◌, ⊎_elim, arith}
use Rattle.std.specs.Prelude.{is_some, unwrap_or}
use Rattle.std.specs.List.{range_with_len, prefix_len}
use Rattle.std.proofs.lemmas.Bool.{cases_lt, true≢false, false≢true, lt-ltb, le-leb}
use Rattle.zk_reasm.specs.declared.place.TheConstants.{PLACES}
use Rattle.zk_reasm.specs.Direction.{reach, byte_at, run_end, up_to_fin, front}
use Rattle.zk_reasm.specs.Histories.{is_reached}
use Rattle.zk_reasm.specs.Parts.{IsFirstFree}
use Rattle.zk_reasm.specs.Told.{Told, payload_end}
use Rattle.zk_reasm.proofs.PieceLemmas.{none_from}

-- what is known of the places from one on that pass a test: they do, the next one doesn't, and they are no more than all
pub record Passes (p : Option ℕ → Bool) (f : ℕ → Option ℕ) (a n m : ℕ) : Type 0 where
  pub most : m ≤ n
  pub each : (k : ℕ) → k < m → p (f (a + k)) ≡ true
  pub stops : m < n → p (f (a + m)) ≡ false

pub passes : (p : Option ℕ → Bool) (f : ℕ → Option ℕ) (a n : ℕ) → Passes p f a n (prefix_len p (map f (range_with_len a n)))
passes p f a zero = record { most = omega arith; each = λ k low. absurd (omega (arith, low)); stops = λ low. absurd (omega (arith, low)) }
passes p f a (suc n) = one (p (f a)) refl (passes p f (a + 1) n)
  where
    one : (b : Bool) → p (f a) ≡ b → Passes p f (a + 1) n (prefix_len p (map f (range_with_len (a + 1) n)))
        → Passes p f a (suc n) (cond b (1 + prefix_len p (map f (range_with_len (a + 1) n))) 0)
    one true is rest = record {
      most = omega (arith, rest.most);
      each = λ k low. at_place k low;
      stops = λ low. ap (λ i. p (f i)) (let e : a + (1 + prefix_len p (map f (range_with_len (a + 1) n))) ≡ a + 1 + prefix_len p (map f (range_with_len (a + 1) n)) = omega arith in e)
          ∙ rest.stops (omega (arith, low));
    }
      where
        at_place : (k : ℕ) → k < 1 + prefix_len p (map f (range_with_len (a + 1) n)) → p (f (a + k)) ≡ true
        at_place zero low = ap (λ i. p (f i)) (let e : a + 0 ≡ a = omega arith in e) ∙ is
        at_place (suc k) low = ap (λ i. p (f i)) (let e : a + suc k ≡ a + 1 + k = omega arith in e) ∙ rest.each k (omega (arith, low))
    one false is rest = record {
      most = omega arith;
      each = λ k low. absurd (omega (arith, low));
      stops = λ low. ap (λ i. p (f i)) (let e : a + 0 ≡ a = omega arith in e) ∙ is;
    }

-- the run's end is the first place from the reach on without a byte
pub run_end_first : (base : ℕ) (told : List Told) → ((at : ℕ) → payload_end base told ≤ at → byte_at base told at ≡ None)
    → IsFirstFree (byte_at base told) (reach base told) (run_end base told)
unfolding run_end
run_end_first base told behind =
    let f = byte_at base told in
    let a = reach base told in
    let n = payload_end base told - a in
    let run = passes is_some f a n in
    let m = prefix_len is_some (map f (range_with_len a n)) in
    record {
      least = omega arith;
      before = λ at low high. ap (λ i. is_some (f i)) (let e : at ≡ a + (at - a) = omega (arith, low) in e) ∙ run.each (at - a) (omega (arith, low, high));
      none = ⊎_elim
          (λ short. none_from (f (a + m)) (run.stops short))
          (λ full. behind (a + m) (omega (arith, full, run.most)))
          (cases_lt m n);
    }

pub run_end-le : (base : ℕ) (told : List Told) → run_end base told ≤ max (reach base told) (payload_end base told)
unfolding run_end
run_end-le base told = let run = passes is_some (byte_at base told) (reach base told) (payload_end base told - reach base told) in omega (arith, run.most)

-- what is known where the front is moved
pub record Moving (bytes : ℕ → Option ℕ) (base : ℕ) (told : List Told) (old_front old_reach known : ℕ) (fin : Option ℕ) : Type 0 where
  pub reach_is : reach base told ≡ max old_reach known
  pub front_is : front base told ≡ max old_front (up_to_fin (run_end base told) fin)
  pub order : old_reach ≤ old_front
  pub front_within : old_front ≤ PLACES
  pub known_within : known ≤ PLACES
  pub end : payload_end base told ≤ PLACES
  pub covered : (at : ℕ) → old_reach ≤ at → at < old_front → IsSome (byte_at base told at)
  pub behind : (at : ℕ) → payload_end base told ≤ at → byte_at base told at ≡ None
  pub same : (at : ℕ) → old_front ≤ at → bytes at ≡ byte_at base told at
  pub short : is_reached fin old_front ≡ false

-- the run's end is where the bytes that are held have their first hole
moving_first : (bytes : ℕ → Option ℕ) (base : ℕ) (told : List Told) (old_front old_reach known : ℕ) (fin : Option ℕ) → Moving bytes base told old_front old_reach known fin
    → IsFirstFree bytes (max old_front known) (run_end base told)
moving_first bytes base told old_front old_reach known fin moving =
    let first = run_end_first base told moving.behind in
    let past : old_front ≤ run_end base told = ⊎_elim
    (λ before. absurd (false≢true (sym (ap is_some first.none) ∙ moving.covered (run_end base told) (omega (arith, first.least, moving.reach_is)) before)))
    (λ low. low)
    (cases_lt (run_end base told) old_front) in
    record {
      least = omega (arith, past, first.least, moving.reach_is);
      before = λ at low high. ap is_some (moving.same at (omega (arith, low))) ∙ first.before at (omega (arith, low, moving.order, moving.reach_is)) high;
      none = moving.same (run_end base told) past ∙ first.none;
    }

-- a FIN that isn't reached lies past the front, or past all places
fin_ahead : (fin at : ℕ) → is_reached (Some fin) at ≡ false → min PLACES fin ≤ at → PLACES ≤ fin
fin_ahead fin at short low =
    ⊎_elim
    (λ place. absurd (true≢false (sym (ap (λ b. b && leb fin at) (lt-ltb fin PLACES place) ∙ le-leb fin at (omega (arith, low, place))) ∙ short)))
    (λ past. past)
    (cases_lt fin PLACES)

-- the front that was moved so far
pub moved_front : (bytes : ℕ → Option ℕ) (base : ℕ) (told : List Told) (old_front old_reach known most new_front : ℕ) (fin : Option ℕ)
    → Moving bytes base told old_front old_reach known fin → most ≡ max old_front (min PLACES (unwrap_or fin PLACES))
    → ((free : ℕ) → IsFirstFree bytes (max old_front known) free → new_front ≡ min free most) → new_front ≡ front base told
moved_front bytes base told old_front old_reach known most new_front fin moving most_is moves =
    let first = moving_first bytes base told old_front old_reach known fin moving in
    let low = run_end-le base told in
    moves (run_end base told) first ∙ by_fin fin moving.short most_is (omega (arith, first.least)) (omega (arith, low, moving.end, moving.known_within, moving.order, moving.front_within, moving.reach_is)) ∙ sym moving.front_is
  where
    by_fin : (o : Option ℕ) → is_reached o old_front ≡ false → most ≡ max old_front (min PLACES (unwrap_or o PLACES)) → old_front ≤ run_end base told → run_end base told ≤ PLACES
        → min (run_end base told) most ≡ max old_front (up_to_fin (run_end base told) o)
    by_fin None short is past within = omega (arith, is, past, within, moving.front_within)
    by_fin (Some at) short is past within =
        ⊎_elim
        (λ ahead. omega (arith, is, past, within, ahead, moving.front_within))
        (λ behind. let far = fin_ahead at old_front short behind in omega (arith, is, past, within, far, moving.front_within))
        (cases_lt old_front (min PLACES at))

-- each place from the reach up to it has its byte
pub moved_covered : (bytes : ℕ → Option ℕ) (base : ℕ) (told : List Told) (old_front old_reach known : ℕ) (fin : Option ℕ)
    → Moving bytes base told old_front old_reach known fin → (at : ℕ) → reach base told ≤ at → at < front base told → IsSome (byte_at base told at)
moved_covered bytes base told old_front old_reach known fin moving at low high =
    let first = moving_first bytes base told old_front old_reach known fin moving in
    (run_end_first base told moving.behind).before at low (omega (arith, high, moving.front_is, up_to_fin-le (run_end base told) fin, first.least))
  where
    up_to_fin-le : (n : ℕ) (o : Option ℕ) → up_to_fin n o ≤ n
    up_to_fin-le n None = omega arith
    up_to_fin-le n (Some at) = omega arith

-- and the reach isn't past it, as long as the FIN isn't reached
pub moved_order : (bytes : ℕ → Option ℕ) (base : ℕ) (told : List Told) (old_front old_reach known : ℕ) (fin : Option ℕ)
    → Moving bytes base told old_front old_reach known fin → is_reached fin (front base told) ≡ false → reach base told ≤ front base told
moved_order bytes base told old_front old_reach known fin moving short =
    let first = (run_end_first base told moving.behind).least in
    let low = run_end-le base told in
    by_fin fin short moving.front_is first (omega (arith, low, moving.end, moving.known_within, moving.order, moving.front_within, moving.reach_is))
  where
    by_fin : (o : Option ℕ) → is_reached o (front base told) ≡ false → front base told ≡ max old_front (up_to_fin (run_end base told) o)
        → reach base told ≤ run_end base told → run_end base told ≤ PLACES → reach base told ≤ front base told
    by_fin None still is first within = omega (arith, is, first)
    by_fin (Some at) still is first within =
        ⊎_elim
        (λ ahead. omega (arith, is, first, ahead))
        (λ behind. let far = fin_ahead at (front base told) still (omega (arith, behind)) in omega (arith, is, first, far, within))
        (cases_lt (front base told) at)

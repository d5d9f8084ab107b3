-- Instances and their numbers behind one more event.
use Rattle.std.proofs.Common.{◌≡◌, ℕ, ◌+◌, Bool, true, false, cond, not, ◌&&◌, ◌||◌, List, [], ◌∷◌, ◌++◌, length, fold, Some, refl, sym, ap, ◌∙◌, arith, append_assoc}
use Rattle.std.specs.List.{list_any}
use Rattle.std.proofs.lemmas.Bool.{and_parts}
use Rattle.std.proofs.lemmas.List.{append-nil}
use Rattle.std.proofs.lemmas.List.Elements.{filter-append}
use Rattle.std.proofs.lemmas.List.Folds.{list_any-append}
use Rattle.std.proofs.lemmas.List.Sums.{fold-append}
use Rattle.zk_conn.specs.declared.key.Key.{Key}
use Rattle.zk_conn.specs.Histories.{comes_late, joined_by, latest, is_removal, has_begun, is_live, begun_by, begun_from, begun, place_after, last_place, number_of}
use Rattle.zk_conn.specs.Instance.{opening, Opening}
use Rattle.zk_conn.specs.Segment.{key_of, same_key}
use Rattle.zk_conn.specs.Told.{Told, Packet, Front, Reached, Removal, Ending, key_told, told_of}
use Rattle.zk_conn.proofs.HoldsLemmas.{opening-append}

-- an event goes to the latest instance of its key, and to no other
pub latest-append : (key : Key) (told : List Told) (event : Told) (b : Bool) → same_key (key_told event) key ≡ b
    → latest key (told ++ event ∷ []) ≡ cond b (joined_by (latest key told) event) (latest key told)
latest-append key told event b is =
    ap (fold joined_by []) (filter-append (λ e. same_key (key_told e) key) told (event ∷ []))
    ∙ fold-append joined_by [] (told_of key told) (told_of key (event ∷ []))
    ∙ ap (λ c. fold joined_by (latest key told) (cond c (event ∷ []) [])) is
    ∙ of_last b
  where
    of_last : (c : Bool) → fold joined_by (latest key told) (cond c (event ∷ []) []) ≡ cond c (joined_by (latest key told) event) (latest key told)
    of_last true = refl
    of_last false = refl

begun_from-append : (before told : List Told) (event : Told) → begun_from before (told ++ event ∷ []) ≡ begun_from before told ++ begun_by (before ++ told) event
begun_from-append before [] event = append-nil (begun_by before event) ∙ ap (λ b. begun_by b event) (sym (append-nil before))
begun_from-append before (e ∷ told) event =
    ap (λ l. begun_by before e ++ l) (begun_from-append (before ++ e ∷ []) told event)
    ∙ sym (append_assoc (begun_by before e) (begun_from (before ++ e ∷ []) told) (begun_by ((before ++ e ∷ []) ++ told) event))
    ∙ ap (λ b. begun_from before (e ∷ told) ++ begun_by b event) (append_assoc before (e ∷ []) told)

-- the keys of the instances that have begun
pub begun-append : (told : List Told) (event : Told) → begun (told ++ event ∷ []) ≡ begun told ++ begun_by told event
begun-append told event = begun_from-append [] told event

places_counted : (key : Key) (seen : ℕ × ℕ) (keys : List Key) → (fold (place_after key) seen keys).0 ≡ seen.0 + length keys
places_counted key seen [] = omega arith
places_counted key seen (k ∷ keys) = places_counted key (place_after key seen k) keys ∙ (let same : seen.0 + 1 + length keys ≡ seen.0 + length (k ∷ keys) = omega arith in same)

-- the place of a key behind one more
last_place-push : (key : Key) (keys : List Key) (other : Key) (b : Bool) → same_key other key ≡ b
    → last_place key (keys ++ other ∷ []) ≡ cond b (length keys + 1) (last_place key keys)
last_place-push key keys other b is =
    ap (λ (p : ℕ × ℕ). p.1) (fold-append (place_after key) (0, 0) keys (other ∷ []))
    ∙ ap (λ c. cond c ((fold (place_after key) (0, 0) keys).0 + 1) (last_place key keys)) is
    ∙ ap (λ n. cond b n (last_place key keys)) (let same : (fold (place_after key) (0, 0) keys).0 + 1 ≡ length keys + 1 = omega (arith, places_counted key (0, 0) keys) in same)

-- an event that begins no instance leaves each number as it is
pub number_of-quiet : (key : Key) (told : List Told) (event : Told) → begun_by told event ≡ [] → number_of key (told ++ event ∷ []) ≡ number_of key told
number_of-quiet key told event quiet =
    ap (last_place key) (begun-append told event ∙ ap (λ l. begun told ++ l) quiet ∙ append-nil (begun told))

-- an event of another key leaves a key's number as it is
pub number_of-other : (key : Key) (told : List Told) (event : Told) → same_key (key_told event) key ≡ false → number_of key (told ++ event ∷ []) ≡ number_of key told
number_of-other key told (Packet moment p) other = by_cases (comes_late (latest (key_of p) told) moment) refl
  where
    by_cases : (b : Bool) → comes_late (latest (key_of p) told) moment ≡ b → number_of key (told ++ Packet moment p ∷ []) ≡ number_of key told
    by_cases true late = ap (last_place key) (begun-append told (Packet moment p) ∙ ap (λ b. begun told ++ cond b (key_of p ∷ []) []) late)
        ∙ last_place-push key (begun told) (key_of p) false other
    by_cases false early = number_of-quiet key told (Packet moment p) (ap (λ b. cond b (key_of p ∷ []) []) early)
number_of-other key told (Front k side front) other = number_of-quiet key told (Front k side front) refl
number_of-other key told (Reached k side) other = number_of-quiet key told (Reached k side) refl
number_of-other key told (Removal k at) other = number_of-quiet key told (Removal k at) refl
number_of-other key told (Ending k last) other = number_of-quiet key told (Ending k last) refl

-- the number of an instance that begins
pub number_of-begun : (key : Key) (told : List Told) (event : Told) → begun_by told event ≡ key ∷ [] → same_key key key ≡ true
    → number_of key (told ++ event ∷ []) ≡ length (begun told) + 1
number_of-begun key told event begins itself =
    ap (last_place key) (begun-append told event ∙ ap (λ l. begun told ++ l) begins) ∙ last_place-push key (begun told) key true itself

or_false : (b : Bool) → (b || false) ≡ b
or_false true = refl
or_false false = refl

-- a live instance goes on being live by an event that is no removal
pub is_live-append : (events : List Told) (event : Told) (first : Opening) → opening events ≡ Some first → is_live events ≡ true → is_removal event ≡ false
    → is_live (events ++ event ∷ []) ≡ true
is_live-append events event first begun live kept =
    let parts = and_parts (has_begun (opening events)) (not (list_any is_removal events)) live in
    ap (λ o. has_begun o && not (list_any is_removal (events ++ event ∷ []))) (opening-append events event first begun)
    ∙ ap not (list_any-append is_removal events (event ∷ []) ∙ ap (λ b. list_any is_removal events || (b || false)) kept ∙ or_false (list_any is_removal events))
    ∙ parts.1

-- a removed instance isn't live
pub is_live-removed : (events : List Told) (event : Told) → is_removal event ≡ true → is_live (events ++ event ∷ []) ≡ false
is_live-removed events event removed =
    ap (λ b. has_begun (opening (events ++ event ∷ [])) && not b)
    (list_any-append is_removal events (event ∷ []) ∙ ap (λ b. list_any is_removal events || (b || false)) removed ∙ or_true (list_any is_removal events))
    ∙ and_false (has_begun (opening (events ++ event ∷ [])))
  where
    or_true : (b : Bool) → (b || true) ≡ true
    or_true true = refl
    or_true false = refl

    and_false : (b : Bool) → (b && false) ≡ false
    and_false true = refl
    and_false false = refl

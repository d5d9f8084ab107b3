-- How bytes are cut into segments.
use Rattle.std.proofs.Common.{◌≡◌, ℕ, zero, suc, ◌+◌, ◌-◌, ◌%◌, ◌^◌, ◌<◌, ◌≤◌, max, min, Bool, true, false, cond, ◌&&◌, ◌||◌, ltb, leb, List, [], ◌∷◌, ◌++◌, length, map, Option, None, Some, IsSome, refl, sym, ap, ◌∙◌, ⊎_elim, arith, append_assoc, length-append}
use Rattle.std.specs.Prelude.{is_some, unwrap_or}
use Rattle.std.specs.List.{slice_get, filter_map, range_with_len, prefix_len, cons_option, list_any}
use borrow.Author.Tests.{ltb-true, leb-true}
use Rattle.std.specs.Option.{option_or}
use Rattle.std.proofs.lemmas.Bool.{cases_lt, cases_Bool, true≢false, false≢true, lt-ltb, le-ltb, lt-leb, le-leb}
use Rattle.std.proofs.lemmas.List.{map-append}
use Rattle.std.proofs.lemmas.List.Elements.{filter_map-append}
use Rattle.std.proofs.lemmas.List.Sums.{fold-append}
use Rattle.std.proofs.lemmas.Option.{slice_get_past, none-some}
use Rattle.zk_reasm.specs.declared.place.TheConstants.{PLACES}
use Rattle.zk_reasm.specs.Between.{places_between, held_between}
use Rattle.zk_reasm.specs.Direction.{moves, reach, steps, byte_put, byte_at, run_end, up_to_fin, front, above}
use Rattle.zk_reasm.specs.Histories.{is_stop, is_reached, is_over, counted, over_of}
use Rattle.zk_reasm.specs.Place.{ahead, distance, place, byte_of, places_of}
use Rattle.zk_reasm.specs.Told.{Told, Segment, Fin, Ack, Stop, greatest, fin_named, payload_end, fin_place, acked, top}
use Rattle.zk_reasm.specs.Views.{SameView, is_fin, ends_in_fin}
use Rattle.zk_reasm.proofs.AdvanceLemmas.{Passes, passes}
use Rattle.zk_reasm.proofs.ContentLemmas.{places_between-same}
use Rattle.zk_reasm.proofs.LawLemmas.{longer}
use Rattle.zk_reasm.proofs.HistoryLemmas.{counted_live, counted_more, counted_over}
use Rattle.zk_reasm.proofs.PieceLemmas.{option_or_none, option_or_assoc, option_or_held, slice_get-append-left, slice_get-append-right, slice_get-within, none_from}
use Rattle.zk_reasm.proofs.RangeLemmas.{range_with_len-add, held_between-same}
use Rattle.zk_reasm.proofs.ToldLemmas.{step_of, reach-append, front-append, byte_at-append, fin_place-append, acked-append, payload_end-append, fold_max, list_any-one}

-- the number behind some bytes
behind_is : (base seq n k : ℕ) → base < 2 ^ 32 → seq < 2 ^ 32 → n ≤ 65535 → distance base (seq + (n + k)) ≡ distance base ((seq + n) % 2 ^ 32 + k)
behind_is base seq n k low_base low_seq short = omega arith

-- the byte at a place, of bytes and those behind them
byte_of-append : (base seq : ℕ) (xs ys : List ℕ) (at : ℕ) → base < 2 ^ 32 → seq < 2 ^ 32 → length xs + length ys ≤ 65535
    → byte_of base seq (xs ++ ys) at ≡ option_or (byte_of base seq xs at) (byte_of base ((seq + length xs) % 2 ^ 32) ys at)
unfolding byte_of
byte_of-append base seq xs ys at low_base low_seq short =
    ⊎_elim
    (λ low. ap (λ b. cond b (slice_get (xs ++ ys) k) None) (lt-ltb at PLACES low)
    ∙ joined low
    ∙ sym (ap (λ b. option_or (cond b (slice_get xs k) None) (cond b (slice_get ys next) None)) (lt-ltb at PLACES low)))
    (λ past. ap (λ b. cond b (slice_get (xs ++ ys) k) None) (le-ltb at PLACES past)
    ∙ sym (ap (λ b. option_or (cond b (slice_get xs k) None) (cond b (slice_get ys next) None)) (le-ltb at PLACES past)))
    (cases_lt at PLACES)
  where
    k : ℕ
    k = ahead seq (base + 1 + at)

    next : ℕ
    next = ahead ((seq + length xs) % 2 ^ 32) (base + 1 + at)

    joined : at < PLACES → slice_get (xs ++ ys) k ≡ option_or (slice_get xs k) (slice_get ys next)
    joined low = ⊎_elim
        (λ inside. slice_get-append-left xs ys k inside ∙ sym (option_or_held (slice_get xs k) (slice_get ys next) (slice_get-within xs k inside)))
        (λ behind. slice_get-append-right xs ys k behind
        ∙ ap (slice_get ys) (let e : k - length xs ≡ next = omega (arith, behind, low, low_base, low_seq, short) in e)
        ∙ sym (ap (λ o. option_or o (slice_get ys next)) (slice_get_past xs k behind)))
        (cases_lt k (length xs))

filter_map-shift : (h g : ℕ → Option ℕ) (a b n : ℕ) → ((k : ℕ) → h (a + k) ≡ g (b + k)) → filter_map h (range_with_len a n) ≡ filter_map g (range_with_len b n)
filter_map-shift h g a b zero same = refl
filter_map-shift h g a b (suc n) same =
    ap (λ o. cons_option o (filter_map h (range_with_len (a + 1) n))) (ap h (let e : a ≡ a + 0 = omega arith in e) ∙ same 0 ∙ ap g (let e : b + 0 ≡ b = omega arith in e))
    ∙ ap (cons_option (g b)) (filter_map-shift h g (a + 1) (b + 1) n
    (λ k. ap h (let e : a + 1 + k ≡ a + suc k = omega arith in e) ∙ same (suc k) ∙ ap g (let e : b + suc k ≡ b + 1 + k = omega arith in e)))

places_of-append : (base seq : ℕ) (xs ys : List ℕ) → base < 2 ^ 32 → seq < 2 ^ 32 → length xs + length ys ≤ 65535
    → places_of base seq (xs ++ ys) ≡ places_of base seq xs ++ places_of base ((seq + length xs) % 2 ^ 32) ys
unfolding places_of
places_of-append base seq xs ys low_base low_seq short =
    ap (λ n. filter_map (λ k. place base (seq + k)) (range_with_len 0 n)) (length-append xs ys)
    ∙ ap (filter_map (λ k. place base (seq + k))) (range_with_len-add 0 (length xs) (length ys))
    ∙ filter_map-append (λ k. place base (seq + k)) (range_with_len 0 (length xs)) (range_with_len (0 + length xs) (length ys))
    ∙ ap (λ ps. filter_map (λ k. place base (seq + k)) (range_with_len 0 (length xs)) ++ ps)
    (filter_map-shift (λ k. place base (seq + k)) (λ k. place base ((seq + length xs) % 2 ^ 32 + k)) (0 + length xs) 0 (length ys)
    (λ k. ap (λ d. cond (ltb d PLACES) (Some d) None)
    (ap (λ m. distance base (seq + m)) (let e : 0 + length xs + k ≡ length xs + k = omega arith in e)
    ∙ behind_is base seq (length xs) k low_base low_seq (omega (arith, short))
    ∙ ap (λ m. distance base ((seq + length xs) % 2 ^ 32 + m)) (let e : k ≡ 0 + k = omega arith in e))))

greatest-append-all : (xs ys : List ℕ) → greatest (map (λ at. at + 1) (xs ++ ys)) ≡ max (greatest (map (λ at. at + 1) xs)) (greatest (map (λ at. at + 1) ys))
greatest-append-all xs ys =
    ap greatest (map-append (λ at. at + 1) xs ys) ∙ fold-append max 0 (map (λ at. at + 1) xs) (map (λ at. at + 1) ys)
    ∙ fold_max (greatest (map (λ at. at + 1) xs)) (map (λ at. at + 1) ys)

-- the end of some numbers' places, of which none is past a place
end-le : (h : ℕ → Option ℕ) (a n at : ℕ) → ((k i : ℕ) → k < n → h (a + k) ≡ Some i → i < at) → greatest (map (λ p. p + 1) (filter_map h (range_with_len a n))) ≤ at
end-le h a zero at low = omega arith
end-le h a (suc n) at low =
    first (h a) refl (end-le h (a + 1) n at (λ k i within is. low (suc k) i (omega (arith, within)) (ap h (let e : a + suc k ≡ a + 1 + k = omega arith in e) ∙ is)))
  where
    first : (o : Option ℕ) → h a ≡ o → greatest (map (λ p. p + 1) (filter_map h (range_with_len (a + 1) n))) ≤ at
        → greatest (map (λ p. p + 1) (cons_option o (filter_map h (range_with_len (a + 1) n)))) ≤ at
    first None is rest = rest
    first (Some i) is rest =
        let here = low 0 i (omega arith) (ap h (let e : a + 0 ≡ a = omega arith in e) ∙ is) in
        let all = fold_max (max 0 (i + 1)) (map (λ p. p + 1) (filter_map h (range_with_len (a + 1) n))) in
        omega (arith, here, all, rest)

-- bytes behind others have later places
later : (base seq : ℕ) (xs ys : List ℕ) (at : ℕ) → base < 2 ^ 32 → seq < 2 ^ 32 → length xs + length ys ≤ 65535
    → IsSome (byte_of base ((seq + length xs) % 2 ^ 32) ys at) → greatest (map (λ p. p + 1) (places_of base seq xs)) ≤ at
unfolding byte_of places_of
later base seq xs ys at low_base low_seq short there =
    ⊎_elim
    (λ low. end-le (λ k. place base (seq + k)) 0 (length xs) at
    (λ k i within is. earlier k i low within is))
    (λ past. absurd (false≢true (sym (ap (λ b. is_some (cond b (slice_get ys next) None)) (le-ltb at PLACES past)) ∙ there)))
    (cases_lt at PLACES)
  where
    next : ℕ
    next = ahead ((seq + length xs) % 2 ^ 32) (base + 1 + at)

    inside : at < PLACES → next < length ys
    inside low = ⊎_elim
        (λ within. within)
        (λ behind. absurd (false≢true (sym (ap is_some (slice_get_past ys next behind)) ∙ sym (ap (λ b. is_some (cond b (slice_get ys next) None)) (lt-ltb at PLACES low)) ∙ there)))
        (cases_lt next (length ys))

    is_place : (d i : ℕ) → cond (ltb d PLACES) (Some d) None ≡ Some i → (d ≡ i) × (d < PLACES)
    is_place d i is = ⊎_elim
        (λ low. (same d i (sym (ap (λ b. cond b (Some d) None) (lt-ltb d PLACES low)) ∙ is), low))
        (λ past. absurd (none-some i (sym (ap (λ b. cond b (Some d) None) (le-ltb d PLACES past)) ∙ is)))
        (cases_lt d PLACES)
      where
        same : (a b : ℕ) → Some a ≡ Some b → a ≡ b
        same a b e = cc

    earlier : (k i : ℕ) → at < PLACES → k < length xs → place base (seq + (0 + k)) ≡ Some i → i < at
    earlier k i low within is =
        let found = is_place (distance base (seq + (0 + k))) i is in
        omega (arith, found.0, found.1, inside low, within, low, low_base, low_seq, short)

-- the run's end depends on the reach, the payload's end and the bytes
run_end_same : (base : ℕ) (told others : List Told) → reach base told ≡ reach base others → payload_end base told ≡ payload_end base others
    → ((at : ℕ) → byte_at base told at ≡ byte_at base others at) → run_end base told ≡ run_end base others
unfolding run_end
run_end_same base told others reaches ends bytes =
    ap (λ r. r + prefix_len is_some (places_between (byte_at base told) r (payload_end base told))) reaches
    ∙ ap (λ e. reach base others + prefix_len is_some (places_between (byte_at base told) (reach base others) e)) ends
    ∙ ap (λ ps. reach base others + prefix_len is_some ps) (places_between-same (byte_at base told) (byte_at base others) (reach base others) (payload_end base others) (λ at low high. bytes at))

-- the run's end is no less with more bytes
run_end_grows : (base : ℕ) (told more : List Told) → reach base told ≤ reach base more → payload_end base told ≤ payload_end base more
    → ((at : ℕ) → IsSome (byte_at base told at) → IsSome (byte_at base more at)) → run_end base told ≤ run_end base more
unfolding run_end
run_end_grows base told more reaches ends held =
    ⊎_elim
    (λ past. omega (arith, past))
    (λ behind. ⊎_elim
    (λ short. ⊎_elim
    (λ stops. absurd (true≢false (sym (there stops) ∙ longer_run.stops short)))
    (λ done. omega (arith, done))
    (cases_lt q (reach base told + m)))
    (λ full. omega (arith, full, run.most, longer_run.most, ends, reaches))
    (cases_lt n (payload_end base more - reach base more)))
    (cases_lt (reach base told + m) (reach base more))
  where
    m : ℕ
    m = prefix_len is_some (places_between (byte_at base told) (reach base told) (payload_end base told))

    n : ℕ
    n = prefix_len is_some (places_between (byte_at base more) (reach base more) (payload_end base more))

    q : ℕ
    q = reach base more + n

    run : Passes is_some (byte_at base told) (reach base told) (payload_end base told - reach base told) m
    run = passes is_some (byte_at base told) (reach base told) (payload_end base told - reach base told)

    longer_run : Passes is_some (byte_at base more) (reach base more) (payload_end base more - reach base more) n
    longer_run = passes is_some (byte_at base more) (reach base more) (payload_end base more - reach base more)

    there : q < reach base told + m → is_some (byte_at base more q) ≡ true
    there stops =
        held q (ap (λ i. is_some (byte_at base told i)) (let e : q ≡ reach base told + (q - reach base told) = omega (arith, reaches) in e)
        ∙ run.each (q - reach base told) (omega (arith, stops, reaches)))

-- what a segment's two parts put is what the segment puts
cut_byte : (r0 r1 at : ℕ) (x a b : Option ℕ) → r0 ≤ r1 → (at < r1 → r0 ≤ at → b ≡ None)
    → option_or x (cond (leb r0 at) (option_or a b) None) ≡ option_or (option_or x (cond (leb r0 at) a None)) (cond (leb r1 at) b None)
cut_byte r0 r1 at x a b order late =
    ⊎_elim
    (λ below. ap (λ c. option_or x (cond c (option_or a b) None)) (lt-leb r0 at below)
    ∙ sym (ap (λ c. option_or (option_or x (cond c a None)) (cond (leb r1 at) b None)) (lt-leb r0 at below)
    ∙ ap (λ c. option_or (option_or x None) (cond c b None)) (lt-leb r1 at (omega (arith, below, order))) ∙ option_or_none (option_or x None)))
    (λ past. ap (λ c. option_or x (cond c (option_or a b) None)) (le-leb r0 at past)
    ∙ sym (option_or_assoc x a b)
    ∙ ap (option_or (option_or x a)) (second past)
    ∙ ap (λ c. option_or (option_or x (cond c a None)) (cond (leb r1 at) b None)) (sym (le-leb r0 at past)))
    (cases_lt at r0)
  where
    second : r0 ≤ at → b ≡ cond (leb r1 at) b None
    second past = ⊎_elim
        (λ early. late early past ∙ sym (ap (λ c. cond c b None) (lt-leb r1 at early)))
        (λ enough. sym (ap (λ c. cond c b None) (le-leb r1 at enough)))
        (cases_lt at r1)

min_grows : (a x y : ℕ) → x ≤ y → min a x ≤ min a y
min_grows a x y low = omega (arith, low)

max_later : (r m n : ℕ) → m ≤ n → max r n ≡ max (max r m) n
max_later r m n low = omega (arith, low)

up_to_fin-grows : (a b : ℕ) (fin : Option ℕ) → a ≤ b → up_to_fin a fin ≤ up_to_fin b fin
up_to_fin-grows a b None low = low
up_to_fin-grows a b (Some at) low = omega (arith, low)

-- or, of three
first_of_three : (a b c : Bool) → (a || (b || c)) ≡ false → a ≡ false
first_of_three false b c is = refl
first_of_three true b c is = is

second_of_three : (a b c : Bool) → (a || (b || c)) ≡ false → b ≡ false
second_of_three a false c is = refl
second_of_three false true c is = is
second_of_three true true c is = is

only_second : (a b c : Bool) → (a || (b || c)) ≡ true → a ≡ false → c ≡ false → b ≡ true
only_second true b c is first third = absurd (true≢false first)
only_second false true c is first third = refl
only_second false false c is first third = absurd (false≢true (sym third ∙ is))

-- What was told and doesn't end in a FIN -------------------------------------------------------------------------------

top_grows : (base : ℕ) (told : List Told) (entry : Told) → top base told ≤ top base (told ++ entry ∷ [])
top_grows base told entry =
    let ends = payload_end-append base told entry in
    let fins = fin_grows (fin_place base told) (fin_named base entry) in
    let fin = ap (λ o. unwrap_or o 0) (fin_place-append base told entry) in
    omega (arith, ends, fins, fin)
  where
    fin_grows : (o p : Option ℕ) → unwrap_or o 0 ≤ unwrap_or (option_or o p) 0
    fin_grows None p = omega arith
    fin_grows (Some at) p = omega arith

-- the reach with one more entry
reach_one : (base : ℕ) (told : List Told) (entry : Told) → reach base told ≤ min (acked base told) (top base told)
    → (reach base (told ++ entry ∷ []) ≤ min (acked base (told ++ entry ∷ [])) (top base (told ++ entry ∷ [])))
    × (moves entry ≡ true → reach base (told ++ entry ∷ []) ≡ min (acked base (told ++ entry ∷ [])) (top base (told ++ entry ∷ [])))
reach_one base told entry low =
    by_move (moves entry) (reach-append base told entry) (let more = acked-append base told entry in omega (arith, more)) (top_grows base told entry)
  where
    known : ℕ
    known = min (acked base (told ++ entry ∷ [])) (top base (told ++ entry ∷ []))

    by_move : (b : Bool) → reach base (told ++ entry ∷ []) ≡ max (reach base told) (cond b known 0) → acked base told ≤ acked base (told ++ entry ∷ [])
        → top base told ≤ top base (told ++ entry ∷ [])
        → (reach base (told ++ entry ∷ []) ≤ known) × (b ≡ true → reach base (told ++ entry ∷ []) ≡ known)
    by_move true is acks tops = (omega (arith, is, acks, tops, low), λ _. omega (arith, is, acks, tops, low))
    by_move false is acks tops = (omega (arith, is, acks, tops, low), λ no. absurd (false≢true no))

reach-le : (base : ℕ) (told : List Told) → reach base told ≤ min (acked base told) (top base told)
unfolding reach steps
reach-le base told = longer (λ xs. reach base xs ≤ min (acked base xs) (top base xs)) (λ xs entry low. (reach_one base xs entry low).0) [] told (omega arith)

settled_none : (base : ℕ) → reach base [] ≡ min (acked base []) (top base [])
unfolding acked reach steps
settled_none base = omega arith

-- the reach is what the peer acknowledged of that which is known to have been sent
settled : (base limit : ℕ) (told : List Told) → ends_in_fin told ≡ false → list_any is_stop told ≡ false → reach base told ≡ min (acked base told) (top base told)
settled base limit told = longer P next [] told (λ _ _. settled_none base)
  where
    P : List Told → Type 0
    P xs = ends_in_fin xs ≡ false → list_any is_stop xs ≡ false → reach base xs ≡ min (acked base xs) (top base xs)

    next : (xs : List Told) (entry : Told) → P xs → P (xs ++ entry ∷ [])
    next xs entry before last stops =
        (reach_one base xs entry (reach-le base xs)).1
        (it_moves entry (sym (fold-append (λ _ e. is_fin e) false xs (entry ∷ [])) ∙ last) (or_last (list_any is_stop xs) (is_stop entry) (sym (list_any-one is_stop xs entry) ∙ stops)))
      where
        or_last : (a b : Bool) → (a || b) ≡ false → b ≡ false
        or_last false b is = is
        or_last true b is = absurd (true≢false is)

        it_moves : (e : Told) → is_fin e ≡ false → is_stop e ≡ false → moves e ≡ true
        it_moves (Segment seq bytes) fin stop = refl
        it_moves (Fin seq) fin stop = absurd (true≢false fin)
        it_moves (Ack number) fin stop = refl
        it_moves Stop fin stop = absurd (true≢false stop)

-- A segment and its two parts ------------------------------------------------------------------------------------------

-- what a history with a segment and one with its two parts have in common, and what the first part alone does
record AreAlike (base : ℕ) (told half whole parts : List Told) : Type 0 where
  bytes : (at : ℕ) → byte_at base whole at ≡ byte_at base parts at
  ends : payload_end base whole ≡ payload_end base parts
  fronts : front base whole ≡ front base parts
  whole_fin : fin_place base whole ≡ fin_place base told
  half_fin : fin_place base half ≡ fin_place base told
  parts_fin : fin_place base parts ≡ fin_place base told
  half_front : front base half ≡ max (front base told) (up_to_fin (run_end base half) (fin_place base told))
  parts_front : front base parts ≡ max (front base half) (up_to_fin (run_end base parts) (fin_place base told))

alike : (base seq : ℕ) (first rest : List ℕ) (told : List Told) → base < 2 ^ 32 → seq < 2 ^ 32 → length first + length rest ≤ 65535
    → reach base told ≡ min (acked base told) (top base told)
    → AreAlike base told (told ++ Segment seq first ∷ []) (told ++ Segment seq (first ++ rest) ∷ [])
    (told ++ Segment seq first ∷ [] ++ Segment ((seq + length first) % 2 ^ 32) rest ∷ [])
alike base seq first rest told low_base low_seq short settled = record {
  bytes = bytes;
  ends = same_end;
  fronts = fronts;
  whole_fin = whole_fin;
  half_fin = half_fin;
  parts_fin = parts_fin;
  half_front = half_front;
  parts_front = parts_front;
}
  where
    next : ℕ
    next = (seq + length first) % 2 ^ 32

    whole : List Told
    whole = told ++ Segment seq (first ++ rest) ∷ []

    half : List Told
    half = told ++ Segment seq first ∷ []

    parts : List Told
    parts = half ++ Segment next rest ∷ []

    end_a : ℕ
    end_a = greatest (map (λ at. at + 1) (places_of base seq first))

    end_b : ℕ
    end_b = greatest (map (λ at. at + 1) (places_of base next rest))

    whole_end : payload_end base whole ≡ max (payload_end base told) (max end_a end_b)
    whole_end = payload_end-append base told (Segment seq (first ++ rest))
        ∙ ap (λ ps. max (payload_end base told) (greatest (map (λ at. at + 1) ps))) (places_of-append base seq first rest low_base low_seq short)
        ∙ ap (max (payload_end base told)) (greatest-append-all (places_of base seq first) (places_of base next rest))

    half_end : payload_end base half ≡ max (payload_end base told) end_a
    half_end = payload_end-append base told (Segment seq first)

    parts_end : payload_end base parts ≡ max (payload_end base half) end_b
    parts_end = payload_end-append base half (Segment next rest)

    whole_fin : fin_place base whole ≡ fin_place base told
    whole_fin = fin_place-append base told (Segment seq (first ++ rest)) ∙ option_or_none (fin_place base told)

    half_fin : fin_place base half ≡ fin_place base told
    half_fin = fin_place-append base told (Segment seq first) ∙ option_or_none (fin_place base told)

    parts_fin : fin_place base parts ≡ fin_place base told
    parts_fin = fin_place-append base half (Segment next rest) ∙ option_or_none (fin_place base half) ∙ half_fin

    fin : ℕ
    fin = unwrap_or (fin_place base told) 0

    half_reach : reach base half ≡ max (reach base told) (min (acked base told) (max (max (payload_end base told) end_a) fin))
    half_reach = reach-append base told (Segment seq first)
        ∙ ap (λ n. max (reach base told) (min n (top base half))) (acked-append base told (Segment seq first) ∙ (let e : max (acked base told) 0 ≡ acked base told = omega arith in e))
        ∙ ap (λ n. max (reach base told) (min (acked base told) (max n (unwrap_or (fin_place base half) 0)))) half_end
        ∙ ap (λ o. max (reach base told) (min (acked base told) (max (max (payload_end base told) end_a) (unwrap_or o 0)))) half_fin

    half_acked : acked base half ≡ acked base told
    half_acked = acked-append base told (Segment seq first) ∙ (let e : max (acked base told) 0 ≡ acked base told = omega arith in e)

    whole_reach : reach base whole ≡ max (reach base told) (min (acked base told) (max (max (payload_end base told) (max end_a end_b)) fin))
    whole_reach = reach-append base told (Segment seq (first ++ rest))
        ∙ ap (λ n. max (reach base told) (min n (top base whole))) (acked-append base told (Segment seq (first ++ rest)) ∙ (let e : max (acked base told) 0 ≡ acked base told = omega arith in e))
        ∙ ap (λ n. max (reach base told) (min (acked base told) (max n (unwrap_or (fin_place base whole) 0)))) whole_end
        ∙ ap (λ o. max (reach base told) (min (acked base told) (max (max (payload_end base told) (max end_a end_b)) (unwrap_or o 0)))) whole_fin

    parts_reach : reach base parts ≡ max (reach base half) (min (acked base told) (max (max (max (payload_end base told) end_a) end_b) fin))
    parts_reach = reach-append base half (Segment next rest)
        ∙ ap (λ n. max (reach base half) (min n (top base parts))) (acked-append base half (Segment next rest) ∙ (let e : max (acked base half) 0 ≡ acked base half = omega arith in e) ∙ half_acked)
        ∙ ap (λ n. max (reach base half) (min (acked base told) (max n (unwrap_or (fin_place base parts) 0)))) (parts_end ∙ ap (λ n. max n end_b) half_end)
        ∙ ap (λ o. max (reach base half) (min (acked base told) (max (max (max (payload_end base told) end_a) end_b) (unwrap_or o 0)))) parts_fin

    same_reach : reach base whole ≡ reach base parts
    same_reach = whole_reach
        ∙ ap (λ n. max (reach base told) (min (acked base told) (max n fin))) (let e : max (payload_end base told) (max end_a end_b) ≡ max (max (payload_end base told) end_a) end_b = omega arith in e)
        ∙ max_later (reach base told) (min (acked base told) (max (max (payload_end base told) end_a) fin)) (min (acked base told) (max (max (max (payload_end base told) end_a) end_b) fin))
        (min_grows (acked base told) (max (max (payload_end base told) end_a) fin) (max (max (max (payload_end base told) end_a) end_b) fin) (omega arith))
        ∙ ap (λ n. max n (min (acked base told) (max (max (max (payload_end base told) end_a) end_b) fin))) (sym half_reach)
        ∙ sym parts_reach

    same_end : payload_end base whole ≡ payload_end base parts
    same_end = omega (arith, whole_end, half_end, parts_end)

    late : (at : ℕ) → at < reach base half → reach base told ≤ at → byte_of base next rest at ≡ None
    late at early past = by_byte (is_some (byte_of base next rest at)) refl
      where
        by_byte : (b : Bool) → is_some (byte_of base next rest at) ≡ b → byte_of base next rest at ≡ None
        by_byte false is = none_from (byte_of base next rest at) is
        by_byte true is = absurd (let ended = later base seq first rest at low_base low_seq short is in omega (arith, ended, early, past, half_reach, settled))

    bytes : (at : ℕ) → byte_at base whole at ≡ byte_at base parts at
    bytes at =
        byte_at-append base told (Segment seq (first ++ rest)) at
        ∙ ap (λ o. option_or (byte_at base told at) (cond (leb (reach base told) at) o None)) (byte_of-append base seq first rest at low_base low_seq short)
        ∙ cut_byte (reach base told) (reach base half) at (byte_at base told at) (byte_of base seq first at) (byte_of base next rest at) (omega (arith, half_reach)) (late at)
        ∙ sym (byte_at-append base half (Segment next rest) at
        ∙ ap (λ o. option_or o (byte_put base (step_of half (Segment next rest)) at)) (byte_at-append base told (Segment seq first) at))

    same_run : run_end base whole ≡ run_end base parts
    same_run = run_end_same base whole parts same_reach same_end bytes

    grows : run_end base half ≤ run_end base parts
    grows = run_end_grows base half parts (omega (arith, parts_reach)) (omega (arith, parts_end))
        (λ at there. ap is_some (byte_at-append base half (Segment next rest) at ∙ option_or_held (byte_at base half at) (byte_put base (step_of half (Segment next rest)) at) there) ∙ there)

    half_front : front base half ≡ max (front base told) (up_to_fin (run_end base half) (fin_place base told))
    half_front = front-append base told (Segment seq first) ∙ ap (λ o. max (front base told) (up_to_fin (run_end base half) o)) half_fin

    parts_front : front base parts ≡ max (front base half) (up_to_fin (run_end base parts) (fin_place base told))
    parts_front = front-append base half (Segment next rest) ∙ ap (λ o. max (front base half) (up_to_fin (run_end base parts) o)) parts_fin

    fronts : front base whole ≡ front base parts
    fronts =
        let one = front-append base told (Segment seq (first ++ rest)) ∙ ap (λ o. max (front base told) (up_to_fin (run_end base whole) o)) whole_fin
        ∙ ap (λ n. max (front base told) (up_to_fin n (fin_place base told))) same_run in
        let more = up_to_fin-grows (run_end base half) (run_end base parts) (fin_place base told) grows in
        omega (arith, one, half_front, parts_front, more)

-- histories that are over alike
is_over-same : (base limit : ℕ) (told others : List Told) → list_any is_stop told ≡ list_any is_stop others → fin_place base told ≡ fin_place base others
    → front base told ≡ front base others → payload_end base told ≡ payload_end base others → ((at : ℕ) → byte_at base told at ≡ byte_at base others at)
    → is_over base limit told ≡ is_over base limit others
unfolding is_over above
is_over-same base limit told others stops fins fronts ends bytes =
    ap (λ b. b || (is_reached (fin_place base told) (front base told) || ltb limit (held_between (byte_at base told) (front base told) (payload_end base told)))) stops
    ∙ ap (λ o. list_any is_stop others || (is_reached o (front base told) || ltb limit (held_between (byte_at base told) (front base told) (payload_end base told)))) fins
    ∙ ap (λ n. list_any is_stop others || (is_reached (fin_place base others) n || ltb limit (held_between (byte_at base told) n (payload_end base told)))) fronts
    ∙ ap (λ n. list_any is_stop others || (is_reached (fin_place base others) (front base others) || ltb limit (held_between (byte_at base told) (front base others) n))) ends
    ∙ ap (λ n. list_any is_stop others || (is_reached (fin_place base others) (front base others) || ltb limit n))
    (held_between-same (byte_at base told) (byte_at base others) (front base others) (payload_end base others) (λ at low high. ap is_some (bytes at)))

-- a segment stops nothing
stops_segment : (told : List Told) (seq : ℕ) (bytes : List ℕ) → list_any is_stop (told ++ Segment seq bytes ∷ []) ≡ list_any is_stop told
stops_segment told seq bytes = list_any-one is_stop told (Segment seq bytes) ∙ or_none (list_any is_stop told)
  where
    or_none : (b : Bool) → (b || false) ≡ b
    or_none true = refl
    or_none false = refl

-- a FIN that wasn't reached and now is: the front stands there whatever follows, and the run goes at least so far
reached_now : (fin : Option ℕ) (old now run : ℕ) → is_reached fin old ≡ false → is_reached fin now ≡ true → now ≡ max old (up_to_fin run fin)
    → ((more : ℕ) → max now (up_to_fin more fin) ≡ now) × (now ≤ run)
reached_now None old now run short there is = absurd (false≢true there)
reached_now (Some at) old now run short there is =
    let place : at < PLACES = ltb-true at PLACES (first_of_both (ltb at PLACES) (leb at now) there) in
    let far : at ≤ now = leb-true at now (second_of_both (ltb at PLACES) (leb at now) there) in
    let before : old < at = ⊎_elim (λ low. low)
    (λ past. absurd (true≢false (sym (ap (λ b. b && leb at old) (lt-ltb at PLACES place) ∙ le-leb at old past) ∙ short)))
    (cases_lt old at) in
    (λ more. omega (arith, is, far, before), omega (arith, is, far, before))
  where
    first_of_both : (a b : Bool) → (a && b) ≡ true → a ≡ true
    first_of_both true b is = refl
    first_of_both false b is = is

    second_of_both : (a b : Bool) → (a && b) ≡ true → b ≡ true
    second_of_both true b is = is
    second_of_both false b is = absurd (false≢true is)

-- once it is over, all that is told later changes nothing
counted_past : (base limit : ℕ) (told more : List Told) → over_of base limit told ≡ true → counted base limit (told ++ more) ≡ counted base limit told
counted_past base limit told more over =
    longer (λ xs. counted base limit xs ≡ counted base limit told) (λ xs entry same. counted_over base limit xs entry (ap (is_over base limit) same ∙ over) ∙ same) told more refl

-- histories of which the same counts
same_counted : (base limit : ℕ) (told others : List Told) → counted base limit told ≡ counted base limit others → SameView base limit told others
same_counted base limit told others same = record {
  front = ap (front base) same;
  below = λ at low. ap (λ xs. byte_at base xs at) same;
  over = ap (is_over base limit) same;
  above = λ live at. ap (λ xs. byte_at base xs at) same;
}

-- a history that isn't over wasn't stopped, and its FIN isn't reached
live_parts : (base limit : ℕ) (told : List Told) → is_over base limit told ≡ false
    → (list_any is_stop told ≡ false) × (is_reached (fin_place base told) (front base told) ≡ false)
unfolding is_over
live_parts base limit told live =
    let stopped = list_any is_stop told in
    let reached = is_reached (fin_place base told) (front base told) in
    let gave_up = ltb limit (above base told) in
    (first_of_three stopped reached gave_up live, second_of_three stopped reached gave_up live)

-- one that is over, wasn't stopped and didn't give up has reached its FIN
over_by_fin : (base limit : ℕ) (told : List Told) → is_over base limit told ≡ true → list_any is_stop told ≡ false → above base told ≤ limit
    → is_reached (fin_place base told) (front base told) ≡ true
unfolding is_over
over_by_fin base limit told over stops room =
    only_second (list_any is_stop told) (is_reached (fin_place base told) (front base told)) (ltb limit (above base told)) over stops (le-ltb limit (above base told) room)

over_where_reached : (base limit : ℕ) (told : List Told) → is_reached (fin_place base told) (front base told) ≡ true → is_over base limit told ≡ true
unfolding is_over
over_where_reached base limit told there =
    ap (λ b. list_any is_stop told || (b || ltb limit (above base told))) there ∙ or_true (list_any is_stop told)
  where
    or_true : (b : Bool) → (b || true) ≡ true
    or_true true = refl
    or_true false = refl

-- what comes behind a segment puts no byte below the front, where that is no further than the run's end
stands_below : (base : ℕ) (told : List Told) (seq : ℕ) (bytes : List ℕ) (at : ℕ) → at < run_end base told
    → option_or (byte_at base told at) (byte_put base (step_of told (Segment seq bytes)) at) ≡ byte_at base told at
unfolding run_end
stands_below base told seq bytes at low =
    ⊎_elim
    (λ early. ap (λ b. option_or (byte_at base told at) (cond b (byte_of base seq bytes at) None)) (lt-leb (reach base told) at early) ∙ option_or_none (byte_at base told at))
    (λ past. option_or_held (byte_at base told at) (byte_put base (step_of told (Segment seq bytes)) at)
    (ap (λ i. is_some (byte_at base told i)) (let e : at ≡ reach base told + (at - reach base told) = omega (arith, past) in e)
    ∙ run.each (at - reach base told) (omega (arith, low, past))))
    (cases_lt at (reach base told))
  where
    run : Passes is_some (byte_at base told) (reach base told) (payload_end base told - reach base told)
        (prefix_len is_some (places_between (byte_at base told) (reach base told) (payload_end base told)))
    run = passes is_some (byte_at base told) (reach base told) (payload_end base told - reach base told)

pub cut_freely : (base limit seq : ℕ) (first rest : List ℕ) (told : List Told) → base < 2 ^ 32 → seq < 2 ^ 32 → length first + length rest ≤ 65535
    → ends_in_fin told ≡ false → above base (told ++ Segment seq first ∷ []) ≤ limit
    → SameView base limit (told ++ Segment seq (first ++ rest) ∷ []) (told ++ Segment seq first ∷ [] ++ Segment ((seq + length first) % 2 ^ 32) rest ∷ [])
cut_freely base limit seq first rest told low_base low_seq short last room =
    ⊎_elim
    (λ over. same_counted base limit whole parts
    (counted_past base limit told (Segment seq (first ++ rest) ∷ []) over
    ∙ sym (ap (counted base limit) (append_assoc told (Segment seq first ∷ []) (Segment next rest ∷ [])) ∙ counted_past base limit told (Segment seq first ∷ Segment next rest ∷ []) over)))
    (λ live. ⊎_elim (ends live) (goes_on live) (cases_Bool (over_of base limit half)))
    (cases_Bool (over_of base limit told))
  where
    next : ℕ
    next = (seq + length first) % 2 ^ 32

    whole : List Told
    whole = told ++ Segment seq (first ++ rest) ∷ []

    half : List Told
    half = told ++ Segment seq first ∷ []

    parts : List Told
    parts = half ++ Segment next rest ∷ []

    parts_live : over_of base limit told ≡ false → (list_any is_stop told ≡ false) × (is_reached (fin_place base told) (front base told) ≡ false)
    parts_live live = live_parts base limit told (ap (is_over base limit) (sym (counted_live base limit told live)) ∙ live)

    both : over_of base limit told ≡ false → AreAlike base told half whole parts
    both live = alike base seq first rest told low_base low_seq short (settled base limit told last (parts_live live).0)

    whole_counts : over_of base limit told ≡ false → counted base limit whole ≡ whole
    whole_counts live = counted_more base limit told (Segment seq (first ++ rest)) live

    half_counts : over_of base limit told ≡ false → counted base limit half ≡ half
    half_counts live = counted_more base limit told (Segment seq first) live

    goes_on : over_of base limit told ≡ false → over_of base limit half ≡ false → SameView base limit whole parts
    goes_on live still =
        let same = both live in
        let wholes = whole_counts live in
        let counts = counted_more base limit half (Segment next rest) still in
        record {
          front = ap (front base) wholes ∙ same.fronts ∙ sym (ap (front base) counts);
          below = λ at low. ap (λ xs. byte_at base xs at) wholes ∙ same.bytes at ∙ sym (ap (λ xs. byte_at base xs at) counts);
          over = ap (is_over base limit) wholes
              ∙ is_over-same base limit whole parts (stops_segment told seq (first ++ rest) ∙ sym (stops_segment half next rest ∙ stops_segment told seq first))
              (same.whole_fin ∙ sym same.parts_fin) same.fronts same.ends same.bytes
              ∙ sym (ap (is_over base limit) counts);
          above = λ on at. ap (λ xs. byte_at base xs at) wholes ∙ same.bytes at ∙ sym (ap (λ xs. byte_at base xs at) counts);
        }

    ends : over_of base limit told ≡ false → over_of base limit half ≡ true → SameView base limit whole parts
    ends live ended =
        let same = both live in
        let wholes = whole_counts live in
        let halves = half_counts live in
        let counts : counted base limit parts ≡ half = counted_over base limit half (Segment next rest) ended ∙ halves in
        let there : is_reached (fin_place base told) (front base half) ≡ true =
        ap (λ o. is_reached o (front base half)) (sym same.half_fin)
        ∙ over_by_fin base limit half (ap (is_over base limit) (sym halves) ∙ ended) (stops_segment told seq first ∙ (parts_live live).0) room in
        let reached = reached_now (fin_place base told) (front base told) (front base half) (run_end base half) (parts_live live).1 there same.half_front in
        let fronts : front base whole ≡ front base half = same.fronts ∙ same.parts_front ∙ reached.0 (run_end base parts) in
        let over : over_of base limit whole ≡ true =
        ap (is_over base limit) wholes
        ∙ over_where_reached base limit whole (ap (λ o. is_reached o (front base whole)) same.whole_fin ∙ ap (is_reached (fin_place base told)) fronts ∙ there) in
        record {
          front = ap (front base) wholes ∙ fronts ∙ sym (ap (front base) counts);
          below = λ at low. ap (λ xs. byte_at base xs at) wholes ∙ same.bytes at ∙ byte_at-append base half (Segment next rest) at
              ∙ stands_below base half next rest at (let at_front = ap (front base) wholes ∙ fronts in omega (arith, low, at_front, reached.1))
              ∙ sym (ap (λ xs. byte_at base xs at) counts);
          over = over ∙ sym (ap (is_over base limit) counts ∙ ap (is_over base limit) (sym halves) ∙ ended);
          above = λ on. absurd (true≢false (sym over ∙ on));
        }

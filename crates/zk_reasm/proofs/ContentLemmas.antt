-- What a stream has to give: its run, the gap behind it, and how much it holds.
use Rattle.std.proofs.Common.{◌≡◌, ℕ, zero, suc, ◌+◌, ◌-◌, ◌<◌, ◌≤◌, Bool, true, false, cond, not, ◌&&◌, ◌||◌, leb, ltb, List, [], ◌∷◌, ◌++◌, length, map, take, drop, Option, None, Some, IsSome, refl, sym, ap, ◌∙◌, ⊎_elim, arith}
use Rattle.std.specs.Prelude.{is_some, is_none}
use Rattle.std.specs.List.{slice_get, filter_map, range_with_len, prefix_len, cons_option, list_any}
use Rattle.std.proofs.Math.Seq.{take-append_seam, drop-append_seam}
use Rattle.std.proofs.lemmas.Bool.{cases_lt, cases_Bool, ltb-false, true≢false, lt-leb, le-leb}
use Rattle.std.proofs.lemmas.List.FromFn.{length-map-range_with_len}
use Rattle.zk_reasm.specs.declared.held.Held.{Held}
use Rattle.zk_reasm.specs.declared.place.TheConstants.{PLACES}
use Rattle.zk_reasm.specs.declared.stream.Stream.{Stream}
use Rattle.zk_reasm.specs.Apart.{byte_apart}
use Rattle.zk_reasm.specs.Between.{places_between, held_between, bytes_between}
use Rattle.zk_reasm.specs.Direction.{front, above}
use Rattle.zk_reasm.specs.Gaps.{gap_behind}
use Rattle.zk_reasm.specs.Held.{byte_kept, taken_of, lent_of}
use Rattle.zk_reasm.specs.Histories.{is_stop, is_reached, is_over, counted, over_of, front_of, byte_of_stream, content, run_of, gap_of, kept_of}
use Rattle.zk_reasm.specs.Parts.{start_of, byte_held}
use Rattle.zk_reasm.specs.Piece.{byte_in}
use Rattle.zk_base.specs.ByteQueue.{bytes_of}
use Rattle.zk_reasm.specs.Standing.{byte_of_kept, StandsFor, lent}
use Rattle.zk_reasm.specs.Told.{Told, payload_end, fin_place}
use Rattle.zk_reasm.proofs.AdvanceLemmas.{passes}
use Rattle.zk_reasm.proofs.FrontLemmas.{held_in_run}
use Rattle.zk_reasm.proofs.HeldLemmas.{byte_held-run, byte_held-apart}
use Rattle.zk_reasm.proofs.PieceLemmas.{byte_in-at}
use Rattle.zk_reasm.proofs.RangeLemmas.{places_between-split, places_between-none, places_between-shift, held_between-split, held_between-none, held_between-same, held_between-full, held_between-empty, held_between-le, bytes_between-same}

prefix_len-map : (p : Option ℕ → Bool) (f : ℕ → Option ℕ) (a n : ℕ) (ys : List (Option ℕ)) → ((k : ℕ) → k < n → p (f (a + k)) ≡ true)
    → prefix_len p (map f (range_with_len a n) ++ ys) ≡ n + prefix_len p ys
prefix_len-map p f a zero ys all = omega arith
prefix_len-map p f a (suc n) ys all =
    ap (λ b. cond b (1 + prefix_len p (map f (range_with_len (a + 1) n) ++ ys)) 0) (ap (λ i. p (f i)) (let e : a ≡ a + 0 = omega arith in e) ∙ all 0 (omega arith))
    ∙ ap (λ m. 1 + m) (prefix_len-map p f (a + 1) n ys (λ k low. ap (λ i. p (f i)) (let e : a + 1 + k ≡ a + suc k = omega arith in e) ∙ all (suc k) (omega (arith, low))))
    ∙ (let e : 1 + (n + prefix_len p ys) ≡ suc n + prefix_len p ys = omega arith in e)

prefix_len-stop : (p : Option ℕ → Bool) (f : ℕ → Option ℕ) (a n : ℕ) → (0 < n → p (f a) ≡ false) → prefix_len p (map f (range_with_len a n)) ≡ 0
prefix_len-stop p f a zero stops = refl
prefix_len-stop p f a (suc n) stops = ap (λ b. cond b (1 + prefix_len p (map f (range_with_len (a + 1) n))) 0) (stops (omega arith))

-- how many places from the first on pass a test, where it is known which one is the first that doesn't
pub prefix_len-between : (p : Option ℕ → Bool) (f : ℕ → Option ℕ) (a b c : ℕ) → a ≤ b → b ≤ c → ((at : ℕ) → a ≤ at → at < b → p (f at) ≡ true)
    → (b < c → p (f b) ≡ false) → prefix_len p (places_between f a c) ≡ b - a
prefix_len-between p f a b c low high all stops =
    ap (prefix_len p) (places_between-split f a b c low high)
    ∙ prefix_len-map p f a (b - a) (places_between f b c) (λ k within. all (a + k) (omega arith) (omega (arith, within)))
    ∙ (let stop : prefix_len p (places_between f b c) ≡ 0 = prefix_len-stop p f b (c - b) (λ more. stops (omega (arith, more))) in omega (arith, stop))

-- the bytes at places that have these
pub bytes_between-list : (f : ℕ → Option ℕ) (a : ℕ) (bytes : List ℕ) → ((k : ℕ) → k < length bytes → f (a + k) ≡ slice_get bytes k)
    → bytes_between f a (a + length bytes) ≡ bytes
unfolding bytes_between
bytes_between-list f a bytes each =
    ap (λ n. filter_map (λ (byte : Option ℕ). byte) (map f (range_with_len a n))) (let e : a + length bytes - a ≡ length bytes = omega arith in e) ∙ listed a bytes each
  where
    listed : (c : ℕ) (xs : List ℕ) → ((k : ℕ) → k < length xs → f (c + k) ≡ slice_get xs k)
        → filter_map (λ (byte : Option ℕ). byte) (map f (range_with_len c (length xs))) ≡ xs
    listed c [] here = refl
    listed c (x ∷ xs) here =
        ap (λ o. cons_option o (filter_map (λ (byte : Option ℕ). byte) (map f (range_with_len (c + 1) (length xs)))))
        (ap f (let e : c ≡ c + 0 = omega arith in e) ∙ here 0 (omega arith))
        ∙ ap (λ ys. x ∷ ys) (listed (c + 1) xs (λ k low. ap f (let e : c + 1 + k ≡ c + suc k = omega arith in e) ∙ here (suc k) (omega (arith, low))))

-- the run of some places ends at the first of them without a byte
pub run_of-between : (f : ℕ → Option ℕ) (a b c : ℕ) → a ≤ b → b ≤ c → ((at : ℕ) → a ≤ at → at < b → IsSome (f at)) → (b < c → f b ≡ None)
    → run_of (places_between f a c) ≡ bytes_between f a b
unfolding bytes_between
run_of-between f a b c low high all stops =
    ap (filter_map (λ byte. byte))
    (ap (λ n. take n (places_between f a c)) (prefix_len-between is_some f a b c low high all (λ more. ap is_some (stops more)))
    ∙ ap (take (b - a)) (places_between-split f a b c low high)
    ∙ ap (λ n. take n (places_between f a b ++ places_between f b c)) (sym (length-map-range_with_len f a (b - a)))
    ∙ take-append_seam (places_between f a b) (places_between f b c))

-- and the gap behind it begins there
pub gap_of-between : (f : ℕ → Option ℕ) (a b c : ℕ) → a ≤ b → b ≤ c → ((at : ℕ) → a ≤ at → at < b → IsSome (f at)) → (b < c → f b ≡ None)
    → gap_of (places_between f a c) ≡ prefix_len is_none (places_between f b c)
gap_of-between f a b c low high all stops =
    ap (prefix_len is_none)
    (ap (λ n. drop n (places_between f a c)) (prefix_len-between is_some f a b c low high all (λ more. ap is_some (stops more)))
    ∙ ap (drop (b - a)) (places_between-split f a b c low high)
    ∙ ap (λ n. drop n (places_between f a b ++ places_between f b c)) (sym (length-map-range_with_len f a (b - a)))
    ∙ drop-append_seam (places_between f a b) (places_between f b c))

pub places_between-same : (f g : ℕ → Option ℕ) (a b : ℕ) → ((at : ℕ) → a ≤ at → at < b → f at ≡ g at) → places_between f a b ≡ places_between g a b
places_between-same f g a b same =
    ⊎_elim
    (λ low. ap (places_between f a) (let e : b ≡ a + (b - a) = omega (arith, low) in e)
    ∙ places_between-shift f g a a (b - a) (λ k within. same (a + k) (omega arith) (omega (arith, within)))
    ∙ ap (places_between g a) (let e : a + (b - a) ≡ b = omega (arith, low) in e))
    (λ past. places_between-none f a b past ∙ sym (places_between-none g a b past))
    (cases_lt a b)

-- below the front the bytes that are held are those of the stream
pub kept_below : (base limit : ℕ) (told : List Told) (at : ℕ) → at < front_of base limit told → byte_of_kept base limit told at ≡ byte_of_stream base limit told at
kept_below base limit told at low =
    ap (λ b. cond (over_of base limit told && b) None (byte_of_stream base limit told at)) (lt-leb (front_of base limit told) at low)
    ∙ ap (λ b. cond b None (byte_of_stream base limit told at)) (and_false (over_of base limit told))
  where
    and_false : (b : Bool) → (b && false) ≡ false
    and_false true = refl
    and_false false = refl

pub kept_live : (base limit : ℕ) (told : List Told) (at : ℕ) → over_of base limit told ≡ false → byte_of_kept base limit told at ≡ byte_of_stream base limit told at
kept_live base limit told at live = ap (λ b. cond (b && leb (front_of base limit told) at) None (byte_of_stream base limit told at)) live

pub kept_over : (base limit : ℕ) (told : List Told) (at : ℕ) → over_of base limit told ≡ true → front_of base limit told ≤ at → byte_of_kept base limit told at ≡ None
kept_over base limit told at over past =
    ap (λ b. cond (b && leb (front_of base limit told) at) None (byte_of_stream base limit told at)) over
    ∙ ap (λ b. cond b None (byte_of_stream base limit told at)) (le-leb (front_of base limit told) at past)

-- what stands for a stream, of its run
pub record RunFacts (stream : Stream) (base limit : ℕ) (told : List Told) (taken : ℕ) : Type 0 where
  pub low : taken ≤ stream.held.run_end
  pub high : stream.held.run_end ≤ front_of base limit told
  pub length_is : stream.held.run_end ≡ taken + length (bytes_of stream.held.run)
  pub same : (at : ℕ) → taken ≤ at → at < front_of base limit told → byte_kept stream.held at ≡ byte_of_stream base limit told at
  pub all : (at : ℕ) → taken ≤ at → at < stream.held.run_end → IsSome (byte_of_stream base limit told at)
  pub stops : stream.held.run_end < front_of base limit told → byte_of_stream base limit told stream.held.run_end ≡ None

pub run_facts : (stream : Stream) (base limit : ℕ) (told : List Told) (taken : ℕ) → StandsFor stream base limit told taken → RunFacts stream base limit told taken
unfolding taken_of byte_kept
run_facts stream base limit told taken stands =
    let held = stream.held in
    let start : start_of held.run held.run_end ≡ taken = stands.taken_is in
    let same = λ (at : ℕ) (low : taken ≤ at) (high : at < front_of base limit told). stands.bytes_are at low ∙ kept_below base limit told at high in
    record {
      low = omega (arith, start, held.start);
      high = omega (arith, stands.front_is, stream.settled.order);
      length_is = omega (arith, start, held.start);
      same = same;
      all = λ at low high. ap is_some (sym (same at low (omega (arith, high, stands.front_is, stream.settled.order)))) ∙ held_in_run held at (omega (arith, low, start)) high;
      stops = λ short. sym (same held.run_end (omega (arith, start, held.start)) short) ∙ stream.settled.gap (omega (arith, short, stands.front_is));
    }

pub lent_is_run : (stream : Stream) (base limit : ℕ) (told : List Told) (taken : ℕ) → StandsFor stream base limit told taken → lent stream ≡ run_of (content base limit told taken)
unfolding lent lent_of content taken_of byte_kept
lent_is_run stream base limit told taken stands =
    let held = stream.held in
    let facts = run_facts stream base limit told taken stands in
    let start : start_of held.run held.run_end ≡ taken = stands.taken_is in
    sym (run_of-between (byte_of_stream base limit told) taken held.run_end (front_of base limit told) facts.low facts.high facts.all facts.stops
    ∙ bytes_between-same (byte_of_stream base limit told) (byte_kept held) taken held.run_end facts.low (λ at low high. sym (facts.same at low (omega (arith, high, facts.high))))
    ∙ ap (bytes_between (byte_kept held) taken) facts.length_is
    ∙ bytes_between-list (byte_kept held) taken (bytes_of held.run)
    (λ k within. byte_held-run held.run held.run_end held.apart (taken + k) (omega (arith, within, facts.length_is))
    ∙ ap (λ s. byte_in s (bytes_of held.run) (taken + k)) start
    ∙ byte_in-at taken (bytes_of held.run) (taken + k) (omega arith)
    ∙ ap (slice_get (bytes_of held.run)) (let e : taken + k - taken ≡ k = omega arith in e)))

pub gap_behind_is : (stream : Stream) (base limit : ℕ) (told : List Told) (taken : ℕ) → StandsFor stream base limit told taken → gap_behind stream ≡ gap_of (content base limit told taken)
unfolding gap_behind content
gap_behind_is stream base limit told taken stands =
    let held = stream.held in
    let facts = run_facts stream base limit told taken stands in
    ap (λ n. prefix_len is_none (places_between (byte_kept held) held.run_end n)) stands.front_is
    ∙ ap (prefix_len is_none) (places_between-same (byte_kept held) (byte_of_stream base limit told) held.run_end (front_of base limit told)
    (λ at low high. facts.same at (omega (arith, low, facts.low)) high))
    ∙ sym (gap_of-between (byte_of_stream base limit told) taken held.run_end (front_of base limit told) facts.low facts.high facts.all facts.stops)

-- all that is held
all_kept : (held : Held) → held.kept ≡ held_between (byte_kept held) (taken_of held) PLACES
unfolding byte_kept taken_of
all_kept held =
    let f = byte_held held.run held.run_end held.apart in
    let start = start_of held.run held.run_end in
    let cut = held_between-split f start held.run_end PLACES (omega arith) held.«end» in
    let run = held_between-full f start held.run_end (omega arith) (λ at low high. held_in_run held at low high) in
    let rest = held_between-same f (byte_apart held.apart) held.run_end PLACES (λ at low high. ap is_some (byte_held-apart held.run held.run_end held.apart at low)) in
    omega (arith, cut, run, rest, held.kept_counts, held.start)

-- how many there are from a place on, where none lies past an end
pub held_between-bounded : (f g : ℕ → Option ℕ) (a end : ℕ) → end ≤ PLACES → ((at : ℕ) → a ≤ at → g at ≡ f at) → ((at : ℕ) → end ≤ at → f at ≡ None)
    → held_between g a PLACES ≡ held_between f a end
held_between-bounded f g a end within same none =
    held_between-same g f a PLACES (λ at low high. ap is_some (same at low))
    ∙ ⊎_elim
    (λ past. held_between-empty f a PLACES (λ at low high. none at (omega (arith, low, past))) ∙ sym (held_between-none f a end (omega (arith, past))))
    (λ low. held_between-split f a end PLACES low within ∙ (let rest = held_between-empty f end PLACES (λ at from to. none at from) in omega (arith, rest)))
    (cases_lt end a)

-- the bytes above the front, of a stream that isn't over
pub above_live : (stream : Stream) (base limit : ℕ) (told : List Told) (taken : ℕ) → StandsFor stream base limit told taken → over_of base limit told ≡ false
    → stream.held.above ≡ above base (counted base limit told)
unfolding above byte_kept
above_live stream base limit told taken stands live =
    let facts = run_facts stream base limit told taken stands in
    stream.held.above_counts
    ∙ ap (λ n. held_between (byte_kept stream.held) n PLACES) stands.front_is
    ∙ held_between-bounded (byte_of_stream base limit told) (byte_kept stream.held) (front_of base limit told) (payload_end base (counted base limit told))
    stands.together.«end»
    (λ at low. stands.bytes_are at (omega (arith, low, facts.low, facts.high)) ∙ kept_live base limit told at live)
    stands.together.behind

-- and none of one that is over
pub above_over : (stream : Stream) (base limit : ℕ) (told : List Told) (taken : ℕ) → StandsFor stream base limit told taken → over_of base limit told ≡ true → stream.held.above ≡ 0
unfolding byte_kept
above_over stream base limit told taken stands over =
    let facts = run_facts stream base limit told taken stands in
    stream.held.above_counts
    ∙ held_between-empty (byte_kept stream.held) stream.held.front PLACES
    (λ at low high. stands.bytes_are at (omega (arith, low, facts.low, facts.high, stands.front_is)) ∙ kept_over base limit told at over (omega (arith, low, stands.front_is)))

-- what is held is what lies below the front and above it
kept_split : (stream : Stream) (base limit : ℕ) (told : List Told) (taken : ℕ) → StandsFor stream base limit told taken
    → stream.held.kept ≡ held_between (byte_of_stream base limit told) taken (front_of base limit told) + stream.held.above
unfolding byte_kept
kept_split stream base limit told taken stands =
    let facts = run_facts stream base limit told taken stands in
    let g = byte_kept stream.held in
    let all : stream.held.kept ≡ held_between g taken PLACES = all_kept stream.held ∙ ap (λ n. held_between g n PLACES) stands.taken_is in
    let cut = held_between-split g taken stream.held.front PLACES (omega (arith, facts.low, facts.high, stands.front_is)) stream.held.front_within in
    let below = held_between-same g (byte_of_stream base limit told) taken stream.held.front (λ at low high. ap is_some (facts.same at low (omega (arith, high, stands.front_is)))) in
    let moved = ap (held_between (byte_of_stream base limit told) taken) stands.front_is in
    let rest : stream.held.above ≡ held_between g stream.held.front PLACES = stream.held.above_counts in
    omega (arith, all, cut, below, moved, rest)

pub kept_is : (stream : Stream) (base limit : ℕ) (told : List Told) (taken : ℕ) → StandsFor stream base limit told taken → stream.held.kept ≡ kept_of base limit told taken
unfolding kept_of
kept_is stream base limit told taken stands = ⊎_elim over live (cases_Bool (over_of base limit told))
  where
    f : ℕ → Option ℕ
    f = byte_of_stream base limit told

    kept_end : ℕ
    kept_end = held_between f taken (cond (over_of base limit told) (front_of base limit told) (payload_end base (counted base limit told)))

    at_end : (b : Bool) → over_of base limit told ≡ b → held_between f taken (cond b (front_of base limit told) (payload_end base (counted base limit told))) ≡ kept_end
    at_end b is = ap (λ o. held_between f taken (cond o (front_of base limit told) (payload_end base (counted base limit told)))) (sym is)

    over : over_of base limit told ≡ true → stream.held.kept ≡ kept_end
    over is =
        let none = above_over stream base limit told taken stands is in
        let split = kept_split stream base limit told taken stands in
        (let e : stream.held.kept ≡ held_between f taken (front_of base limit told) = omega (arith, none, split) in e) ∙ at_end true is

    live : over_of base limit told ≡ false → stream.held.kept ≡ kept_end
    live is =
        all_kept stream.held
        ∙ ap (λ n. held_between (byte_kept stream.held) n PLACES) stands.taken_is
        ∙ held_between-bounded f (byte_kept stream.held) taken (payload_end base (counted base limit told)) stands.together.«end»
        (λ at low. stands.bytes_are at low ∙ kept_live base limit told at is) stands.together.behind
        ∙ at_end false is

-- at most what isn't taken below the front, and the limit above it
pub kept_bound : (stream : Stream) (base limit : ℕ) (told : List Told) (taken : ℕ) → StandsFor stream base limit told taken
    → stream.held.kept ≤ front_of base limit told - taken + limit
unfolding is_over
kept_bound stream base limit told taken stands =
    let split = kept_split stream base limit told taken stands in
    let most = held_between-le (byte_of_stream base limit told) taken (front_of base limit told) in
    ⊎_elim
    (λ over. let none = above_over stream base limit told taken stands over in omega (arith, split, most, none))
    (λ live. let is = above_live stream base limit told taken stands live in
    let within : above base (counted base limit told) ≤ limit = ltb-false limit (above base (counted base limit told)) (last_false (list_any is_stop (counted base limit told)) (is_reached (fin_place base (counted base limit told)) (front base (counted base limit told))) (ltb limit (above base (counted base limit told))) live) in
    omega (arith, split, most, is, within))
    (cases_Bool (over_of base limit told))
  where
    last_false : (a b c : Bool) → (a || (b || c)) ≡ false → c ≡ false
    last_false false false c is = is
    last_false false true c is = absurd (true≢false is)
    last_false true b c is = absurd (true≢false is)

-- the gap places behind the run, where it is known where they end
pub gap_behind-from : (stream : Stream) (gap : ℕ) → gap ≤ stream.held.front - stream.held.run_end
    → ((at : ℕ) → stream.held.run_end ≤ at → at < stream.held.run_end + gap → byte_kept stream.held at ≡ None)
    → (stream.held.run_end + gap < stream.held.front → IsSome (byte_kept stream.held (stream.held.run_end + gap))) → gap ≡ gap_behind stream
unfolding gap_behind
gap_behind-from stream gap within none end =
    (let e : gap ≡ stream.held.run_end + gap - stream.held.run_end = omega arith in e)
    ∙ sym (prefix_len-between is_none (byte_kept stream.held) stream.held.run_end (stream.held.run_end + gap) stream.held.front
    (omega arith) (omega (arith, stream.settled.order, within)) (λ at low high. ap is_none (none at low high)) (λ short. ap not (end short)))

-- the gap behind the run ends at the front at the latest
pub gap_within : (stream : Stream) → gap_behind stream ≤ stream.held.front - stream.held.run_end
unfolding gap_behind
gap_within stream = (passes is_none (byte_kept stream.held) stream.held.run_end (stream.held.front - stream.held.run_end)).most

-- and has no byte
pub gap_none : (stream : Stream) (at : ℕ) → stream.held.run_end ≤ at → at < stream.held.run_end + gap_behind stream → byte_kept stream.held at ≡ None
unfolding gap_behind
gap_none stream at low high =
    let k = at - stream.held.run_end in
    nothing (byte_kept stream.held at)
    (ap (λ i. is_none (byte_kept stream.held i)) (let e : at ≡ stream.held.run_end + k = omega (arith, low) in e)
    ∙ (passes is_none (byte_kept stream.held) stream.held.run_end (stream.held.front - stream.held.run_end)).each k (omega (arith, low, high)))
  where
    nothing : (o : Option ℕ) → is_none o ≡ true → o ≡ None
    nothing None is = refl
    nothing (Some byte) is = cc

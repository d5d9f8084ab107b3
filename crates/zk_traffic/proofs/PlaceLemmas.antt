-- The first run of bytes and the first gap of neighbouring places.
use Rattle.std.proofs.Common.{◌≡◌, ℕ, suc, ◌+◌, ◌-◌, ◌<◌, ◌≤◌, ◌==◌, Bool, true, false, cond, List, [], ◌∷◌, ◌++◌, length, map, take, drop, None, Some, is_some, is_none, refl, sym, ap, ◌∙◌, arith, ⊎_elim}
use Rattle.std.specs.List.{filter_map, prefix_len, range_with_len}
use Rattle.std.proofs.lemmas.Grind.{common_steps}
use Rattle.std.proofs.lemmas.Bool.{cases_lt}
use Rattle.std.proofs.lemmas.List.FromFn.{length-map-range_with_len, length-range_with_len}
use Rattle.zk_reasm.proofs.RangeLemmas.{range_with_len-add}
use Rattle.std.proofs.lemmas.List.{drop-map}
use Rattle.zk_base.specs.Places.{Place}
use Rattle.zk_reasm.specs.Histories.{byte_of_stream, content, front_of, gap_of, run_of}
use Rattle.zk_reasm.specs.Told.{Told}
use Rattle.zk_traffic.specs.Moves.{first_gap, first_run, stretch}
use Rattle.zk_traffic.specs.Places.{Gap, Run, with_gap, gaps_from, with_byte, runs_from}
use Rattle.zk_units.specs.Cuts.{byte_places}

-- each of the runs begins at a place or behind it
abbrev pub BeginBehind : ℕ → List Run → Type 0
BeginBehind at [] = Unit {0}
BeginBehind at (r ∷ rest) = at ≤ r.from

abbrev pub GapsBehind : ℕ → List Gap → Type 0
GapsBehind at [] = Unit {0}
GapsBehind at (g ∷ rest) = at ≤ g.from

with_byte-behind : (at byte least : ℕ) (rest : List Run) → least ≤ at → BeginBehind least (with_byte at byte rest)
with_byte-behind at byte least [] within = within
with_byte-behind at byte least (r ∷ rest) within = by_cases (r.from == at + 1)
  where
    by_cases : (b : Bool) → BeginBehind least (cond b (record { from = at; bytes = byte ∷ r.bytes } ∷ rest) (record { from = at; bytes = byte ∷ [] } ∷ r ∷ rest))
    by_cases true = within
    by_cases false = within

runs-behind : (at least : ℕ) (places : List Place) → least ≤ at → BeginBehind least (runs_from at places)
runs-behind at least [] within = tt
runs-behind at least (None ∷ places) within = runs-behind (at + 1) least places (omega arith)
runs-behind at least (Some byte ∷ places) within = with_byte-behind at byte least (runs_from (at + 1) places) within

with_gap-behind : (at least : ℕ) (rest : List Gap) → least ≤ at → GapsBehind least (with_gap at rest)
with_gap-behind at least [] within = within
with_gap-behind at least (g ∷ rest) within = by_cases (g.from == at + 1)
  where
    by_cases : (b : Bool) → GapsBehind least (cond b (record { from = at; length = g.length + 1 } ∷ rest) (record { from = at; length = 1 } ∷ g ∷ rest))
    by_cases true = within
    by_cases false = within

gaps-behind : (at least : ℕ) (places : List Place) → least ≤ at → GapsBehind least (gaps_from at places)
gaps-behind at least [] within = tt
gaps-behind at least (Some byte ∷ places) within = gaps-behind (at + 1) least places (omega arith)
gaps-behind at least (None ∷ places) within = with_gap-behind at least (gaps_from (at + 1) places) within

-- a byte that stands ahead of runs that don't follow it at once
with_byte-apart : (at byte : ℕ) (rest : List Run) → BeginBehind (at + 2) rest → with_byte at byte rest ≡ record { from = at; bytes = byte ∷ [] } ∷ rest
with_byte-apart at byte [] behind = refl
with_byte-apart at byte (r ∷ rest) behind =
    let apart : (r.from == at + 1) ≡ false = grind (arith, common_steps) in
    ap (λ b. cond b (record { from = at; bytes = byte ∷ r.bytes } ∷ rest) (record { from = at; bytes = byte ∷ [] } ∷ r ∷ rest)) apart

with_byte-joined : (at byte : ℕ) (r : Run) (rest : List Run) → r.from ≡ at + 1 → with_byte at byte (r ∷ rest) ≡ record { from = at; bytes = byte ∷ r.bytes } ∷ rest
with_byte-joined at byte r rest joins =
    let same : (r.from == at + 1) ≡ true = grind (arith, common_steps) in
    ap (λ b. cond b (record { from = at; bytes = byte ∷ r.bytes } ∷ rest) (record { from = at; bytes = byte ∷ [] } ∷ r ∷ rest)) same

with_gap-apart : (at : ℕ) (rest : List Gap) → GapsBehind (at + 2) rest → with_gap at rest ≡ record { from = at; length = 1 } ∷ rest
with_gap-apart at [] behind = refl
with_gap-apart at (g ∷ rest) behind =
    let apart : (g.from == at + 1) ≡ false = grind (arith, common_steps) in
    ap (λ b. cond b (record { from = at; length = g.length + 1 } ∷ rest) (record { from = at; length = 1 } ∷ g ∷ rest)) apart

with_gap-joined : (at : ℕ) (g : Gap) (rest : List Gap) → g.from ≡ at + 1 → with_gap at (g ∷ rest) ≡ record { from = at; length = g.length + 1 } ∷ rest
with_gap-joined at g rest joins =
    let same : (g.from == at + 1) ≡ true = grind (arith, common_steps) in
    ap (λ b. cond b (record { from = at; length = g.length + 1 } ∷ rest) (record { from = at; length = 1 } ∷ g ∷ rest)) same

one_more : {A : Type 0} (n : ℕ) (x : A) (xs : List A) → drop (1 + n) (x ∷ xs) ≡ drop n xs
one_more n x xs = ap (λ m. drop m (x ∷ xs)) (let same : 1 + n ≡ suc n = omega arith in same)

one_taken : {A : Type 0} (n : ℕ) (x : A) (xs : List A) → take (1 + n) (x ∷ xs) ≡ x ∷ take n xs
one_taken n x xs = ap (λ m. take m (x ∷ xs)) (let same : 1 + n ≡ suc n = omega arith in same)

pub run_of-some : (byte : ℕ) (places : List Place) → run_of (Some byte ∷ places) ≡ byte ∷ run_of places
run_of-some byte places = ap (filter_map (λ b. b)) (one_taken (prefix_len is_some places) (Some byte) places)

pub gap_of-some : (byte : ℕ) (places : List Place) → gap_of (Some byte ∷ places) ≡ gap_of places
gap_of-some byte places = ap (prefix_len is_none) (one_more (prefix_len is_some places) (Some byte) places)

pub stretch-byte : (byte : ℕ) (places : List Place) → stretch (Some byte ∷ places) ≡ suc (stretch places)
stretch-byte byte places =
    let run : length (run_of (Some byte ∷ places)) ≡ suc (length (run_of places)) = ap length (run_of-some byte places) in
    omega (arith, run, gap_of-some byte places)

pub stretch-gap : (places : List Place) → stretch (None ∷ places) ≡ suc (prefix_len is_none places)
stretch-gap places =
    let run : length (run_of (None ∷ places)) ≡ 0 = refl in
    let gap : gap_of (None ∷ places) ≡ 1 + prefix_len is_none places = refl in
    omega (arith, run, gap)

some_run : (byte : ℕ) (places : List Place) → (length (run_of (Some byte ∷ places)) == 0) ≡ false
some_run byte places =
    let run : length (run_of (Some byte ∷ places)) ≡ suc (length (run_of places)) = ap length (run_of-some byte places) in
    let test : (n : ℕ) → n ≡ suc (length (run_of places)) → (n == 0) ≡ false = λ n is. grind (arith, common_steps) in
    test (length (run_of (Some byte ∷ places))) run

some_gap : (places : List Place) → (gap_of (None ∷ places) == 0) ≡ false
some_gap places =
    let gap : gap_of (None ∷ places) ≡ 1 + prefix_len is_none places = refl in
    let test : (n : ℕ) → n ≡ 1 + prefix_len is_none places → (n == 0) ≡ false = λ n is. grind (arith, common_steps) in
    test (gap_of (None ∷ places)) gap

-- places behind others
moved_runs : (at at' n n' : ℕ) (places : List Place) → at ≡ at' → n ≡ n' → runs_from at (drop n places) ≡ runs_from at' (drop n' places)
moved_runs at at' n n' places first second = ap (λ a. runs_from a (drop n places)) first ∙ ap (λ m. runs_from at' (drop m places)) second

moved_gaps : (at at' n n' : ℕ) (places : List Place) → at ≡ at' → n ≡ n' → gaps_from at (drop n places) ≡ gaps_from at' (drop n' places)
moved_gaps at at' n n' places first second = ap (λ a. gaps_from a (drop n places)) first ∙ ap (λ m. gaps_from at' (drop m places)) second

-- gap places hold no run
runs-passed : (at : ℕ) (places : List Place) → runs_from at places ≡ runs_from (at + prefix_len is_none places) (drop (prefix_len is_none places) places)
runs-passed at [] = moved_runs at (at + 0) 0 0 [] (omega arith) refl
runs-passed at (Some byte ∷ places) = moved_runs at (at + 0) 0 0 (Some byte ∷ places) (omega arith) refl
runs-passed at (None ∷ places) =
    let more : prefix_len is_none (None ∷ places) ≡ 1 + prefix_len is_none places = refl in
    runs-passed (at + 1) places
    ∙ moved_runs (at + 1 + prefix_len is_none places) (at + prefix_len is_none (None ∷ places)) (suc (prefix_len is_none places)) (prefix_len is_none (None ∷ places)) (None ∷ places) (omega (arith, more)) (omega (arith, more))

-- the runs of places are the first one, and those behind the gap that follows it
pub runs-first : (at : ℕ) (places : List Place) → runs_from at places ≡ first_run at places ++ runs_from (at + stretch places) (drop (stretch places) places)
runs-first at [] = refl
runs-first at (None ∷ places) =
    runs-passed (at + 1) places
    ∙ moved_runs (at + 1 + prefix_len is_none places) (at + stretch (None ∷ places)) (suc (prefix_len is_none places)) (stretch (None ∷ places)) (None ∷ places)
    (omega (arith, stretch-gap places)) (sym (stretch-gap places))
runs-first at (Some byte ∷ []) = refl
runs-first at (Some byte ∷ None ∷ places) =
    with_byte-apart at byte (runs_from (at + 1 + 1) places) (runs-behind (at + 1 + 1) (at + 2) places (omega arith))
    ∙ ap (λ l. record { from = at; bytes = byte ∷ [] } ∷ l)
    (runs-passed (at + 1 + 1) places
    ∙ moved_runs (at + 1 + 1 + prefix_len is_none places) (at + stretch (Some byte ∷ None ∷ places)) (suc (suc (prefix_len is_none places))) (stretch (Some byte ∷ None ∷ places)) (Some byte ∷ None ∷ places)
    (omega (arith, stretch-byte byte (None ∷ places), stretch-gap places)) (omega (arith, stretch-byte byte (None ∷ places), stretch-gap places)))
runs-first at (Some byte ∷ Some next ∷ places) =
    let rest = runs_from (at + 1 + stretch (Some next ∷ places)) (drop (stretch (Some next ∷ places)) (Some next ∷ places)) in
    let run : Run = record { from = at + 1; bytes = run_of (Some next ∷ places) } in
    let here : Run = record { from = at; bytes = run_of (Some byte ∷ Some next ∷ places) } in
    let behind : List Run = runs_from (at + stretch (Some byte ∷ Some next ∷ places)) (drop (stretch (Some byte ∷ Some next ∷ places)) (Some byte ∷ Some next ∷ places)) in
    ap (with_byte at byte) (runs-first (at + 1) (Some next ∷ places))
    ∙ ap (λ b. with_byte at byte (cond b [] (run ∷ []) ++ rest)) (some_run next places)
    ∙ with_byte-joined at byte run rest refl
    ∙ ap (λ l. record { from = at; bytes = l } ∷ rest) (sym (run_of-some byte (Some next ∷ places)))
    ∙ ap (λ l. here ∷ l)
    (moved_runs (at + 1 + stretch (Some next ∷ places)) (at + stretch (Some byte ∷ Some next ∷ places)) (suc (stretch (Some next ∷ places))) (stretch (Some byte ∷ Some next ∷ places)) (Some byte ∷ Some next ∷ places)
    (omega (arith, stretch-byte byte (Some next ∷ places))) (sym (stretch-byte byte (Some next ∷ places))))
    ∙ sym (ap (λ b. cond b [] (here ∷ []) ++ behind) (some_run byte (Some next ∷ places)))

-- a gap is as long as its places
gaps-none : (at : ℕ) (places : List Place)
    → gaps_from at (None ∷ places) ≡ record { from = at; length = suc (prefix_len is_none places) } ∷ gaps_from (at + 1 + prefix_len is_none places) (drop (prefix_len is_none places) places)
gaps-none at [] = refl
gaps-none at (Some byte ∷ places) =
    with_gap-apart at (gaps_from (at + 1 + 1) places) (gaps-behind (at + 1 + 1) (at + 2) places (omega arith))
    ∙ ap (λ l. record { from = at; length = 1 } ∷ l) (moved_gaps (at + 1) (at + 1 + 0) 0 0 (Some byte ∷ places) (omega arith) refl)
gaps-none at (None ∷ places) =
    let n = prefix_len is_none places in
    let more : prefix_len is_none (None ∷ places) ≡ 1 + n = refl in
    let rest = gaps_from (at + 1 + 1 + n) (drop n places) in
    ap (with_gap at) (gaps-none (at + 1) places)
    ∙ with_gap-joined at (record { from = at + 1; length = suc n }) rest refl
    ∙ ap (λ m. record { from = at; length = m } ∷ rest) (let same : suc n + 1 ≡ suc (prefix_len is_none (None ∷ places)) = omega (arith, more) in same)
    ∙ ap (λ l. record { from = at; length = suc (prefix_len is_none (None ∷ places)) } ∷ l)
    (moved_gaps (at + 1 + 1 + n) (at + 1 + prefix_len is_none (None ∷ places)) (suc n) (prefix_len is_none (None ∷ places)) (None ∷ places) (omega (arith, more)) (omega (arith, more)))

-- the gaps of places are the first one, and those behind it
pub gaps-first : (at : ℕ) (places : List Place) → gaps_from at places ≡ first_gap at places ++ gaps_from (at + stretch places) (drop (stretch places) places)
gaps-first at [] = refl
gaps-first at (None ∷ places) =
    let n = prefix_len is_none places in
    let gap : gap_of (None ∷ places) ≡ 1 + n = refl in
    let behind = gaps_from (at + stretch (None ∷ places)) (drop (stretch (None ∷ places)) (None ∷ places)) in
    gaps-none at places
    ∙ ap (λ a. record { from = a; length = suc n } ∷ gaps_from (at + 1 + n) (drop n places)) (let same : at ≡ at + 0 = omega arith in same)
    ∙ ap (λ m. record { from = at + 0; length = m } ∷ gaps_from (at + 1 + n) (drop n places)) (let same : suc n ≡ gap_of (None ∷ places) = omega (arith, gap) in same)
    ∙ ap (λ l. record { from = at + 0; length = gap_of (None ∷ places) } ∷ l)
    (moved_gaps (at + 1 + n) (at + stretch (None ∷ places)) (suc n) (stretch (None ∷ places)) (None ∷ places) (omega (arith, stretch-gap places)) (sym (stretch-gap places)))
    ∙ sym (ap (λ b. cond b [] (record { from = at + 0; length = gap_of (None ∷ places) } ∷ []) ++ behind) (some_gap places))
gaps-first at (Some byte ∷ places) =
    let r = length (run_of places) in
    let run : length (run_of (Some byte ∷ places)) ≡ suc r = ap length (run_of-some byte places) in
    let behind = gaps_from (at + stretch (Some byte ∷ places)) (drop (stretch (Some byte ∷ places)) (Some byte ∷ places)) in
    gaps-first (at + 1) places
    ∙ ap (λ a. cond (gap_of places == 0) [] (record { from = a; length = gap_of places } ∷ []) ++ gaps_from (at + 1 + stretch places) (drop (stretch places) places))
    (let same : at + 1 + r ≡ at + length (run_of (Some byte ∷ places)) = omega (arith, run) in same)
    ∙ ap (λ g. cond (g == 0) [] (record { from = at + length (run_of (Some byte ∷ places)); length = g } ∷ []) ++ gaps_from (at + 1 + stretch places) (drop (stretch places) places)) (sym (gap_of-some byte places))
    ∙ ap (λ l. first_gap at (Some byte ∷ places) ++ l)
    (moved_gaps (at + 1 + stretch places) (at + stretch (Some byte ∷ places)) (suc (stretch places)) (stretch (Some byte ∷ places)) (Some byte ∷ places) (omega (arith, stretch-byte byte places)) (sym (stretch-byte byte places)))

range_behind : (from n len : ℕ) → drop n (range_with_len from len) ≡ range_with_len (from + n) (len - n)
range_behind from n len = ⊎_elim
    (λ past.
    (let all : drop n (range_with_len from len) ≡ [] = grind (arith, common_steps, length-range_with_len from len, past) in all)
    ∙ ap (range_with_len (from + n)) (let none : 0 ≡ len - n = omega (arith, past) in none))
    (λ within.
    ap (λ m. drop n (range_with_len from m)) (let same : len ≡ n + (len - n) = omega (arith, within) in same)
    ∙ ap (drop n) (range_with_len-add from n (len - n))
    ∙ (let cut : drop n (range_with_len from n ++ range_with_len (from + n) (len - n)) ≡ range_with_len (from + n) (len - n) = grind (arith, common_steps, length-range_with_len from n) in cut))
    (cases_lt len n)

-- what stands behind a place
pub content_behind : (base limit : ℕ) (told : List Told) (from n : ℕ) → content base limit told (from + n) ≡ drop n (content base limit told from)
unfolding content
content_behind base limit told from n =
    ap (λ m. map (byte_of_stream base limit told) (range_with_len (from + n) m)) (let same : front_of base limit told - (from + n) ≡ front_of base limit told - from - n = omega arith in same)
    ∙ ap (map (byte_of_stream base limit told)) (sym (range_behind from n (front_of base limit told - from)))
    ∙ sym (drop-map (byte_of_stream base limit told) n (range_with_len from (front_of base limit told - from)))

pub length-content : (base limit : ℕ) (told : List Told) (from : ℕ) → length (content base limit told from) ≡ front_of base limit told - from
unfolding content
length-content base limit told from = length-map-range_with_len (byte_of_stream base limit told) from (front_of base limit told - from)

prefix-within : (l : List Place) → prefix_len is_none l ≤ length l
prefix-within [] = omega arith
prefix-within (None ∷ l) =
    let more : prefix_len is_none (None ∷ l) ≡ 1 + prefix_len is_none l = refl in
    omega (arith, more, prefix-within l)
prefix-within (Some b ∷ l) =
    let none : prefix_len is_none (Some b ∷ l) ≡ 0 = refl in
    omega (arith, none)

-- there are so many places at least
pub stretch-within : (places : List Place) → stretch places ≤ length places
stretch-within [] = let none : stretch [] ≡ 0 = refl in omega (arith, none)
stretch-within (None ∷ places) = omega (arith, stretch-gap places, prefix-within places)
stretch-within (Some byte ∷ places) = omega (arith, stretch-byte byte places, stretch-within places)

-- places have a first run or a first gap
pub stretch-some : (places : List Place) → 0 < length places → 0 < stretch places
stretch-some [] some = absurd (omega (arith, some))
stretch-some (None ∷ places) some = omega (arith, stretch-gap places)
stretch-some (Some byte ∷ places) some = omega (arith, stretch-byte byte places)

-- how far a stretch goes
pub stretch-front : (base limit : ℕ) (told : List Told) (from : ℕ) → from ≤ front_of base limit told → from + stretch (content base limit told from) ≤ front_of base limit told
stretch-front base limit told from within = omega (arith, stretch-within (content base limit told from), length-content base limit told from)

-- behind the first run stands the gap
pub run-passed : (places : List Place) → run_of (drop (length (run_of places)) places) ≡ []
run-passed [] = refl
run-passed (None ∷ places) = refl
run-passed (Some byte ∷ places) = ap (λ n. run_of (drop n (Some byte ∷ places))) (ap length (run_of-some byte places)) ∙ run-passed places

pub gap-passed : (places : List Place) → gap_of (drop (length (run_of places)) places) ≡ gap_of places
gap-passed [] = refl
gap-passed (None ∷ places) = refl
gap-passed (Some byte ∷ places) =
    ap (λ n. gap_of (drop n (Some byte ∷ places))) (ap length (run_of-some byte places)) ∙ gap-passed places ∙ sym (gap_of-some byte places)

-- places that all have their byte are one run
pub runs-bytes : (at : ℕ) (bytes : List ℕ) → runs_from at (byte_places bytes) ≡ cond (length bytes == 0) [] (record { from = at; bytes = bytes } ∷ [])
runs-bytes at [] = refl
runs-bytes at (byte ∷ bytes) = ap (with_byte at byte) (runs-bytes (at + 1) bytes) ∙ one bytes ∙ sym (ap (λ b. run_if b at (byte ∷ bytes)) (some (length bytes)))
  where
    run_if : Bool → ℕ → List ℕ → List Run
    run_if b from bytes = cond b [] (record { from = from; bytes = bytes } ∷ [])

    some : (n : ℕ) → (suc n == 0) ≡ false
    some n = grind (arith, common_steps)

    same : (n : ℕ) → (n == n) ≡ true
    same n = grind (arith, common_steps)

    joined : ℕ → List ℕ → Bool → List Run
    joined next rest b = cond b (record { from = at; bytes = byte ∷ next ∷ rest } ∷ []) (record { from = at; bytes = byte ∷ [] } ∷ record { from = at + 1; bytes = next ∷ rest } ∷ [])

    one : (rest : List ℕ) → with_byte at byte (run_if (length rest == 0) (at + 1) rest) ≡ record { from = at; bytes = byte ∷ rest } ∷ []
    one [] = refl
    one (next ∷ rest) = ap (λ b. with_byte at byte (run_if b (at + 1) (next ∷ rest))) (some (length rest)) ∙ ap (joined next rest) (same (at + 1))

-- and no gap
pub gaps-bytes : (at : ℕ) (bytes : List ℕ) → gaps_from at (byte_places bytes) ≡ []
gaps-bytes at [] = refl
gaps-bytes at (byte ∷ bytes) = gaps-bytes (at + 1) bytes

-- Bytes that are cut by gaps, as they grow and are passed.
use Rattle.std.proofs.Common.{◌≡◌, ℕ, zero, suc, ◌+◌, ◌-◌, ◌<◌, ◌≤◌, cond, List, [], ◌∷◌, ◌++◌, length, take, drop, Some, None, refl, sym, ap, ◌∙◌, arith, append_assoc}
use Rattle.std.specs.Prelude.{is_some}
use Rattle.std.proofs.lemmas.List.{append-nil, drop-append-le, drop-drop, drop-map, drop-replicate, drop-take, length-append, length-drop, length-map, length-replicate, length-take-le, map-append, take-append-drop, take-append-le, take_all}
use Rattle.std.proofs.lemmas.List.Sums.{sum_by-append, sum_by-cons}
use Rattle.zk_base.specs.Places.{Place, bytes_before_gap}
use Rattle.zk_units.specs.declared.unread.Cut.{Cut}
use Rattle.zk_units.specs.Cuts.{byte_places, gap_places, gaps_in, places_cut, runs_in}
use Rattle.zk_units.specs.Units.{bytes_in}

-- ---- bytes ahead of a gap

pub run-bytes : (bytes : List ℕ) (places : List Place) → bytes_before_gap (byte_places bytes ++ places) ≡ bytes ++ bytes_before_gap places
run-bytes [] places = refl
run-bytes (byte ∷ bytes) places = ap (λ l. byte ∷ l) (run-bytes bytes places)

run-gap : (n : ℕ) (places : List Place) → 0 < n → bytes_before_gap (gap_places n ++ places) ≡ []
run-gap zero places some = absurd (omega (arith, some))
run-gap (suc n) places some = refl

pub run-all : (bytes : List ℕ) → bytes_before_gap (byte_places bytes) ≡ bytes
run-all [] = refl
run-all (byte ∷ bytes) = ap (λ l. byte ∷ l) (run-all bytes)

-- ---- cuts

pub run-cut : (bytes : List ℕ) (cut : Cut) (cuts : List Cut) → 0 < cut.gap → bytes_before_gap (places_cut bytes (cut ∷ cuts)) ≡ take cut.run bytes
run-cut bytes cut cuts some =
    run-bytes (take cut.run bytes) (gap_places cut.gap ++ places_cut (drop cut.run bytes) cuts)
    ∙ ap (λ l. take cut.run bytes ++ l) (run-gap cut.gap (places_cut (drop cut.run bytes) cuts) some)
    ∙ append-nil (take cut.run bytes)

pub runs-cons : (cut : Cut) (cuts : List Cut) → runs_in (cut ∷ cuts) ≡ cut.run + runs_in cuts
runs-cons cut cuts = sum_by-cons (λ (c : Cut). c.run) cut cuts

pub gaps-cons : (cut : Cut) (cuts : List Cut) → gaps_in (cut ∷ cuts) ≡ cut.gap + gaps_in cuts
gaps-cons cut cuts = sum_by-cons (λ (c : Cut). c.gap) cut cuts

pub places_cut-bytes : (bytes more : List ℕ) (cuts : List Cut) → runs_in cuts ≤ length bytes
    → places_cut (bytes ++ more) cuts ≡ places_cut bytes cuts ++ byte_places more
places_cut-bytes bytes more [] within = map-append (λ byte. Some byte) bytes more
places_cut-bytes bytes more (cut ∷ cuts) within =
    let low : cut.run ≤ length bytes = omega (arith, within, runs-cons cut cuts) in
    let rest : runs_in cuts ≤ length (drop cut.run bytes) = omega (arith, within, runs-cons cut cuts, length-drop cut.run bytes) in
    ap (λ l. byte_places l ++ (gap_places cut.gap ++ places_cut (drop cut.run (bytes ++ more)) cuts)) (take-append-le cut.run bytes more low)
    ∙ ap (λ l. byte_places (take cut.run bytes) ++ (gap_places cut.gap ++ places_cut l cuts)) (drop-append-le cut.run bytes more low)
    ∙ ap (λ l. byte_places (take cut.run bytes) ++ (gap_places cut.gap ++ l)) (places_cut-bytes (drop cut.run bytes) more cuts rest)
    ∙ same (byte_places (take cut.run bytes)) (gap_places cut.gap) (places_cut (drop cut.run bytes) cuts) (byte_places more)
  where
    same : (a b c d : List Place) → a ++ (b ++ (c ++ d)) ≡ (a ++ (b ++ c)) ++ d
    same a b c d = ap (λ l. a ++ l) (sym (append_assoc b c d)) ∙ sym (append_assoc a (b ++ c) d)

pub places_cut-gap : (bytes : List ℕ) (cuts : List Cut) (cut : Cut) → runs_in cuts + cut.run ≡ length bytes
    → places_cut bytes (cuts ++ cut ∷ []) ≡ places_cut bytes cuts ++ gap_places cut.gap
places_cut-gap bytes [] cut whole =
    let all : length bytes ≤ cut.run = omega (arith, whole) in
    ap (λ l. byte_places l ++ (gap_places cut.gap ++ byte_places (drop cut.run bytes))) (take_all cut.run bytes all)
    ∙ ap (λ l. byte_places bytes ++ (gap_places cut.gap ++ byte_places l)) (none (drop cut.run bytes) (omega (arith, all, length-drop cut.run bytes)))
    ∙ ap (λ l. byte_places bytes ++ l) (append-nil (gap_places cut.gap))
  where
    none : (l : List ℕ) → length l ≡ 0 → l ≡ []
    none [] is = refl
    none (x ∷ l) is = absurd (omega (arith, is))
places_cut-gap bytes (first ∷ cuts) cut whole =
    let rest : runs_in cuts + cut.run ≡ length (drop first.run bytes) = omega (arith, whole, runs-cons first cuts, length-drop first.run bytes) in
    ap (λ l. byte_places (take first.run bytes) ++ (gap_places first.gap ++ l)) (places_cut-gap (drop first.run bytes) cuts cut rest)
    ∙ same (byte_places (take first.run bytes)) (gap_places first.gap) (places_cut (drop first.run bytes) cuts) (gap_places cut.gap)
  where
    same : (a b c d : List Place) → a ++ (b ++ (c ++ d)) ≡ (a ++ (b ++ c)) ++ d
    same a b c d = ap (λ l. a ++ l) (sym (append_assoc b c d)) ∙ sym (append_assoc a (b ++ c) d)

pub length-places_cut : (bytes : List ℕ) (cuts : List Cut) → runs_in cuts ≤ length bytes → length (places_cut bytes cuts) ≡ gaps_in cuts + length bytes
length-places_cut bytes [] within = omega (arith, length-map {B = Place} bytes (λ byte. Some byte))
length-places_cut bytes (cut ∷ cuts) within =
    let low : cut.run ≤ length bytes = omega (arith, within, runs-cons cut cuts) in
    let behind : runs_in cuts ≤ length (drop cut.run bytes) = omega (arith, within, runs-cons cut cuts, length-drop cut.run bytes) in
    let first : length (byte_places (take cut.run bytes)) ≡ cut.run = length-map {B = Place} (take cut.run bytes) (λ byte. Some byte) ∙ length-take-le cut.run bytes low in
    let gap : length (gap_places cut.gap) ≡ cut.gap = length-replicate {A = Place} cut.gap None in
    let rest = length-places_cut (drop cut.run bytes) cuts behind in
    omega (
      arith,
      first,
      gap,
      rest,
      gaps-cons cut cuts,
      low,
      length-drop cut.run bytes,
      length-append (byte_places (take cut.run bytes)) (gap_places cut.gap ++ places_cut (drop cut.run bytes) cuts),
      length-append (gap_places cut.gap) (places_cut (drop cut.run bytes) cuts),
    )

-- ---- what is passed

-- bytes ahead of the first gap
pub passed_bytes : (n run gap : ℕ) (bytes : List ℕ) (cuts : List Cut) → n ≤ run → run ≤ length bytes
    → places_cut (drop n bytes) (record { run = run - n; gap = gap } ∷ cuts) ≡ drop n (places_cut bytes (record { run = run; gap = gap } ∷ cuts))
passed_bytes n run gap bytes cuts low within =
    let split : n + (run - n) ≡ run = omega (arith, low) in
    let rest = gap_places gap ++ places_cut (drop run bytes) cuts in
    let len : length (byte_places (take run bytes)) ≡ run = length-map {B = Place} (take run bytes) (λ byte. Some byte) ∙ length-take-le run bytes within in
    ap (λ l. byte_places l ++ (gap_places gap ++ places_cut (drop (run - n) (drop n bytes)) cuts))
    (sym (drop-take n (run - n) bytes) ∙ ap (λ m. drop n (take m bytes)) split)
    ∙ ap (λ l. byte_places (drop n (take run bytes)) ++ (gap_places gap ++ places_cut l cuts)) (drop-drop (run - n) n bytes ∙ ap (λ m. drop m bytes) split)
    ∙ ap (λ l. l ++ rest) (sym (drop-map (λ byte. Some byte) n (take run bytes)))
    ∙ sym (drop-append-le n (byte_places (take run bytes)) rest (omega (arith, len, low)))

-- places of a gap that stands first
pub passed_gap : (n gap : ℕ) (bytes : List ℕ) (cuts : List Cut) → n ≤ gap
    → drop n (places_cut bytes (record { run = 0; gap = gap } ∷ cuts)) ≡ gap_places (gap - n) ++ places_cut bytes cuts
passed_gap n gap bytes cuts low =
    drop-append-le n (gap_places gap) (places_cut bytes cuts) (omega (arith, low, length-replicate {A = Place} gap None)) ∙ ap (λ l. l ++ places_cut bytes cuts) (drop-replicate n gap None)

-- the gap behind the first bytes
pub gap_behind : (run gap : ℕ) (bytes : List ℕ) (cuts : List Cut) → run ≤ length bytes
    → take gap (drop run (places_cut bytes (record { run = run; gap = gap } ∷ cuts))) ≡ gap_places gap
gap_behind run gap bytes cuts within =
    let rest = places_cut (drop run bytes) cuts in
    let len : length (byte_places (take run bytes)) ≡ run = length-map {B = Place} (take run bytes) (λ byte. Some byte) ∙ length-take-le run bytes within in
    let none : drop run (byte_places (take run bytes)) ≡ [] = empty (drop run (byte_places (take run bytes))) (omega (arith, len, length-drop run (byte_places (take run bytes)))) in
    ap (take gap) (drop-append-le run (byte_places (take run bytes)) (gap_places gap ++ rest) (omega (arith, len)) ∙ ap (λ l. l ++ (gap_places gap ++ rest)) none)
    ∙ take-append-le gap (gap_places gap) rest (omega (arith, length-replicate {A = Place} gap None)) ∙ take_all gap (gap_places gap) (omega (arith, length-replicate {A = Place} gap None))
  where
    empty : (l : List Place) → length l ≡ 0 → l ≡ []
    empty [] is = refl
    empty (x ∷ l) is = absurd (omega (arith, is))

-- ---- places that were passed

pub run-drop : (n : ℕ) (places : List Place) → n ≤ length (bytes_before_gap places) → bytes_before_gap (drop n places) ≡ drop n (bytes_before_gap places)
run-drop zero places low = refl
run-drop (suc n) [] low = refl
run-drop (suc n) (None ∷ places) low = absurd (omega (arith, low))
run-drop (suc n) (Some byte ∷ places) low = run-drop n places (omega (arith, low))

pub run-within : (places : List Place) → length (bytes_before_gap places) ≤ length places
run-within [] = omega arith
run-within (None ∷ places) = omega arith
run-within (Some byte ∷ places) = omega (arith, run-within places)

-- ---- how many bytes there are

bytes-append : (xs ys : List Place) → bytes_in (xs ++ ys) ≡ bytes_in xs + bytes_in ys
bytes-append xs ys = sum_by-append (λ place. cond (is_some place) 1 0) xs ys

bytes-places : (bytes : List ℕ) → bytes_in (byte_places bytes) ≡ length bytes
bytes-places [] = refl
bytes-places (byte ∷ bytes) = omega (arith, bytes-append (Some byte ∷ []) (byte_places bytes), bytes-places bytes)

bytes-gap : (n : ℕ) → bytes_in (gap_places n) ≡ 0
bytes-gap zero = refl
bytes-gap (suc n) = bytes-append (None ∷ []) (gap_places n) ∙ (let same : bytes_in (gap_places n) ≡ 0 = bytes-gap n in omega (arith, same))

-- cuts take no bytes away
pub bytes-cut : (bytes : List ℕ) (cuts : List Cut) → bytes_in (places_cut bytes cuts) ≡ length bytes
bytes-cut bytes [] = bytes-places bytes
bytes-cut bytes (cut ∷ cuts) =
    let front = take cut.run bytes in
    let rest = drop cut.run bytes in
    omega (
      arith,
      bytes-append (byte_places front) (gap_places cut.gap ++ places_cut rest cuts),
      bytes-append (gap_places cut.gap) (places_cut rest cuts),
      bytes-places front,
      bytes-gap cut.gap,
      bytes-cut rest cuts,
      ap length (take-append-drop cut.run bytes),
      length-append front rest,
    )

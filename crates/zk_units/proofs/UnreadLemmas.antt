-- The places that were not used, by the fields that hold them.
use Rattle.std.proofs.Common.{◌≡◌, ℕ, zero, suc, ◌+◌, ◌-◌, ◌<◌, ◌≤◌, ◌==◌, true, false, cond, List, [], ◌∷◌, ◌++◌, length, take, drop, Some, All, OnErr, Result, Ok, Err, refl, sym, ap, subst, ◌∙◌, arith}
use Rattle.std.proofs.lemmas.Grind.{common_steps}
use Rattle.std.proofs.lemmas.List.{drop-map, length-map, length-take-le, map-append}
use Rattle.zk_base.specs.ByteQueue.{bytes_of}
use Rattle.zk_base.specs.Places.{Place, bytes_before_gap}
use Rattle.zk_units.specs.declared.unread.Cut.{Cut}
use Rattle.zk_units.specs.declared.unread.Unread.{Unread}
use Rattle.zk_units.specs.Cuts.{byte_places, gap_places, gaps_in, places_cut, runs_in}
use Rattle.zk_units.specs.Unread.{places_of, run_of}
use Rattle.zk_units.proofs.CutLemmas.{gap_behind, gaps-cons, length-places_cut, passed_bytes, passed_gap, places_cut-bytes, places_cut-gap, run-all, run-cut, runs-cons}

pub none_of : {A : Type 0} (l : List A) → length l ≡ 0 → l ≡ []
none_of [] is = refl
none_of (x ∷ l) is = absurd (omega (arith, is))

abbrev pub first_cut : Unread → Cut
first_cut u = record { run = u.run; gap = u.gap }

pub places-uncut : (u : Unread) → u.gap ≡ 0 → places_of u ≡ byte_places (bytes_of u.bytes)
unfolding places_of
places-uncut u none = ap (λ b. places_cut (bytes_of u.bytes) (cond b [] (first_cut u ∷ u.cuts.items))) (let e : (u.gap == 0) ≡ true = grind (arith, common_steps) in e)

pub places-cut : (u : Unread) → 0 < u.gap → places_of u ≡ places_cut (bytes_of u.bytes) (first_cut u ∷ u.cuts.items)
unfolding places_of
places-cut u some = ap (λ b. places_cut (bytes_of u.bytes) (cond b [] (first_cut u ∷ u.cuts.items))) (let e : (u.gap == 0) ≡ false = grind (arith, common_steps) in e)

pub either_way : (u : Unread) (P : Type 0) → (u.gap ≡ 0 → P) → (0 < u.gap → P) → P
either_way u P none some = by_gap u.gap refl
  where
    by_gap : (n : ℕ) → u.gap ≡ n → P
    by_gap zero is = none is
    by_gap (suc n) is = some (omega (arith, is))

pub uncut_tail : (u : Unread) → u.gap ≡ 0 → u.tail ≡ length (bytes_of u.bytes)
uncut_tail u none =
    let cuts = none_of u.cuts.items (omega (arith, u.uncut none)) in
    omega (arith, u.whole, u.uncut none, ap runs_in cuts)

runs_within : (u : Unread) → runs_in (first_cut u ∷ u.cuts.items) ≤ length (bytes_of u.bytes)
runs_within u = omega (arith, u.whole, runs-cons (first_cut u) u.cuts.items)

pub length-places : (u : Unread) → length (places_of u) ≡ u.gaps + length (bytes_of u.bytes)
length-places u = either_way u (length (places_of u) ≡ u.gaps + length (bytes_of u.bytes))
    (λ none.
    let cuts = none_of u.cuts.items (omega (arith, u.uncut none)) in
    omega (arith, ap length (places-uncut u none), length-map {B = Place} (bytes_of u.bytes) (λ byte. Some byte), u.counted, none, ap gaps_in cuts))
    (λ some.
    omega (arith, ap length (places-cut u some), length-places_cut (bytes_of u.bytes) (first_cut u ∷ u.cuts.items) (runs_within u), gaps-cons (first_cut u) u.cuts.items, u.counted))

pub bytes_within : (u : Unread) → length (bytes_of u.bytes) ≤ length (places_of u)
bytes_within u = omega (arith, length-places u)

-- ---- the run and the gap behind it

pub run-uncut : (u : Unread) → u.gap ≡ 0 → run_of u ≡ bytes_of u.bytes
run-uncut u none = ap bytes_before_gap (places-uncut u none) ∙ run-all (bytes_of u.bytes)

pub run-first : (u : Unread) → 0 < u.gap → run_of u ≡ take u.run (bytes_of u.bytes)
run-first u some = ap bytes_before_gap (places-cut u some) ∙ run-cut (bytes_of u.bytes) (first_cut u) u.cuts.items some

pub run_len : (u : Unread) → 0 < u.gap → length (run_of u) ≡ u.run
run_len u some = ap length (run-first u some) ∙ length-take-le u.run (bytes_of u.bytes) (omega (arith, u.whole))

pub gap_end : (u : Unread) → u.gap ≡ 0 → length (run_of u) ≡ length (places_of u)
gap_end u none = omega (arith, ap length (run-uncut u none), ap length (places-uncut u none), length-map {B = Place} (bytes_of u.bytes) (λ byte. Some byte))

pub gap_stands : (u : Unread) → take u.gap (drop (length (run_of u)) (places_of u)) ≡ gap_places u.gap
gap_stands u = either_way u (take u.gap (drop (length (run_of u)) (places_of u)) ≡ gap_places u.gap)
    (λ none. ap (λ n. take n (drop (length (run_of u)) (places_of u))) none ∙ sym (ap gap_places none))
    (λ some. ap (λ n. take u.gap (drop n (places_of u))) (run_len u some) ∙ ap (λ l. take u.gap (drop u.run l)) (places-cut u some)
    ∙ gap_behind u.run u.gap (bytes_of u.bytes) u.cuts.items (omega (arith, u.whole)))

pub gap_within : (u : Unread) → length (run_of u) + u.gap ≤ length (places_of u)
gap_within u = either_way u (length (run_of u) + u.gap ≤ length (places_of u))
    (λ none. omega (arith, gap_end u none, none))
    (λ some. omega (arith, run_len u some, length-places u, u.whole, u.counted))

-- ---- what is added

pub add-bytes : (old new : Unread) (more : List ℕ) → new.gap ≡ old.gap → new.run ≡ old.run → new.cuts.items ≡ old.cuts.items
    → bytes_of new.bytes ≡ bytes_of old.bytes ++ more → places_of new ≡ places_of old ++ byte_places more
add-bytes old new more gap run cuts bytes = either_way old (places_of new ≡ places_of old ++ byte_places more)
    (λ none. places-uncut new (gap ∙ none) ∙ ap byte_places bytes ∙ map-append (λ byte. Some byte) (bytes_of old.bytes) more ∙ ap (λ l. l ++ byte_places more) (sym (places-uncut old none)))
    (λ some. places-cut new (omega (arith, gap, some)) ∙ ap (λ l. places_cut l (first_cut new ∷ new.cuts.items)) bytes
    ∙ ap (λ c. places_cut (bytes_of old.bytes ++ more) (c ∷ new.cuts.items)) (same_cut new.run old.run new.gap old.gap run gap)
    ∙ ap (λ c. places_cut (bytes_of old.bytes ++ more) (first_cut old ∷ c)) cuts
    ∙ places_cut-bytes (bytes_of old.bytes) more (first_cut old ∷ old.cuts.items) (runs_within old)
    ∙ ap (λ l. l ++ byte_places more) (sym (places-cut old some)))
  where
    same_cut : (a b c d : ℕ) → a ≡ b → c ≡ d → (let r : Cut = record { run = a; gap = c } in r) ≡ (let r : Cut = record { run = b; gap = d } in r)
    same_cut a b c d first second = cc

pub add-first_gap : (old new : Unread) (n : ℕ) → old.gap ≡ 0 → 0 < n → new.gap ≡ n → new.run ≡ old.tail → new.cuts.items ≡ old.cuts.items
    → bytes_of new.bytes ≡ bytes_of old.bytes → places_of new ≡ places_of old ++ gap_places n
add-first_gap old new n none some gap run cuts bytes =
    let no_cuts : new.cuts.items ≡ [] = cuts ∙ none_of old.cuts.items (omega (arith, old.uncut none)) in
    places-cut new (omega (arith, gap, some)) ∙ ap (λ l. places_cut l (first_cut new ∷ new.cuts.items)) bytes
    ∙ ap (λ c. places_cut (bytes_of old.bytes) (first_cut new ∷ c)) no_cuts
    ∙ places_cut-gap (bytes_of old.bytes) [] (first_cut new) (omega (arith, run, uncut_tail old none))
    ∙ ap (λ l. byte_places (bytes_of old.bytes) ++ gap_places l) gap ∙ ap (λ l. l ++ gap_places n) (sym (places-uncut old none))

pub add-gap : (old new : Unread) (n : ℕ) → 0 < old.gap → new.gap ≡ old.gap → new.run ≡ old.run
    → new.cuts.items ≡ old.cuts.items ++ record { run = old.tail; gap = n } ∷ [] → bytes_of new.bytes ≡ bytes_of old.bytes
    → places_of new ≡ places_of old ++ gap_places n
add-gap old new n some gap run cuts bytes =
    places-cut new (omega (arith, gap, some)) ∙ ap (λ l. places_cut l (first_cut new ∷ new.cuts.items)) bytes
    ∙ ap (λ c. places_cut (bytes_of old.bytes) (c ∷ new.cuts.items)) (same_cut new.run old.run new.gap old.gap run gap)
    ∙ ap (λ c. places_cut (bytes_of old.bytes) (first_cut old ∷ c)) cuts
    ∙ places_cut-gap (bytes_of old.bytes) (first_cut old ∷ old.cuts.items) (record { run = old.tail; gap = n }) (omega (arith, old.whole, runs-cons (first_cut old) old.cuts.items))
    ∙ ap (λ l. l ++ gap_places n) (sym (places-cut old some))
  where
    same_cut : (a b c d : ℕ) → a ≡ b → c ≡ d → (let r : Cut = record { run = a; gap = c } in r) ≡ (let r : Cut = record { run = b; gap = d } in r)
    same_cut a b c d first second = cc

-- ---- what is passed

pub pass-uncut : (old new : Unread) (n : ℕ) → old.gap ≡ 0 → new.gap ≡ 0 → bytes_of new.bytes ≡ drop n (bytes_of old.bytes) → places_of new ≡ drop n (places_of old)
pass-uncut old new n none gap bytes =
    places-uncut new gap ∙ ap byte_places bytes ∙ sym (drop-map (λ byte. Some byte) n (bytes_of old.bytes)) ∙ ap (drop n) (sym (places-uncut old none))

pub pass-run : (old new : Unread) (n : ℕ) → 0 < old.gap → n ≤ old.run → new.gap ≡ old.gap → new.run ≡ old.run - n → new.cuts.items ≡ old.cuts.items
    → bytes_of new.bytes ≡ drop n (bytes_of old.bytes) → places_of new ≡ drop n (places_of old)
pass-run old new n some low gap run cuts bytes =
    places-cut new (omega (arith, gap, some)) ∙ ap (λ l. places_cut l (first_cut new ∷ new.cuts.items)) bytes
    ∙ ap (λ c. places_cut (drop n (bytes_of old.bytes)) (c ∷ new.cuts.items)) (same_cut new.run (old.run - n) new.gap old.gap run gap)
    ∙ ap (λ c. places_cut (drop n (bytes_of old.bytes)) (record { run = old.run - n; gap = old.gap } ∷ c)) cuts
    ∙ passed_bytes n old.run old.gap (bytes_of old.bytes) old.cuts.items low (omega (arith, old.whole))
    ∙ ap (drop n) (sym (places-cut old some))
  where
    same_cut : (a b c d : ℕ) → a ≡ b → c ≡ d → (let r : Cut = record { run = a; gap = c } in r) ≡ (let r : Cut = record { run = b; gap = d } in r)
    same_cut a b c d first second = cc

gap_passed : (old : Unread) (n : ℕ) → 0 < old.gap → old.run ≡ 0 → n ≤ old.gap → drop n (places_of old) ≡ gap_places (old.gap - n) ++ places_cut (bytes_of old.bytes) old.cuts.items
gap_passed old n some run low =
    ap (drop n) (places-cut old some ∙ ap (λ r. places_cut (bytes_of old.bytes) (record { run = r; gap = old.gap } ∷ old.cuts.items)) run)
    ∙ passed_gap n old.gap (bytes_of old.bytes) old.cuts.items low

-- some of the gap is left
pub pass-some_gap : (old new : Unread) (n : ℕ) → 0 < old.gap → (0 < n → old.run ≡ 0) → n < old.gap → new.gap ≡ old.gap - n → new.run ≡ old.run → new.cuts.items ≡ old.cuts.items
    → bytes_of new.bytes ≡ bytes_of old.bytes → places_of new ≡ drop n (places_of old)
pass-some_gap old new zero some run low gap new_run cuts bytes =
    places-cut new (omega (arith, gap, some)) ∙ ap (λ l. places_cut l (first_cut new ∷ new.cuts.items)) bytes
    ∙ ap (λ c. places_cut (bytes_of old.bytes) (c ∷ new.cuts.items)) (same_cut new.run old.run new.gap old.gap new_run (omega (arith, gap)))
    ∙ ap (λ c. places_cut (bytes_of old.bytes) (first_cut old ∷ c)) cuts ∙ sym (places-cut old some)
  where
    same_cut : (a b c d : ℕ) → a ≡ b → c ≡ d → (let r : Cut = record { run = a; gap = c } in r) ≡ (let r : Cut = record { run = b; gap = d } in r)
    same_cut a b c d first second = cc
pass-some_gap old new (suc n) some run low gap new_run cuts bytes =
    let none : old.run ≡ 0 = run (omega arith) in
    places-cut new (omega (arith, gap, low)) ∙ ap (λ l. places_cut l (first_cut new ∷ new.cuts.items)) bytes
    ∙ ap (λ c. places_cut (bytes_of old.bytes) (c ∷ new.cuts.items)) (same_cut new.run 0 new.gap (old.gap - suc n) (new_run ∙ none) gap)
    ∙ ap (λ c. places_cut (bytes_of old.bytes) (record { run = 0; gap = old.gap - suc n } ∷ c)) cuts
    ∙ sym (gap_passed old (suc n) some none (omega (arith, low)))
  where
    same_cut : (a b c d : ℕ) → a ≡ b → c ≡ d → (let r : Cut = record { run = a; gap = c } in r) ≡ (let r : Cut = record { run = b; gap = d } in r)
    same_cut a b c d first second = cc

-- the whole gap is passed, and another one stands behind it
pub pass-to_next : (old new : Unread) (n : ℕ) (cut : Cut) → 0 < old.gap → old.run ≡ 0 → n ≡ old.gap → 0 < cut.gap → old.cuts.items ≡ cut ∷ new.cuts.items → new.run ≡ cut.run
    → new.gap ≡ cut.gap → bytes_of new.bytes ≡ bytes_of old.bytes → places_of new ≡ drop n (places_of old)
pass-to_next old new n cut some run all more cuts new_run new_gap bytes =
    places-cut new (omega (arith, new_gap, more)) ∙ ap (λ l. places_cut l (first_cut new ∷ new.cuts.items)) bytes
    ∙ ap (λ c. places_cut (bytes_of old.bytes) (c ∷ new.cuts.items)) (same_cut new.run cut.run new.gap cut.gap new_run new_gap)
    ∙ ap (places_cut (bytes_of old.bytes)) (sym cuts)
    ∙ sym (gap_passed old n some run (omega (arith, all)) ∙ ap (λ m. gap_places m ++ places_cut (bytes_of old.bytes) old.cuts.items) (let e : old.gap - n ≡ 0 = omega (arith, all) in e))
  where
    same_cut : (a b c d : ℕ) → a ≡ b → c ≡ d → (let r : Cut = record { run = a; gap = c } in r) ≡ (let r : Cut = record { run = b; gap = d } in r)
    same_cut a b c d first second = cc

-- the last gap is passed
pub pass-last : (old new : Unread) (n : ℕ) → 0 < old.gap → old.run ≡ 0 → n ≡ old.gap → old.cuts.items ≡ [] → new.gap ≡ 0 → bytes_of new.bytes ≡ bytes_of old.bytes
    → places_of new ≡ drop n (places_of old)
pass-last old new n some run all cuts new_gap bytes =
    places-uncut new new_gap ∙ ap byte_places bytes ∙ ap (places_cut (bytes_of old.bytes)) (sym cuts)
    ∙ sym (gap_passed old n some run (omega (arith, all)) ∙ ap (λ m. gap_places m ++ places_cut (bytes_of old.bytes) old.cuts.items) (let e : old.gap - n ≡ 0 = omega (arith, all) in e))

-- the first of the later gaps
pub first_gap : (u : Unread) (cut : Cut) (rest : List Cut) → u.cuts.items ≡ cut ∷ rest → All (λ (c : Cut). 0 < c.gap) (cut ∷ rest)
first_gap u cut rest is = subst (All (λ (c : Cut). 0 < c.gap)) is u.filled

pub later_gaps : (cut : Cut) (rest : List Cut) → All (λ (c : Cut). 0 < c.gap) (cut ∷ rest) → All (λ (c : Cut). 0 < c.gap) rest
later_gaps cut rest all = λ k d low. all (suc k) d (omega (arith, low))

-- the same fields hold the same places
pub same-places : (old new : Unread) → new.gap ≡ old.gap → new.run ≡ old.run → new.cuts.items ≡ old.cuts.items → bytes_of new.bytes ≡ bytes_of old.bytes → places_of new ≡ places_of old
same-places old new gap run cuts bytes = either_way old (places_of new ≡ places_of old)
    (λ none. places-uncut new (gap ∙ none) ∙ ap byte_places bytes ∙ sym (places-uncut old none))
    (λ some. places-cut new (omega (arith, gap, some)) ∙ ap (λ l. places_cut l (first_cut new ∷ new.cuts.items)) bytes
    ∙ ap (λ c. places_cut (bytes_of old.bytes) (c ∷ new.cuts.items)) (same_cut new.run old.run new.gap old.gap run gap)
    ∙ ap (λ c. places_cut (bytes_of old.bytes) (first_cut old ∷ c)) cuts ∙ sym (places-cut old some))
  where
    same_cut : (a b c d : ℕ) → a ≡ b → c ≡ d → (let r : Cut = record { run = a; gap = c } in r) ≡ (let r : Cut = record { run = b; gap = d } in r)
    same_cut a b c d first second = cc

pub on_both : {A E P Q : Type 0} (r : Result A E) → P → Q → OnErr r (P × Q)
on_both (Ok a) p q = tt
on_both (Err e) p q = (p, q)

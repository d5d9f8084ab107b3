-- What the places that follow a head come to, part by part.
use Rattle.std.proofs.Common.{◌≡◌, ℕ, zero, suc, ◌+◌, ◌-◌, ◌<◌, ◌≤◌, Bool, true, false, cond, List, [], ◌∷◌, ◌++◌, length, take, drop, replicate, None, Some, refl, sym, ap, subst, ◌∙◌, arith, length-append}
use Rattle.std.proofs.lemmas.List.{drop-drop}
use Rattle.std.proofs.Math.Seq.{take-length, drop-length}
use Rattle.zk_base.specs.Places.{Place, gaps}
use Rattle.zk_http.specs.declared.state.Part.{Part}
use Rattle.zk_http.specs.declared.state.Part.TheVariants.{Places, ToEnd, Chunk, Return}
use Rattle.zk_http.specs.declared.state.Reading.{Reading}
use Rattle.zk_http.specs.declared.units.Reason.{Reason}
use Rattle.zk_http.specs.declared.units.Reason.TheVariants.{Gap}
use Rattle.zk_http.specs.declared.units.UnitKind.{UnitKind}
use Rattle.zk_http.specs.declared.units.UnitKind.TheVariants as what
use Rattle.zk_http.specs.Chunks.{Amount, chunked, line_break, more}
use Rattle.zk_http.specs.Reading.{KnowsIn, amount_of, done, done_behind, means, means_in}
use Rattle.zk_http.specs.Reads.{Answer, Waits, Gives, Refuses, Reads, later, ◌>>=◌, gives, any_places}
use Rattle.zk_http.specs.Turns.{AreAlike, Goes, Shows, ShowsNothing, places_of}
use Rattle.zk_http.specs.Units.{unit_at}
use Rattle.zk_http.proofs.FollowLaws.{gaps-append, later_later, goes_then, given_then, refused_then, waits_then, places_pass, places_there, places_wait, no_gaps, take-places}

-- ---- forms of what a reading means

-- what a reading of this part means
pub means_is : (reading : Reading) (part : Part) (ended : Bool) → reading.part ≡ part → means reading ended ≡ means_in part reading ended
means_is reading part ended is = ap (λ part. means_in part reading ended) is

-- a form that is given whole shows its unit
pub shown_given : (reading : Reading) (part : Part) (ended : Bool) (places : List Place) (n from : ℕ) (kind : UnitKind) → reading.part ≡ part
    → means_in part reading ended places ≡ Gives n kind → unit_at from (means reading ended places) ≡ Some (record { place = from + n; what = kind })
shown_given reading part ended places n from kind is gives_is = ap (λ read. unit_at from (read places)) (means_is reading part ended is) ∙ ap (unit_at from) gives_is

pub shown_refused : (reading : Reading) (part : Part) (ended : Bool) (places : List Place) (n from : ℕ) (why : Reason) → reading.part ≡ part
    → means_in part reading ended places ≡ Refuses n why → unit_at from (means reading ended places) ≡ Some (record { place = from + n; what = what.Violation why })
shown_refused reading part ended places n from why is refuses_is = ap (λ read. unit_at from (read places)) (means_is reading part ended is) ∙ ap (unit_at from) refuses_is

pub goes_on : (old new : Reading) (was part : Part) (ended : Bool) (n : ℕ) (places behind : List Place) → old.part ≡ was → new.part ≡ part
    → means_in was old ended (places ++ behind) ≡ later n (means_in part new ended (drop n places ++ behind))
    → means old ended (places ++ behind) ≡ later n (means new ended (drop n places ++ behind))
goes_on old new was part ended n places behind is then goes =
    ap (λ read. read (places ++ behind)) (means_is old was ended is) ∙ goes ∙ ap (λ read. later n (read (drop n places ++ behind))) (sym (means_is new part ended then))

pub shows_as : (reading : Reading) (told : Bool) (n : ℕ) (kind again : UnitKind) (places : List Place) → again ≡ kind
    → Shows reading told n kind places → Shows reading told n again places
shows_as reading told n kind again places same shows = subst (λ kind. Shows reading told n kind places) (sym same) shows

-- ---- places that are all gaps, or all bytes

pub bytes_alike : (bytes : List ℕ) → AreAlike false (places_of bytes)
bytes_alike bytes n le = ap gaps (take-places n bytes) ∙ no_gaps (take n bytes)

all_taken : (places : List Place) (is_gap : Bool) → AreAlike is_gap places → gaps places ≡ cond is_gap (length places) 0
all_taken places is_gap alike = sym (ap gaps (take-length places)) ∙ alike (length places) (omega arith)

-- ---- a body of known length

pub places_show : (reading : Reading) (told : Bool) (left : ℕ) (is_gap : Bool) (places : List Place) → reading.part ≡ Places left
    → AreAlike is_gap places → left ≤ length places
    → Shows reading told left (what.Done (reading.body + left) reading.header (reading.gap + cond is_gap left 0)) places
places_show reading told left is_gap places is alike le ended behind from ends =
    shown_given reading (Places left) ended (places ++ behind) left from _ is
    (given_then (any_places left) (done_behind reading left) (gaps (take left places)) left places behind le (places_there left places behind le)
    ∙ ap (λ n. Gives n (what.Done (reading.body + left) reading.header (reading.gap + gaps (take left places)))) (none left)
    ∙ ap (λ gap. Gives left (what.Done (reading.body + left) reading.header (reading.gap + gap))) (alike left le))
  where
    none : (n : ℕ) → n + 0 ≡ n
    none n = omega arith

pub places_go : (old new : Reading) (left : ℕ) (is_gap : Bool) (places : List Place) → old.part ≡ Places left
    → AreAlike is_gap places → length places < left
    → new ≡ record { part = Places (left - length places); header = old.header; body = old.body + length places; gap = old.gap + cond is_gap (length places) 0 }
    → Goes old new (length places) places
places_go old new left is_gap places is alike fewer new_is = record {
  by = λ ended behind.
      let rest = left - length places in
      let whole : left ≡ length places + rest = omega arith in
      goes_on old new (Places left) (Places rest) ended (length places) places behind is (ap (λ reading. reading.part) new_is)
      (ap (λ left. (any_places left >>= done_behind old left) (places ++ behind)) whole
      ∙ places_pass rest (done_behind old (length places + rest)) (done_behind new rest) places behind (same rest)
      ∙ ap (λ all. later (length places) ((any_places rest >>= done_behind new rest) (all ++ behind))) (sym (drop-length places)));
  knows = subst (λ reading. KnowsIn reading.part (drop (length places) places)) (sym new_is) tt;
}
  where
    same : (rest gap : ℕ) (others : List Place) → done_behind old (length places + rest) (gaps places + gap) others ≡ done_behind new rest gap others
    same rest gap others =
        let body : old.body + (length places + rest) ≡ (old.body + length places) + rest = omega arith in
        let gap_is : old.gap + (gaps places + gap) ≡ (old.gap + cond is_gap (length places) 0) + gap = omega (arith, all_taken places is_gap alike) in
        ap (λ n. Gives 0 (what.Done n old.header (old.gap + (gaps places + gap)))) body
        ∙ ap (λ n. Gives 0 (what.Done ((old.body + length places) + rest) old.header n)) gap_is
        ∙ ap (λ (reading : Reading). Gives 0 (what.Done (reading.body + rest) reading.header (reading.gap + gap))) (sym new_is)

places_stop : (reading : Reading) (told : Bool) (left : ℕ) → reading.part ≡ Places left → 0 < left → ShowsNothing reading told []
places_stop reading told left is some ended ends =
    ap (λ read. read []) (means_is reading (Places left) ended is)
    ∙ waits_then (any_places left) (done_behind reading left) 0 [] (places_wait left [] some)

pub places_turn : (old new : Reading) (told : Bool) (left n : ℕ) (is_gap : Bool) (places : List Place) → old.part ≡ Places left
    → AreAlike is_gap places → length places ≡ n → n < left
    → new ≡ record { part = Places (left - n); header = old.header; body = old.body + n; gap = old.gap + cond is_gap n 0 }
    → Goes old new n places × ShowsNothing new told (drop n places)
places_turn old new told left n is_gap places is alike count fewer new_is =
    let P : ℕ → Type 0 = λ n. n < left
    → new ≡ record { part = Places (left - n); header = old.header; body = old.body + n; gap = old.gap + cond is_gap n 0 }
    → Goes old new n places × ShowsNothing new told (drop n places) in
    let here : P (length places) = λ fewer new_is. (
      places_go old new left is_gap places is alike fewer new_is,
      subst (λ all. ShowsNothing new told all) (sym (drop-length places))
          (places_stop new told (left - length places) (ap (λ reading. reading.part) new_is) (omega arith)),
    ) in
    subst P count here fewer new_is

-- ---- a body up to the end of the stream

to_end_goes : (old new : Reading) (n : ℕ) (ended : Bool) (places behind : List Place) → length places ≡ n
    → new ≡ record { part = ToEnd; header = old.header; body = old.body + n; gap = old.gap + gaps places }
    → means_in ToEnd old ended (places ++ behind) ≡ later n (means_in ToEnd new ended behind)
to_end_goes old new n false places behind count new_is =
    let all : length (places ++ behind) ≡ n + length behind = omega (arith, length-append places behind) in
    ap (λ used. Waits used) all
to_end_goes old new n true places behind count new_is =
    let all : length (places ++ behind) ≡ n + length behind = omega (arith, length-append places behind) in
    let used : length (places ++ behind) + 0 ≡ n + (length behind + 0) = omega (arith, length-append places behind) in
    let body : old.body + length (places ++ behind) ≡ (old.body + n) + length behind = omega (arith, length-append places behind) in
    let gap : old.gap + gaps (places ++ behind) ≡ (old.gap + gaps places) + gaps behind = omega (arith, gaps-append places behind) in
    ap (λ used. Gives used (what.Done (old.body + length (places ++ behind)) old.header (old.gap + gaps (places ++ behind)))) used
    ∙ ap (λ n'. Gives (n + (length behind + 0)) (what.Done n' old.header (old.gap + gaps (places ++ behind)))) body
    ∙ ap (λ gap. Gives (n + (length behind + 0)) (what.Done ((old.body + n) + length behind) old.header gap)) gap
    ∙ ap (λ (reading : Reading). Gives (n + (length behind + 0)) (what.Done (reading.body + length behind) reading.header (reading.gap + gaps behind))) (sym new_is)

pub to_end_turn : (old new : Reading) (told : Bool) (n : ℕ) (is_gap : Bool) (places : List Place) → old.part ≡ ToEnd
    → AreAlike is_gap places → length places ≡ n → told ≡ false
    → new ≡ record { part = ToEnd; header = old.header; body = old.body + n; gap = old.gap + cond is_gap n 0 }
    → Goes old new n places × ShowsNothing new told (drop n places)
to_end_turn old new told n is_gap places is alike count going new_is = (
  record {
    by = λ ended behind.
        goes_on old new ToEnd ToEnd ended n places behind is then
        (to_end_goes old new n ended places behind count (new_is ∙ ap (λ gap. record { part = ToEnd; header = old.header; body = old.body + n; gap = old.gap + gap }) counted)
        ∙ ap (λ all. later n (means_in ToEnd new ended (all ++ behind))) (sym none));
    knows = subst (λ reading. KnowsIn reading.part (drop n places)) (sym new_is) tt;
  },
  λ ended ends. ap (λ read. read (drop n places)) (means_is new ToEnd ended then) ∙ waits ended ends,
)
  where
    then : new.part ≡ ToEnd
    then = ap (λ reading. reading.part) new_is

    none : drop n places ≡ []
    none = ap (λ n. drop n places) (sym count) ∙ drop-length places

    counted : cond is_gap n 0 ≡ gaps places
    counted = sym (all_taken places is_gap alike ∙ ap (λ n. cond is_gap n 0) count)

    waits : (ended : Bool) → (ended ≡ true → told ≡ true) → means_in ToEnd new ended (drop n places) ≡ Waits 0
    waits false ends = ap (λ places. means_in ToEnd new false places) none
    waits true ends = let both = ends refl in absurd cc

-- ---- a chunk

-- what follows the data of a chunk
abbrev behind_chunk : Reading → ℕ → ℕ → Reads Amount
behind_chunk reading left gaps = line_break >>= λ _. chunked (more left gaps (amount_of reading))

abbrev amount_done : Reading → Amount → Reads UnitKind
amount_done reading amount = gives (what.Done amount.body reading.header amount.gap)

amount_same : (body again gap gaps : ℕ) → body ≡ again → gap ≡ gaps → ◌≡◌ {A = Amount} (record { body = body; gap = gap }) (record { body = again; gap = gaps })
amount_same body again gap gaps body_is gap_is =
    ap (λ body. record { body = body; gap = gap }) body_is ∙ ap (λ gap. record { body = again; gap = gap }) gap_is

pub chunk_turn : (old new : Reading) (told : Bool) (left n : ℕ) (is_gap : Bool) (places : List Place) → old.part ≡ Chunk left
    → AreAlike is_gap places → length places ≡ n → n < left
    → new ≡ record { part = Chunk (left - n); header = old.header; body = old.body + n; gap = old.gap + cond is_gap n 0 }
    → Goes old new n places × ShowsNothing new told (drop n places)
chunk_turn old new told left n is_gap places is alike count fewer new_is = (
  record {
    by = λ ended behind.
        goes_on old new (Chunk left) (Chunk rest) ended n places behind is then
        (goes_then (any_places left >>= behind_chunk old left) (any_places rest >>= behind_chunk new rest) (amount_done old) n places behind (omega arith)
        (passed behind) ∙ ap (λ header. later n (done header (any_places rest >>= behind_chunk new rest) (drop n places ++ behind))) header);
    knows = subst (λ reading. KnowsIn reading.part (drop n places)) (sym new_is) tt;
  },
  λ ended ends. ap (λ places. means new ended places) none ∙ ap (λ read. read []) (means_is new (Chunk rest) ended then)
      ∙ waits_then (any_places rest >>= behind_chunk new rest) (amount_done new) 0 []
      (waits_then (any_places rest) (behind_chunk new rest) 0 [] (places_wait rest [] (omega arith))),
)
  where
    none : drop n places ≡ []
    none = ap (λ n. drop n places) (sym count) ∙ drop-length places

    rest : ℕ
    rest = left - n

    then : new.part ≡ Chunk rest
    then = ap (λ reading. reading.part) new_is

    header : old.header ≡ new.header
    header = sym (ap (λ reading. reading.header) new_is)

    same : (gap : ℕ) (others : List Place) → behind_chunk old (n + rest) (gaps places + gap) others ≡ behind_chunk new rest gap others
    same gap others =
        let body : old.body + (n + rest) ≡ new.body + rest = omega (arith, ap (λ (reading : Reading). reading.body) new_is) in
        let counted : gaps places ≡ cond is_gap n 0 = all_taken places is_gap alike ∙ ap (λ n. cond is_gap n 0) count in
        let gap_is : old.gap + (gaps places + gap) ≡ new.gap + gap = omega (arith, counted, ap (λ (reading : Reading). reading.gap) new_is) in
        ap (λ amount. (line_break >>= λ _. chunked amount) others) (amount_same _ _ _ _ body gap_is)

    passed : (behind : List Place) → (any_places left >>= behind_chunk old left) (places ++ behind)
        ≡ later n ((any_places rest >>= behind_chunk new rest) (drop n places ++ behind))
    passed behind =
        let whole : left ≡ n + rest = omega arith in
        let P : ℕ → Type 0 = λ m. (any_places (m + rest) >>= behind_chunk old (n + rest)) (places ++ behind) ≡ later m ((any_places rest >>= behind_chunk new rest) behind) in
        let all : drop n places ≡ [] = ap (λ n. drop n places) (sym count) ∙ drop-length places in
        ap (λ left. (any_places left >>= behind_chunk old left) (places ++ behind)) whole
        ∙ subst P count (places_pass rest (behind_chunk old (n + rest)) (behind_chunk new rest) places behind same)
        ∙ ap (λ all. later n ((any_places rest >>= behind_chunk new rest) (all ++ behind))) (sym all)

pub chunk_goes : (old new : Reading) (left : ℕ) (is_gap : Bool) (places : List Place) → old.part ≡ Chunk left
    → AreAlike is_gap places → left ≤ length places
    → new ≡ record { part = Return; header = old.header; body = old.body + left; gap = old.gap + cond is_gap left 0 }
    → Goes old new left places
chunk_goes old new left is_gap places is alike le new_is = record {
  by = λ ended behind.
      goes_on old new (Chunk left) Return ended left places behind is then
      (goes_then (any_places left >>= behind_chunk old left) (line_break >>= λ _. chunked (amount_of new)) (amount_done old) left places behind le
      (given_then (any_places left) (behind_chunk old left) (gaps (take left places)) left places behind le (places_there left places behind le)
      ∙ ap (λ amount. later left ((line_break >>= λ _. chunked amount) (drop left places ++ behind))) amount)
      ∙ ap (λ header. later left (done header (line_break >>= λ _. chunked (amount_of new)) (drop left places ++ behind))) header);
  knows = subst (λ reading. KnowsIn reading.part (drop left places)) (sym new_is) tt;
}
  where
    then : new.part ≡ Return
    then = ap (λ reading. reading.part) new_is

    header : old.header ≡ new.header
    header = sym (ap (λ reading. reading.header) new_is)

    amount : ◌≡◌ {A = Amount} (more left (gaps (take left places)) (amount_of old)) (amount_of new)
    amount =
        amount_same _ _ _ _ (sym (ap (λ (reading : Reading). reading.body) new_is))
        (ap (λ gap. old.gap + gap) (alike left le) ∙ sym (ap (λ (reading : Reading). reading.gap) new_is))

-- ---- a gap

pub length-gap : (n : ℕ) → length (replicate {A = Place} n None) ≡ n
length-gap zero = refl
length-gap (suc n) = ap suc (length-gap n)

gaps-gap : (n : ℕ) → gaps (replicate n None) ≡ n
gaps-gap zero = refl
gaps-gap (suc n) =
    let one : 1 + n ≡ suc n = omega arith in
    gaps-append (None ∷ []) (replicate n None) ∙ ap (λ n. 1 + n) (gaps-gap n) ∙ one

take-gap : (n count : ℕ) → n ≤ count → take n (replicate {A = Place} count None) ≡ replicate n None
take-gap zero count le = refl
take-gap (suc n) zero le = absurd (omega arith)
take-gap (suc n) (suc count) le = ap (λ rest. None ∷ rest) (take-gap n count (omega arith))

pub gap_alike : (count : ℕ) → AreAlike true (replicate count None)
gap_alike count n le = ap gaps (take-gap n count (omega (arith, length-gap count))) ∙ gaps-gap n

-- the places of a gap behind the first of them
gap_behind : (n count : ℕ) → n < count → (rest : List Place) × (drop n (replicate {A = Place} count None) ≡ None ∷ rest)
gap_behind n zero lt = absurd (omega arith)
gap_behind zero (suc count) lt = (replicate count None, refl)
gap_behind (suc n) (suc count) lt = gap_behind n count (omega arith)

pub chunk_gap_shows : (reading : Reading) (told : Bool) (left count : ℕ) → reading.part ≡ Chunk left → left < count
    → Shows reading told (left + 1) (what.Violation Gap) (replicate count None)
chunk_gap_shows reading told left count is lt ended behind from ends =
    let places = replicate {A = Place} count None in
    let rest = gap_behind left count lt in
    let le : left ≤ length places = omega (arith, length-gap count) in
    shown_refused reading (Chunk left) ended (places ++ behind) (left + 1) from Gap is
    (refused_then (any_places left >>= behind_chunk reading left) (amount_done reading) (left + 1) Gap (places ++ behind)
    (given_then (any_places left) (behind_chunk reading left) (gaps (take left places)) left places behind le (places_there left places behind le)
    ∙ ap (λ all. later left (behind_chunk reading left (gaps (take left places)) (all ++ behind))) rest.1))

-- ---- turns one behind another

pub unit_later : (from n : ℕ) (answer : Answer UnitKind) → unit_at from (later n answer) ≡ unit_at (from + n) answer
unit_later from n (Waits used) = refl
unit_later from n (Gives used kind) = let same : from + (n + used) ≡ (from + n) + used = omega arith in ap (λ place. Some (record { place = place; what = kind })) same
unit_later from n (Refuses used why) = let same : from + (n + used) ≡ (from + n) + used = omega arith in ap (λ place. Some (record { place = place; what = what.Violation why })) same

pub goes_along : (old middle new : Reading) (n m : ℕ) (places : List Place) → Goes old middle n places → Goes middle new m (drop n places)
    → Goes old new (n + m) places
goes_along old middle new n m places first second =
    let both = drop-drop m n places in
    record {
      by = λ ended behind.
          first.by ended behind ∙ ap (later n) (second.by ended behind) ∙ later_later n m (means new ended (drop m (drop n places) ++ behind))
          ∙ ap (λ rest. later (n + m) (means new ended (rest ++ behind))) both;
      knows = subst (λ rest. KnowsIn new.part rest) both second.knows;
    }

pub shows_along : (old new : Reading) (told : Bool) (n m : ℕ) (kind : UnitKind) (places : List Place) → Goes old new n places
    → Shows new told m kind (drop n places) → Shows old told (n + m) kind places
shows_along old new told n m kind places goes shows ended behind from ends =
    let same : (from + n) + m ≡ from + (n + m) = omega arith in
    ap (unit_at from) (goes.by ended behind) ∙ unit_later from n (means new ended (drop n places ++ behind)) ∙ shows ended behind (from + n) ends
    ∙ ap (λ place. Some (record { place = place; what = kind })) same

pub nothing_along : (new : Reading) (told : Bool) (n m : ℕ) (places : List Place) → ShowsNothing new told (drop m (drop n places)) → ShowsNothing new told (drop (n + m) places)
nothing_along new told n m places nothing = subst (λ rest. ShowsNothing new told rest) (drop-drop m n places) nothing

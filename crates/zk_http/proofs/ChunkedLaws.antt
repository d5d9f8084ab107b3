-- A chunked body is its first chunk and what follows it, and what its lines and trailer come to.
use Rattle.std.proofs.Common.{◌≡◌, ℕ, zero, suc, ◌+◌, ◌<◌, ◌≤◌, Bool, true, false, cond, List, ◌∷◌, ◌++◌, length, take, drop, Option, None, Some, refl, sym, ap, subst, ◌∙◌, arith, append_assoc, length-take, length-drop}
use Rattle.zk_base.specs.Places.{Place, bytes_before_gap}
use Rattle.zk_http.specs.declared.search.Ending.TheVariants as ending
use Rattle.zk_http.specs.declared.search.Search.{Search}
use Rattle.zk_http.specs.declared.state.Part.{Part}
use Rattle.zk_http.specs.declared.state.Part.TheVariants.{Size, Chunk, Trailer}
use Rattle.zk_http.specs.declared.state.Reading.{Reading}
use Rattle.zk_http.specs.declared.units.Reason.{Reason}
use Rattle.zk_http.specs.declared.units.Reason.TheVariants.{ChunkBad, Gap}
use Rattle.zk_http.specs.declared.units.UnitKind.TheVariants as what
use Rattle.zk_http.specs.Chunks.{Amount, chunk, chunk_line, chunk_line_limit, chunked, chunks, line_break, more, size_of, size_or_bad, trailer}
use Rattle.zk_http.specs.Found.{EndsNowhere}
use Rattle.zk_http.specs.Heads.{head_limit}
use Rattle.zk_http.specs.Lines.{ends_line}
use Rattle.zk_http.specs.Reading.{KnowsIn, amount_of, done, means_in}
use Rattle.zk_http.specs.Reads.{Answer, Waits, Gives, Refuses, Reads, later, and_then, ◌>>=◌, gives, refuses, any_places, not_yet, shortest, through, until}
use Rattle.zk_http.specs.Search.{FindsAt, Knows, KnowsAll}
use Rattle.zk_http.specs.Turns.{Goes, Shows, ShowsNothing, places_of}
use Rattle.zk_http.proofs.FollowLaws.{before_gap-places, given_then, goes_then, later_none, length-places, refused_then, waits_then}
use Rattle.zk_http.proofs.TurnLaws.{goes_on, means_is, shown_given, shown_refused}
use Rattle.zk_http.proofs.ReadLaws.{IsWithin}
use Rattle.zk_http.proofs.UnitLaws.{chunk_line_decides}
use Rattle.zk_http.proofs.UntilLaws.{found_some, knows_nowhere, until_found, until_gap, until_long, until_waits}

-- ---- a body is its first chunk and what follows

-- two forms that follow and give the same of no more places
same_within : {A B : Type 0} (answer : Answer A) (next again : A → Reads B) (places : List Place)
    → ((value : A) (rest : List Place) → length rest ≤ length places → next value rest ≡ again value rest) → and_then answer next places ≡ and_then answer again places
same_within (Waits used) next again places same = refl
same_within (Gives used value) next again places same = ap (later used) (same value (drop used places) (omega (arith, length-drop used places)))
same_within (Refuses used reason) next again places same = refl

chunk_same : (others again : Amount → Reads Amount) (amount : Amount) (size : ℕ) (places : List Place)
    → ((amount : Amount) (rest : List Place) → length rest ≤ length places → others amount rest ≡ again amount rest)
    → chunk others amount size places ≡ chunk again amount size places
chunk_same others again amount zero places same = refl
chunk_same others again amount (suc n) places same =
    same_within (any_places (suc n) places) (λ gaps. line_break >>= λ _. others (more (suc n) gaps amount)) (λ gaps. line_break >>= λ _. again (more (suc n) gaps amount)) places
    (λ gaps rest le. same_within (line_break rest) (λ _. others (more (suc n) gaps amount)) (λ _. again (more (suc n) gaps amount)) rest
    (λ _ behind less. same (more (suc n) gaps amount) behind (omega arith)))

-- a chunk line has at least a byte
line_uses : (places : List Place) (used size : ℕ) → chunk_line places ≡ Gives used size → 0 < used
line_uses places used size is = by_end (shortest ends_line (take chunk_line_limit (bytes_before_gap places))) refl is
  where
    next : List ℕ → Reads ℕ
    next text = size_or_bad (size_of text)

    by_size : (n : ℕ) (found : Option ℕ) (rest : List Place) → 0 < n → later n (size_or_bad found rest) ≡ Gives used size → 0 < used
    by_size n None rest some is = absurd (cc)
    by_size n (Some size) rest some is = let same : n + 0 ≡ used = cc in omega arith

    never : (limit : ℕ) → and_then (not_yet limit ChunkBad places) (λ text. size_or_bad (size_of text)) places ≡ Gives used size → ⊥
    never limit is = by_tests _ _ is
      where
        by_tests : (full gap : Bool)
            → and_then (cond full (Refuses limit ChunkBad) (cond gap (Refuses (length (bytes_before_gap places) + 1) Gap) (Waits 0))) (λ (text : List ℕ). size_or_bad (size_of text)) places
            ≡ Gives used size → ⊥
        by_tests true gap is = cc
        by_tests false true is = cc
        by_tests false false is = cc

    by_end : (found : Option ℕ) → shortest ends_line (take chunk_line_limit (bytes_before_gap places)) ≡ found
        → and_then (through found chunk_line_limit ChunkBad places) (λ text. size_or_bad (size_of text)) places ≡ Gives used size → 0 < used
    by_end None found is = absurd (never chunk_line_limit is)
    by_end (Some n) found is =
        by_size n (size_of (take n (bytes_before_gap places))) (drop n places)
        (found_some ends_line (take chunk_line_limit (bytes_before_gap places)) n refl found) is

line_within : (places : List Place) (used size : ℕ) → chunk_line places ≡ Gives used size → used ≤ length places
line_within places used size is = subst (λ line. IsWithin line (length places)) is (chunk_line_decides.within places)

-- what is left behind a chunk line is less
pub less_behind : (places : List Place) (used size : ℕ) → chunk_line places ≡ Gives used size → length (drop used places) < length places
less_behind places used size is = omega (arith, line_uses places used size is, line_within places used size is, length-drop used places)

-- counts of chunks that are enough agree
agree : (count again : ℕ) (amount : Amount) (places : List Place) → length places < count → length places < again
    → chunks count amount places ≡ chunks again amount places
agree zero again amount places few fewer = absurd (omega arith)
agree (suc count) zero amount places few fewer = absurd (omega arith)
agree (suc count) (suc again) amount places few fewer =
    by_line (chunk_line places) refl (λ amount rest less lesser. agree count again amount rest less lesser)
  where
    by_line : (line : Answer ℕ) → chunk_line places ≡ line
        → ((amount : Amount) (rest : List Place) → length rest < count → length rest < again → chunks count amount rest ≡ chunks again amount rest)
        → and_then line (chunk (chunks count) amount) places ≡ and_then line (chunk (chunks again) amount) places
    by_line (Waits used) is same = refl
    by_line (Refuses used reason) is same = refl
    by_line (Gives used size) is same =
        let less = less_behind places used size is in
        ap (later used) (chunk_same (chunks count) (chunks again) amount size (drop used places)
        (λ amount rest le. same amount rest (omega arith) (omega arith)))

pub chunked_is : (amount : Amount) (places : List Place) → chunked amount places ≡ (chunk_line >>= chunk chunked amount) places
unfolding chunked
chunked_is amount places =
    let one : length places + 1 ≡ suc (length places) = omega arith in
    ap (λ count. chunks count amount places) one ∙ by_line (chunk_line places) refl
  where
    by_line : (line : Answer ℕ) → chunk_line places ≡ line
        → and_then line (chunk (chunks (length places)) amount) places ≡ and_then line (chunk (λ amount rest. chunks (length rest + 1) amount rest) amount) places
    by_line (Waits used) is = refl
    by_line (Refuses used reason) is = refl
    by_line (Gives used size) is =
        let less = less_behind places used size is in
        ap (later used) (chunk_same (chunks (length places)) (λ amount rest. chunks (length rest + 1) amount rest) amount size (drop used places)
        (λ amount rest le. agree (length places) (length rest + 1) amount rest (omega arith) (omega arith)))

-- ---- a chunk line

-- a line that is there
pub line_there : (search : Search) (bytes : List ℕ) (n size : ℕ) (behind : List Place) → FindsAt search ending.Line (take chunk_line_limit bytes) n
    → size_of (take n bytes) ≡ Some size → chunk_line (places_of bytes ++ behind) ≡ Gives n size
line_there search bytes n size behind finds is =
    let same : n + 0 ≡ n = omega arith in
    ap (λ answer. and_then answer (λ text. size_or_bad (size_of text)) (places_of bytes ++ behind)) (until_found search ending.Line chunk_line_limit ChunkBad bytes n behind finds)
    ∙ ap (λ found. later n (size_or_bad found (drop n (places_of bytes ++ behind)))) is ∙ ap (λ n. Gives n size) same

pub line_bad : (search : Search) (bytes : List ℕ) (n : ℕ) (behind : List Place) → FindsAt search ending.Line (take chunk_line_limit bytes) n
    → size_of (take n bytes) ≡ None → chunk_line (places_of bytes ++ behind) ≡ Refuses n ChunkBad
line_bad search bytes n behind finds is =
    let same : n + 0 ≡ n = omega arith in
    ap (λ answer. and_then answer (λ text. size_or_bad (size_of text)) (places_of bytes ++ behind)) (until_found search ending.Line chunk_line_limit ChunkBad bytes n behind finds)
    ∙ ap (λ found. later n (size_or_bad found (drop n (places_of bytes ++ behind)))) is ∙ ap (λ n. Refuses n ChunkBad) same

found_within : (search : Search) (limit : ℕ) (bytes : List ℕ) (n : ℕ) → FindsAt search ending.Line (take limit bytes) n → n ≤ length (places_of bytes)
found_within search limit bytes n finds = omega (arith, finds.within, length-take limit bytes, length-places bytes)

line_goes : (old new : Reading) (search : Search) (bytes : List ℕ) (n size : ℕ) (behind : List Place) (inner : Reads Amount)
    → FindsAt search ending.Line (take chunk_line_limit bytes) n → size_of (take n bytes) ≡ Some size
    → old.header ≡ new.header → inner ≡ chunk chunked (amount_of old) size
    → done old.header (chunked (amount_of old)) (places_of bytes ++ behind) ≡ later n (done new.header inner (drop n (places_of bytes) ++ behind))
line_goes old new search bytes n size behind inner finds is header inner_is =
    let le = found_within search chunk_line_limit bytes n finds in
    goes_then (chunked (amount_of old)) (chunk chunked (amount_of old) size) (λ amount. gives (what.Done amount.body old.header amount.gap)) n (places_of bytes) behind le
    (chunked_is (amount_of old) (places_of bytes ++ behind)
    ∙ given_then chunk_line (chunk chunked (amount_of old)) size n (places_of bytes) behind le (line_there search bytes n size behind finds is))
    ∙ ap (λ inner. later n (done old.header inner (drop n (places_of bytes) ++ behind))) (sym inner_is)
    ∙ ap (λ header. later n (done header inner (drop n (places_of bytes) ++ behind))) header

-- the line of the last chunk
pub last_line_goes : (old new : Reading) (was search fresh : Search) (bytes : List ℕ) (n : ℕ) → old.part ≡ Size was
    → FindsAt search ending.Line (take chunk_line_limit bytes) n → size_of (take n bytes) ≡ Some 0
    → new ≡ record { part = Trailer fresh; header = old.header; body = old.body; gap = old.gap }
    → ((bytes : List ℕ) → Knows fresh ending.Section bytes) → Goes old new n (places_of bytes)
last_line_goes old new was search fresh bytes n is finds size new_is knows = record {
  by = λ ended behind.
      goes_on old new (Size was) (Trailer fresh) ended n (places_of bytes) behind is then
      (line_goes old new search bytes n 0 behind (trailer >>= λ _. gives (amount_of new)) finds size
      (sym (ap (λ reading. reading.header) new_is))
      (ap (λ (reading : Reading). trailer >>= λ _. gives (amount_of reading)) new_is));
  knows = subst (λ part. KnowsIn part (drop n (places_of bytes))) (sym then) (knows _);
}
  where
    then : new.part ≡ Trailer fresh
    then = ap (λ reading. reading.part) new_is

-- the line of another
pub line_goes_on : (old new : Reading) (was search : Search) (bytes : List ℕ) (n size : ℕ) → old.part ≡ Size was
    → FindsAt search ending.Line (take chunk_line_limit bytes) n → 0 < size → size_of (take n bytes) ≡ Some size
    → new ≡ record { part = Chunk size; header = old.header; body = old.body; gap = old.gap } → Goes old new n (places_of bytes)
line_goes_on old new was search bytes n zero is finds some size_is new_is = absurd (omega arith)
line_goes_on old new was search bytes n (suc size) is finds some size_is new_is = record {
  by = λ ended behind.
      goes_on old new (Size was) (Chunk (suc size)) ended n (places_of bytes) behind is then
      (line_goes old new search bytes n (suc size) behind
      (any_places (suc size) >>= λ gaps. line_break >>= λ _. chunked (more (suc size) gaps (amount_of new))) finds size_is
      (sym (ap (λ reading. reading.header) new_is))
      (ap (λ (reading : Reading). any_places (suc size) >>= λ gaps. line_break >>= λ _. chunked (more (suc size) gaps (amount_of reading))) new_is));
  knows = subst (λ part. KnowsIn part (drop n (places_of bytes))) (sym then) tt;
}
  where
    then : new.part ≡ Chunk (suc size)
    then = ap (λ reading. reading.part) new_is

-- a line that is none
line_refused : (reading : Reading) (told : Bool) (was : Search) (places : List Place) (n : ℕ) (why : Reason) → reading.part ≡ Size was
    → ((behind : List Place) → chunk_line (places ++ behind) ≡ Refuses n why) → Shows reading told n (what.Violation why) places
line_refused reading told was places n why is refuses ended behind from ends =
    shown_refused reading (Size was) ended (places ++ behind) n from why is
    (refused_then (chunked (amount_of reading)) (λ amount. gives (what.Done amount.body reading.header amount.gap)) n why (places ++ behind)
    (chunked_is (amount_of reading) (places ++ behind)
    ∙ refused_then chunk_line (chunk chunked (amount_of reading)) n why (places ++ behind) (refuses behind)))

pub bad_line_shows : (reading : Reading) (told : Bool) (was search : Search) (bytes : List ℕ) (n : ℕ) → reading.part ≡ Size was
    → FindsAt search ending.Line (take chunk_line_limit bytes) n → size_of (take n bytes) ≡ None
    → Shows reading told n (what.Violation ChunkBad) (places_of bytes)
bad_line_shows reading told was search bytes n is finds size =
    line_refused reading told was (places_of bytes) n ChunkBad is (λ behind. line_bad search bytes n behind finds size)

pub long_line_shows : (reading : Reading) (told : Bool) (was : Search) (bytes : List ℕ) → reading.part ≡ Size was
    → EndsNowhere ending.Line (take chunk_line_limit bytes) → chunk_line_limit ≤ length bytes
    → Shows reading told chunk_line_limit (what.Violation ChunkBad) (places_of bytes)
long_line_shows reading told was bytes is nowhere long =
    line_refused reading told was (places_of bytes) chunk_line_limit ChunkBad is
    (λ behind. refused_then (until ends_line chunk_line_limit ChunkBad) (λ text. size_or_bad (size_of text)) chunk_line_limit ChunkBad (places_of bytes ++ behind)
    (until_long ending.Line chunk_line_limit ChunkBad bytes behind nowhere long))

pub line_gap_shows : (reading : Reading) (told : Bool) (was search : Search) (bytes : List ℕ) (rest : List Place) → reading.part ≡ Size was
    → KnowsAll search ending.Line (take chunk_line_limit bytes) → length bytes < chunk_line_limit
    → Shows reading told (length bytes + 1) (what.Violation Gap) (places_of bytes ++ None ∷ rest)
line_gap_shows reading told was search bytes rest is knows short =
    line_refused reading told was (places_of bytes ++ None ∷ rest) (length bytes + 1) Gap is
    (λ behind. refused_then (until ends_line chunk_line_limit ChunkBad) (λ text. size_or_bad (size_of text)) (length bytes + 1) Gap ((places_of bytes ++ None ∷ rest) ++ behind)
    (ap (until ends_line chunk_line_limit ChunkBad) (append_assoc (places_of bytes) (None ∷ rest) behind)
    ∙ until_gap ending.Line chunk_line_limit ChunkBad bytes (rest ++ behind) (knows_nowhere search ending.Line (take chunk_line_limit bytes) knows) short))

-- a reading that goes on at the same places
stays : (old new : Reading) (was part : Part) (places : List Place) → old.part ≡ was → new.part ≡ part
    → ((ended : Bool) → means_in was old ended ≡ means_in part new ended) → KnowsIn part places → Goes old new 0 places
stays old new was part places is then same knows = record {
  by = λ ended behind.
      goes_on old new was part ended 0 places behind is then
      (ap (λ read. read (places ++ behind)) (same ended) ∙ sym (later_none (means_in part new ended (places ++ behind))));
  knows = subst (λ part. KnowsIn part places) (sym then) knows;
}

pub line_stays : (old new : Reading) (told : Bool) (was search : Search) (bytes : List ℕ) → old.part ≡ Size was
    → KnowsAll search ending.Line (take chunk_line_limit bytes) → length bytes < chunk_line_limit
    → new ≡ record { part = Size search; header = old.header; body = old.body; gap = old.gap }
    → Goes old new 0 (places_of bytes) × ShowsNothing new told (drop 0 (places_of bytes))
line_stays old new told was search bytes is knows short new_is = (
  stays old new (Size was) (Size search) (places_of bytes) is then
      (λ ended. ap (λ (reading : Reading). done reading.header (chunked (amount_of reading))) (sym new_is))
      (subst (λ all. Knows search ending.Line (take chunk_line_limit all)) (sym (before_gap-places bytes)) knows.1),
  λ ended ends.
      ap (λ read. read (places_of bytes)) (means_is new (Size search) ended then)
      ∙ waits_then (chunked (amount_of new)) (λ amount. gives (what.Done amount.body new.header amount.gap)) 0 (places_of bytes)
      (chunked_is (amount_of new) (places_of bytes)
      ∙ waits_then chunk_line (chunk chunked (amount_of new)) 0 (places_of bytes)
      (waits_then (until ends_line chunk_line_limit ChunkBad) (λ text. size_or_bad (size_of text)) 0 (places_of bytes)
      (until_waits search ending.Line chunk_line_limit ChunkBad bytes knows short))),
)
  where
    then : new.part ≡ Size search
    then = ap (λ reading. reading.part) new_is

-- ---- a trailer

trailer_refused : (reading : Reading) (told : Bool) (was : Search) (places : List Place) (n : ℕ) (why : Reason) → reading.part ≡ Trailer was
    → ((behind : List Place) → trailer (places ++ behind) ≡ Refuses n why) → Shows reading told n (what.Violation why) places
trailer_refused reading told was places n why is refuses ended behind from ends =
    shown_refused reading (Trailer was) ended (places ++ behind) n from why is
    (refused_then (trailer >>= λ _. gives (amount_of reading)) (λ amount. gives (what.Done amount.body reading.header amount.gap)) n why (places ++ behind)
    (refused_then trailer (λ _. gives (amount_of reading)) n why (places ++ behind) (refuses behind)))

pub trailer_shows : (reading : Reading) (told : Bool) (was search : Search) (bytes : List ℕ) (n : ℕ) → reading.part ≡ Trailer was
    → FindsAt search ending.Section (take head_limit bytes) n
    → Shows reading told n (what.Done reading.body reading.header reading.gap) (places_of bytes)
trailer_shows reading told was search bytes n is finds ended behind from ends =
    let le : n ≤ length (places_of bytes) = omega (arith, finds.within, length-take head_limit bytes, length-places bytes) in
    let same : n + (0 + 0) ≡ n = omega arith in
    shown_given reading (Trailer was) ended (places_of bytes ++ behind) n from (what.Done reading.body reading.header reading.gap) is
    (goes_then (trailer >>= λ _. gives (amount_of reading)) (gives (amount_of reading)) (λ amount. gives (what.Done amount.body reading.header amount.gap)) n (places_of bytes) behind le
    (given_then trailer (λ _. gives (amount_of reading)) (take n bytes) n (places_of bytes) behind le (until_found search ending.Section head_limit ChunkBad bytes n behind finds))
    ∙ ap (λ n. Gives n (what.Done reading.body reading.header reading.gap)) same)

pub long_trailer_shows : (reading : Reading) (told : Bool) (was : Search) (bytes : List ℕ) → reading.part ≡ Trailer was
    → EndsNowhere ending.Section (take head_limit bytes) → head_limit ≤ length bytes
    → Shows reading told head_limit (what.Violation ChunkBad) (places_of bytes)
long_trailer_shows reading told was bytes is nowhere long =
    trailer_refused reading told was (places_of bytes) head_limit ChunkBad is (λ behind. until_long ending.Section head_limit ChunkBad bytes behind nowhere long)

pub trailer_gap_shows : (reading : Reading) (told : Bool) (was search : Search) (bytes : List ℕ) (rest : List Place) → reading.part ≡ Trailer was
    → KnowsAll search ending.Section (take head_limit bytes) → length bytes < head_limit
    → Shows reading told (length bytes + 1) (what.Violation Gap) (places_of bytes ++ None ∷ rest)
trailer_gap_shows reading told was search bytes rest is knows short =
    trailer_refused reading told was (places_of bytes ++ None ∷ rest) (length bytes + 1) Gap is
    (λ behind. ap trailer (append_assoc (places_of bytes) (None ∷ rest) behind)
    ∙ until_gap ending.Section head_limit ChunkBad bytes (rest ++ behind) (knows_nowhere search ending.Section (take head_limit bytes) knows) short)

pub trailer_stays : (old new : Reading) (told : Bool) (was search : Search) (bytes : List ℕ) → old.part ≡ Trailer was
    → KnowsAll search ending.Section (take head_limit bytes) → length bytes < head_limit
    → new ≡ record { part = Trailer search; header = old.header; body = old.body; gap = old.gap }
    → Goes old new 0 (places_of bytes) × ShowsNothing new told (drop 0 (places_of bytes))
trailer_stays old new told was search bytes is knows short new_is = (
  stays old new (Trailer was) (Trailer search) (places_of bytes) is then
      (λ ended. ap (λ (reading : Reading). done reading.header (trailer >>= λ _. gives (amount_of reading))) (sym new_is))
      (subst (λ all. Knows search ending.Section (take head_limit all)) (sym (before_gap-places bytes)) knows.1),
  λ ended ends.
      ap (λ read. read (places_of bytes)) (means_is new (Trailer search) ended then)
      ∙ waits_then (trailer >>= λ _. gives (amount_of new)) (λ amount. gives (what.Done amount.body new.header amount.gap)) 0 (places_of bytes)
      (waits_then trailer (λ _. gives (amount_of new)) 0 (places_of bytes)
      (until_waits search ending.Section head_limit ChunkBad bytes knows short)),
)
  where
    then : new.part ≡ Trailer search
    then = ap (λ reading. reading.part) new_is

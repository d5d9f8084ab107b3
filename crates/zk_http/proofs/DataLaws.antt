-- What of the places that follow is the body's, part by part.
use Rattle.std.proofs.Common.{◌≡◌, ℕ, zero, suc, ◌+◌, ◌-◌, ◌<◌, ◌≤◌, Bool, true, false, cond, List, [], ◌∷◌, ◌++◌, length, take, drop, replicate, None, Some, refl, sym, ap, subst, ◌∙◌, arith, append_assoc, length-take, length-drop}
use Rattle.std.proofs.lemmas.List.{append-nil, take-take}
use Rattle.std.proofs.lemmas.List.Elements.{filter_map-append}
use Rattle.std.proofs.Math.Seq.{drop-append-add, drop-append_seam, take-add, take-append-add, take-length}
use Rattle.zk_base.specs.Places.{Place}
use Rattle.zk_http.specs.declared.search.Ending.TheVariants as ending
use Rattle.zk_http.specs.declared.search.Search.{Search}
use Rattle.zk_http.specs.declared.state.Part.{Part}
use Rattle.zk_http.specs.declared.state.Part.TheVariants.{Places, ToEnd, Size, Chunk, Return, Feed, Trailer, Tunnel, Unknown}
use Rattle.zk_http.specs.declared.state.Reading.{Reading}
use Rattle.zk_http.specs.declared.turn.Turn.{Turn}
use Rattle.zk_http.specs.declared.turn.Turn.TheVariants.{On, Waits, Tells}
use Rattle.zk_http.specs.declared.units.Reason.{Reason}
use Rattle.zk_http.specs.declared.units.Reason.TheVariants.{ChunkBad, Gap}
use Rattle.zk_http.specs.BodyBytes.{bytes_at, chunked_data, data_behind, data_left, data_of_chunks, data_of_size}
use Rattle.zk_http.specs.Chunks.{chunk_line, chunk_line_limit, line_break, size_of, size_or_bad}
use Rattle.zk_http.specs.Found.{EndsNowhere}
use Rattle.zk_http.specs.Lines.{ends_line}
use Rattle.zk_http.specs.Reading.{KnowsIn, data_from, data_of_part, is_data}
use Rattle.zk_http.specs.Reads.{Answer, shortest, until}
use Rattle.zk_http.specs.Reads as reads
use Rattle.zk_http.specs.Search.{Counts, FindsAt}
use Rattle.zk_http.specs.Turns.{DataGoes, GoesOnWithData, HasData, places_of, read_in}
use Rattle.zk_http.proofs.ChunkedLaws.{less_behind, line_bad, line_there}
use Rattle.zk_http.proofs.FollowLaws.{length-places, refused_then, take-places}
use Rattle.zk_http.proofs.GapLaws.{gap_first, knows_before, none_left}
use Rattle.zk_http.proofs.UntilLaws.{knows_nowhere, until_gap, until_long}

-- ---- places one behind another

-- what of some places and of all that may come behind them goes on with one rule, and behind further places with another
pub goes_behind : (data_of old new : List Place → List Place) (first others : List Place)
    → ((behind : List Place) → data_of (first ++ behind) ≡ data_of first ++ old behind)
    → ((behind : List Place) → old (others ++ behind) ≡ old others ++ new behind)
    → (behind : List Place) → data_of ((first ++ others) ++ behind) ≡ data_of (first ++ others) ++ new behind
goes_behind data_of old new first others one two behind =
    ap data_of (append_assoc first others behind) ∙ one (others ++ behind) ∙ ap (λ rest. data_of first ++ rest) (two behind)
    ∙ sym (append_assoc (data_of first) (old others) (new behind)) ∙ ap (λ both. both ++ new behind) (sym (one others))

-- ---- what stands behind a form

-- two that say the same of fewer places
behind_same : {A : Type 0} (answer : Answer A) (data_of again : A → List Place → List Place) (places : List Place)
    → ((value : A) (rest : List Place) → length rest ≤ length places → data_of value rest ≡ again value rest)
    → data_behind answer data_of places ≡ data_behind answer again places
behind_same (reads.Waits used) data_of again places same = refl
behind_same (reads.Gives used value) data_of again places same = same value (drop used places) (omega (arith, length-drop used places))
behind_same (reads.Refuses used why) data_of again places same = refl

-- ---- the data of chunks are those of the first and of the others

left_same : (others again : List Place → List Place) (left : ℕ) (places : List Place)
    → ((rest : List Place) → length rest ≤ length places → others rest ≡ again rest)
    → data_left others left places ≡ data_left again left places
left_same others again left places same =
    ap (λ behind. take left places ++ behind)
    (behind_same (line_break (drop left places)) (λ _. others) (λ _. again) (drop left places)
    (λ _ rest le. same rest (omega (arith, length-drop left places))))

size_same : (others again : List Place → List Place) (size : ℕ) (places : List Place)
    → ((rest : List Place) → length rest ≤ length places → others rest ≡ again rest)
    → data_of_size others size places ≡ data_of_size again size places
size_same others again zero places same = refl
size_same others again (suc n) places same = left_same others again (suc n) places same

-- counts of chunks that are enough agree
pub agree : (count again : ℕ) (places : List Place) → length places < count → length places < again
    → data_of_chunks count places ≡ data_of_chunks again places
agree zero again places few fewer = absurd (omega arith)
agree (suc count) zero places few fewer = absurd (omega arith)
agree (suc count) (suc again) places few fewer =
    by_line (chunk_line places) refl (λ rest less lesser. agree count again rest less lesser)
  where
    by_line : (line : Answer ℕ) → chunk_line places ≡ line
        → ((rest : List Place) → length rest < count → length rest < again → data_of_chunks count rest ≡ data_of_chunks again rest)
        → data_behind line (data_of_size (data_of_chunks count)) places ≡ data_behind line (data_of_size (data_of_chunks again)) places
    by_line (reads.Waits used) is same = refl
    by_line (reads.Refuses used why) is same = refl
    by_line (reads.Gives used size) is same =
        let less = less_behind places used size is in
        size_same (data_of_chunks count) (data_of_chunks again) size (drop used places)
        (λ rest le. same rest (omega arith) (omega arith))

pub chunked_data_is : (places : List Place) → chunked_data places ≡ data_behind (chunk_line places) (data_of_size chunked_data) places
unfolding chunked_data
chunked_data_is places =
    let one : length places + 1 ≡ suc (length places) = omega arith in
    ap (λ count. data_of_chunks count places) one ∙ by_line (chunk_line places) refl
  where
    by_line : (line : Answer ℕ) → chunk_line places ≡ line
        → data_behind line (data_of_size (data_of_chunks (length places))) places
        ≡ data_behind line (data_of_size (λ rest. data_of_chunks (length rest + 1) rest)) places
    by_line (reads.Waits used) is = refl
    by_line (reads.Refuses used why) is = refl
    by_line (reads.Gives used size) is =
        let less = less_behind places used size is in
        size_same (data_of_chunks (length places)) (λ rest. data_of_chunks (length rest + 1) rest) size (drop used places)
        (λ rest le. agree (length places) (length rest + 1) rest (omega arith) (omega arith))

-- ---- where nothing follows

pub chunked_none : chunked_data [] ≡ []
unfolding chunked_data shortest
chunked_none = refl

take_none : (n : ℕ) → take {A = Place} n [] ≡ []
take_none zero = refl
take_none (suc n) = refl

drop_none : (n : ℕ) → drop {A = Place} n [] ≡ []
drop_none zero = refl
drop_none (suc n) = refl

left_none : (others : List Place → List Place) (left : ℕ) → data_left others left [] ≡ []
left_none others left =
    ap (λ taken. taken ++ data_behind (line_break (drop left [])) (λ _. others) (drop left [])) (take_none left)
    ∙ ap (λ rest. data_behind (line_break rest) (λ _. others) rest) (drop_none left)

pub from_none : (part : Part) → data_from part [] ≡ []
from_none (Places left) = take_none left
from_none ToEnd = refl
from_none (Size search) = chunked_none
from_none (Chunk left) = left_none chunked_data left
from_none Return = refl
from_none Feed = refl
from_none (Trailer search) = refl
from_none Tunnel = refl
from_none (Unknown why) = refl

-- ---- turns

-- what was read by one part, alone
alone : (old : Part) (new : Reading) (n : ℕ) (places : List Place)
    → ((behind : List Place) → data_from old (take n places ++ behind) ≡ data_of_part old (take n places) ++ data_from new.part behind)
    → data_from old (take n places) ≡ data_of_part old (take n places)
alone old new n places has =
    ap (data_from old) (sym (append-nil (take n places))) ∙ has []
    ∙ ap (λ rest. data_of_part old (take n places) ++ rest) (from_none new.part) ∙ append-nil (data_of_part old (take n places))

pub all_or_none : (old : Part) (places : List Place) (turn : Turn) → HasData old places turn
    → data_from old (take (read_in turn) places) ≡ data_of_part old (take (read_in turn) places)
all_or_none old places (On n new) has = alone old new n places has
all_or_none old places (Waits n new) has = alone old new n places has
all_or_none old places (Tells n what) has = has

pub goes_on_with : (old : Part) (places : List Place) (turn : Turn) → HasData old places turn → GoesOnWithData old places turn
goes_on_with old places (On n new) has = λ behind. has behind ∙ ap (λ first. first ++ data_from new.part behind) (sym (alone old new n places has))
goes_on_with old places (Waits n new) has = λ behind. has behind ∙ ap (λ first. first ++ data_from new.part behind) (sym (alone old new n places has))
goes_on_with old places (Tells n what) has = tt

-- ---- a body by its length

pub places_end : (old : Part) (left : ℕ) (places : List Place) → old ≡ Places left → left ≤ length places
    → data_from old (take left places) ≡ data_of_part old (take left places)
places_end old left places is le = subst (λ old. data_from old (take left places) ≡ data_of_part old (take left places)) (sym is) (take-take left left places (omega arith))

pub places_go_on : (old new : Part) (left n : ℕ) (places : List Place) → old ≡ Places left → length places ≡ n → n < left → new ≡ Places (left - n)
    → (behind : List Place) → data_from old (take n places ++ behind) ≡ data_of_part old (take n places) ++ data_from new behind
places_go_on old new left n places is count fewer then behind =
    let all : take n places ≡ places = ap (λ n. take n places) (sym count) ∙ take-length places in
    let whole : left ≡ length places + (left - n) = omega arith in
    subst (λ old. data_from old (take n places ++ behind) ≡ data_of_part old (take n places) ++ data_from new behind) (sym is)
    (subst (λ new. take left (take n places ++ behind) ≡ take n places ++ data_from new behind) (sym then)
    (subst (λ first. take left (first ++ behind) ≡ first ++ take (left - n) behind) (sym all)
    (ap (λ left. take left (places ++ behind)) whole ∙ take-append-add places behind (left - n))))

-- ---- a chunk

-- behind so many places of it
left_along : (others : List Place → List Place) (left : ℕ) (places behind : List Place)
    → data_left others (length places + left) (places ++ behind) ≡ places ++ data_left others left behind
left_along others left places behind =
    ap (λ taken. taken ++ data_behind (line_break (drop (length places + left) (places ++ behind))) (λ _. others) (drop (length places + left) (places ++ behind)))
    (take-append-add places behind left)
    ∙ ap (λ rest. (places ++ take left behind) ++ data_behind (line_break rest) (λ _. others) rest) (drop-append-add places behind left)
    ∙ append_assoc places (take left behind) (data_behind (line_break (drop left behind)) (λ _. others) (drop left behind))

pub chunk_goes_on : (old new : Part) (left n : ℕ) (places : List Place) → old ≡ Chunk left → length places ≡ n → n < left → new ≡ Chunk (left - n)
    → (behind : List Place) → data_from old (take n places ++ behind) ≡ data_of_part old (take n places) ++ data_from new behind
chunk_goes_on old new left n places is count fewer then behind =
    let all : take n places ≡ places = ap (λ n. take n places) (sym count) ∙ take-length places in
    let whole : left ≡ length places + (left - n) = omega arith in
    subst (λ old. data_from old (take n places ++ behind) ≡ data_of_part old (take n places) ++ data_from new behind) (sym is)
    (subst (λ new. data_left chunked_data left (take n places ++ behind) ≡ take n places ++ data_from new behind) (sym then)
    (subst (λ first. data_left chunked_data left (first ++ behind) ≡ first ++ data_left chunked_data (left - n) behind) (sym all)
    (ap (λ left. data_left chunked_data left (places ++ behind)) whole ∙ left_along chunked_data (left - n) places behind)))

pub chunk_ends : (old new : Part) (left : ℕ) (places : List Place) → old ≡ Chunk left → left ≤ length places → new ≡ Return
    → (behind : List Place) → data_from old (take left places ++ behind) ≡ data_of_part old (take left places) ++ data_from new behind
chunk_ends old new left places is le then behind =
    let whole : left ≡ length (take left places) + 0 = omega (arith, length-take left places) in
    subst (λ old. data_from old (take left places ++ behind) ≡ data_of_part old (take left places) ++ data_from new behind) (sym is)
    (subst (λ new. data_left chunked_data left (take left places ++ behind) ≡ take left places ++ data_from new behind) (sym then)
    (ap (λ n. data_left chunked_data n (take left places ++ behind)) whole ∙ left_along chunked_data 0 (take left places) behind))

-- ---- the line before a chunk

take_all : (limit : ℕ) (bytes : List ℕ) → length bytes ≤ limit → take limit bytes ≡ bytes
take_all zero [] le = refl
take_all zero (first ∷ bytes) le = absurd (omega arith)
take_all (suc limit) [] le = refl
take_all (suc limit) (first ∷ bytes) le = ap (λ rest. first ∷ rest) (take_all limit bytes (omega arith))

-- a line that was found is found in its own bytes
found_alone : (search : Search) (limit : ℕ) (bytes : List ℕ) (n : ℕ) → FindsAt search ending.Line (take limit bytes) n
    → FindsAt search ending.Line (take limit (take n bytes)) n
found_alone search limit bytes n finds =
    let within = finds.within in
    let short : n ≤ limit = omega (arith, length-take limit bytes) in
    let there : n ≤ length bytes = omega (arith, length-take limit bytes) in
    let all : take limit (take n bytes) ≡ take n bytes = take_all limit (take n bytes) (omega (arith, length-take n bytes)) in
    subst (λ line. FindsAt search ending.Line line n) (sym all)
    (record {
      within = omega (arith, length-take n bytes);
      end = ap ends_line (take-take n n bytes (omega arith) ∙ sym (take-take n limit bytes short)) ∙ finds.end;
      first = λ k below.
          ap ends_line (take-take k n bytes (omega arith) ∙ sym (take-take k limit bytes (omega arith))) ∙ finds.first k below;
      counts = subst (Counts search) (take-take n limit bytes short ∙ sym (take-take n n bytes (omega arith))) finds.counts;
    })

-- behind a line that is there
behind_line : (bytes : List ℕ) (n size : ℕ) (behind : List Place) → n ≤ length bytes → chunk_line (take n (places_of bytes) ++ behind) ≡ reads.Gives n size
    → chunked_data (take n (places_of bytes) ++ behind) ≡ data_of_size chunked_data size behind
behind_line bytes n size behind le is =
    let line = take n (places_of bytes) in
    let count : length line ≡ n = omega (arith, length-take n (places_of bytes), length-places bytes) in
    chunked_data_is (line ++ behind)
    ∙ ap (λ answer. data_behind answer (data_of_size chunked_data) (line ++ behind)) is
    ∙ ap (λ n. data_of_size chunked_data size (drop n (line ++ behind))) (sym count)
    ∙ ap (data_of_size chunked_data size) (drop-append_seam line behind)

line_is : (search : Search) (bytes : List ℕ) (n size : ℕ) (behind : List Place) → FindsAt search ending.Line (take chunk_line_limit bytes) n
    → size_of (take n bytes) ≡ Some size → chunked_data (take n (places_of bytes) ++ behind) ≡ data_of_size chunked_data size behind
line_is search bytes n size behind finds is =
    let there : n ≤ length bytes = omega (arith, finds.within, length-take chunk_line_limit bytes) in
    behind_line bytes n size behind there
    (ap (λ line. chunk_line (line ++ behind)) (take-places n bytes)
    ∙ line_there search (take n bytes) n size behind (found_alone search chunk_line_limit bytes n finds) (ap size_of (take-take n n bytes (omega arith)) ∙ is))

-- the line of the last chunk
pub last_line_goes_on : (old new : Part) (was search fresh : Search) (bytes : List ℕ) (n : ℕ) → old ≡ Size was
    → FindsAt search ending.Line (take chunk_line_limit bytes) n → size_of (take n bytes) ≡ Some 0 → new ≡ Trailer fresh
    → (behind : List Place) → data_from old (take n (places_of bytes) ++ behind) ≡ data_of_part old (take n (places_of bytes)) ++ data_from new behind
last_line_goes_on old new was search fresh bytes n is finds size then behind =
    subst (λ old. data_from old (take n (places_of bytes) ++ behind) ≡ data_of_part old (take n (places_of bytes)) ++ data_from new behind) (sym is)
    (line_is search bytes n 0 behind finds size ∙ sym (ap (λ new. data_from new behind) then))

-- the line of another
pub line_goes_on_with : (old new : Part) (was search : Search) (bytes : List ℕ) (n size : ℕ) → old ≡ Size was
    → FindsAt search ending.Line (take chunk_line_limit bytes) n → 0 < size → size_of (take n bytes) ≡ Some size → new ≡ Chunk size
    → (behind : List Place) → data_from old (take n (places_of bytes) ++ behind) ≡ data_of_part old (take n (places_of bytes)) ++ data_from new behind
line_goes_on_with old new was search bytes n zero is finds some size then behind = absurd (omega arith)
line_goes_on_with old new was search bytes n (suc size) is finds some size_is then behind =
    subst (λ old. data_from old (take n (places_of bytes) ++ behind) ≡ data_of_part old (take n (places_of bytes)) ++ data_from new behind) (sym is)
    (line_is search bytes n (suc size) behind finds size_is ∙ sym (ap (λ new. data_from new behind) then))

-- what is no line has no data behind it
refused_line : (places : List Place) (n : ℕ) (why : Reason) → chunk_line places ≡ reads.Refuses n why → chunked_data places ≡ []
refused_line places n why is = chunked_data_is places ∙ ap (λ answer. data_behind answer (data_of_size chunked_data) places) is

pub bad_line_has_none : (old : Part) (was search : Search) (bytes : List ℕ) (n : ℕ) → old ≡ Size was
    → FindsAt search ending.Line (take chunk_line_limit bytes) n → size_of (take n bytes) ≡ None
    → data_from old (take n (places_of bytes)) ≡ data_of_part old (take n (places_of bytes))
bad_line_has_none old was search bytes n is finds size =
    let alone : take n (places_of bytes) ≡ places_of (take n bytes) ++ [] = take-places n bytes ∙ sym (append-nil (places_of (take n bytes))) in
    subst (λ old. data_from old (take n (places_of bytes)) ≡ data_of_part old (take n (places_of bytes))) (sym is)
    (refused_line (take n (places_of bytes)) n ChunkBad
    (ap chunk_line alone
    ∙ line_bad search (take n bytes) n [] (found_alone search chunk_line_limit bytes n finds) (ap size_of (take-take n n bytes (omega arith)) ∙ size)))

pub long_line_has_none : (old : Part) (was : Search) (bytes : List ℕ) (n : ℕ) → old ≡ Size was → n ≡ chunk_line_limit
    → EndsNowhere ending.Line (take chunk_line_limit bytes) → chunk_line_limit ≤ length bytes
    → data_from old (take n (places_of bytes)) ≡ data_of_part old (take n (places_of bytes))
long_line_has_none old was bytes n is limit nowhere long =
    let first = take chunk_line_limit bytes in
    let alone : take chunk_line_limit (places_of bytes) ≡ places_of first ++ [] = take-places chunk_line_limit bytes ∙ sym (append-nil (places_of first)) in
    subst (λ old. data_from old (take n (places_of bytes)) ≡ data_of_part old (take n (places_of bytes))) (sym is)
    (subst (λ n. chunked_data (take n (places_of bytes)) ≡ []) (sym limit)
    (refused_line (take chunk_line_limit (places_of bytes)) chunk_line_limit ChunkBad
    (ap chunk_line alone
    ∙ refused_then (until ends_line chunk_line_limit ChunkBad) (λ text. size_or_bad (size_of text)) chunk_line_limit ChunkBad (places_of first ++ [])
    (until_long ending.Line chunk_line_limit ChunkBad first []
    (subst (EndsNowhere ending.Line) (sym (take-take chunk_line_limit chunk_line_limit bytes (omega arith))) nowhere)
    (omega (arith, length-take chunk_line_limit bytes))))))

-- ---- a gap

-- the first places of a gap are one
gap_taken : (n count : ℕ) → (m : ℕ) × (take n (replicate {A = Place} count None) ≡ replicate m None)
gap_taken zero count = (0, refl)
gap_taken (suc n) zero = (0, refl)
gap_taken (suc n) (suc count) = let rest = gap_taken n count in (suc rest.0, ap (λ rest. None ∷ rest) rest.1)

no_bytes : (m : ℕ) → bytes_at (replicate m None) ≡ []
no_bytes zero = refl
no_bytes (suc m) = no_bytes m

some_taken : (n m : ℕ) → bytes_at (take n (replicate m None)) ≡ []
some_taken n m = let taken = gap_taken n m in ap bytes_at taken.1 ∙ no_bytes taken.0

-- no line end stands in it
no_line_end : (n m : ℕ) (others : List Place → List Place)
    → data_behind (line_break (drop n (replicate m None))) (λ _. others) (drop n (replicate m None)) ≡ []
no_line_end zero zero others = refl
no_line_end zero (suc m) others = refl
no_line_end (suc n) zero others = refl
no_line_end (suc n) (suc m) others = no_line_end n m others

no_line : (m : ℕ) → chunked_data (replicate m None) ≡ []
no_line zero = chunked_none
no_line (suc m) =
    refused_line (None ∷ replicate m None) 1 Gap
    (refused_then (until ends_line chunk_line_limit ChunkBad) (λ text. size_or_bad (size_of text)) 1 Gap (None ∷ replicate m None)
    (until_gap ending.Line chunk_line_limit ChunkBad [] (replicate m None) nothing (omega arith)))
  where
    nothing : EndsNowhere ending.Line []
    nothing zero le = refl
    nothing (suc k) le = refl

pub bytes-append : (xs ys : List Place) → bytes_at (xs ++ ys) ≡ bytes_at xs ++ bytes_at ys
bytes-append xs ys = filter_map-append (λ place. place) xs ys

gap_has_none : (part : Part) (m : ℕ) → bytes_at (data_from part (replicate m None)) ≡ []
gap_has_none (Places left) m = some_taken left m
gap_has_none ToEnd m = no_bytes m
gap_has_none (Size search) m = ap bytes_at (no_line m)
gap_has_none (Chunk left) m =
    ap (λ behind. bytes_at (take left (replicate m None) ++ behind)) (no_line_end left m chunked_data)
    ∙ ap bytes_at (append-nil (take left (replicate m None))) ∙ some_taken left m
gap_has_none Return m = ap bytes_at (no_line_end 0 m chunked_data)
gap_has_none Feed zero = refl
gap_has_none Feed (suc m) = refl
gap_has_none (Trailer search) m = refl
gap_has_none Tunnel m = refl
gap_has_none (Unknown why) m = refl

-- no bytes stand before the gap
pub none_in_gap : (part : Part) (bytes : List ℕ) (unused n count : ℕ) → unused ≡ 0 → length bytes ≡ unused
    → bytes_at (data_from part (take n (places_of bytes ++ replicate count None))) ≡ []
none_in_gap part bytes unused n count none all =
    let taken = gap_taken n count in
    subst (λ bytes. bytes_at (data_from part (take n (places_of bytes ++ replicate count None))) ≡ []) (sym (none_left bytes (all ∙ none)))
    (ap (λ places. bytes_at (data_from part places)) taken.1 ∙ gap_has_none part taken.0)

pub line_in_gap : (old : Part) (search : Search) (bytes : List ℕ) (unused count : ℕ) → old ≡ Size search → 0 < count
    → search.seen ≡ unused → unused < chunk_line_limit → length bytes ≡ unused → KnowsIn old (places_of bytes ++ replicate count None)
    → bytes_at (data_from old (take (unused + 1) (places_of bytes ++ replicate count None))) ≡ []
line_in_gap old search bytes unused count is some seen short all knows =
    let known = knows_before search _ chunk_line_limit bytes count some (subst (λ part. KnowsIn part (places_of bytes ++ replicate count None)) is knows)
    (omega arith) (omega arith) in
    let one : unused + 1 ≡ length (places_of bytes) + 1 = omega (arith, length-places bytes) in
    let first : take (unused + 1) (places_of bytes ++ replicate count None) ≡ places_of bytes ++ None ∷ [] =
    ap (λ n. take n (places_of bytes ++ replicate count None)) one ∙ take-append-add (places_of bytes) (replicate count None) 1
    ∙ ap (λ gap. places_of bytes ++ take 1 gap) (gap_first count some) in
    subst (λ old. bytes_at (data_from old (take (unused + 1) (places_of bytes ++ replicate count None))) ≡ []) (sym is)
    (ap (λ places. bytes_at (chunked_data places)) first
    ∙ ap bytes_at (refused_line (places_of bytes ++ None ∷ []) (length bytes + 1) Gap
    (refused_then (until ends_line chunk_line_limit ChunkBad) (λ text. size_or_bad (size_of text)) (length bytes + 1) Gap (places_of bytes ++ None ∷ [])
    (until_gap ending.Line chunk_line_limit ChunkBad bytes [] (knows_nowhere search ending.Line (take chunk_line_limit bytes) known) (omega arith)))))

-- a gap behind no bytes goes on as one alone
pub data_in_gap : (part : Part) (bytes : List ℕ) (unused count : ℕ) (turn : Turn) → unused ≡ 0 → length bytes ≡ unused
    → GoesOnWithData part (replicate count None) turn → GoesOnWithData part (places_of bytes ++ replicate count None) turn
data_in_gap part bytes unused count turn none all goes =
    subst (λ bytes. GoesOnWithData part (places_of bytes ++ replicate count None) turn) (sym (none_left bytes (all ∙ none))) goes

-- ---- what is given

pub bytes-places : (bytes : List ℕ) → bytes_at (places_of bytes) ≡ bytes
bytes-places [] = refl
bytes-places (first ∷ bytes) = ap (λ rest. first ∷ rest) (bytes-places bytes)

-- the body's bytes of what one part read: all of them, or none
pub part_gives : (old : Part) (bytes : List ℕ) (turn : Turn) (holds : Bool) → is_data old ≡ holds → HasData old (places_of bytes) turn
    → bytes_at (data_from old (take (read_in turn) (places_of bytes))) ≡ cond holds (take (read_in turn) bytes) []
part_gives old bytes turn holds is has =
    ap bytes_at (all_or_none old (places_of bytes) turn has)
    ∙ ap (λ holds. bytes_at (cond holds (take (read_in turn) (places_of bytes)) [])) is ∙ by_part holds
  where
    by_part : (holds : Bool) → bytes_at (cond holds (take (read_in turn) (places_of bytes)) []) ≡ cond holds (take (read_in turn) bytes) []
    by_part true = ap bytes_at (take-places (read_in turn) bytes) ∙ bytes-places (take (read_in turn) bytes)
    by_part false = refl

-- ---- parts one behind another

pub data_along : (old middle new : Part) (n m : ℕ) (places : List Place) → DataGoes old middle n places → DataGoes middle new m (drop n places)
    → DataGoes old new (n + m) places
data_along old middle new n m places first second behind =
    let both = take-add n m places in
    ap (λ all. data_from old (all ++ behind)) both
    ∙ goes_behind (data_from old) (data_from middle) (data_from new) (take n places) (take m (drop n places)) first second behind
    ∙ ap (λ all. data_from old all ++ data_from new behind) (sym both)

-- what was given of the first places, and then of those behind them
pub given_along : (old middle : Part) (n m : ℕ) (places rest : List Place) (before : List ℕ) → DataGoes old middle n places → rest ≡ drop n places
    → (before ++ bytes_at (data_from old (take n places))) ++ bytes_at (data_from middle (take m rest)) ≡ before ++ bytes_at (data_from old (take (n + m) places))
given_along old middle n m places rest before goes is =
    append_assoc before (bytes_at (data_from old (take n places))) (bytes_at (data_from middle (take m rest)))
    ∙ ap (λ rest. before ++ (bytes_at (data_from old (take n places)) ++ bytes_at (data_from middle (take m rest)))) is
    ∙ ap (λ all. before ++ all)
    (sym (bytes-append (data_from old (take n places)) (data_from middle (take m (drop n places))))
    ∙ ap bytes_at (sym (goes (take m (drop n places)))) ∙ ap (λ all. bytes_at (data_from old all)) (sym (take-add n m places)))

pub none_goes : (part : Part) (places : List Place) → DataGoes part part 0 places
none_goes part places behind = sym (ap (λ first. first ++ data_from part behind) (from_none part))

pub none_given : (part : Part) (before : List ℕ) → before ≡ before ++ bytes_at (data_from part [])
none_given part before = sym (ap (λ places. before ++ bytes_at places) (from_none part) ∙ append-nil before)

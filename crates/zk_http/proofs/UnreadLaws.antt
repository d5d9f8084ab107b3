-- What a reader leaves of the places that are there.
use Rattle.std.proofs.Common.{◌≡◌, ◌⊎◌, ℕ, zero, suc, ◌+◌, ◌<◌, ◌≤◌, Bool, true, false, cond, inl, inr, List, [], ◌∷◌, ◌++◌, length, take, drop, None, Some, refl, sym, ap, ◌∙◌, arith, ⊎_elim, length-take, length-drop}
use Rattle.std.specs.Prelude.{nat_lt, nat_le}
use Rattle.std.proofs.lemmas.Bool.{le-leb}
use Rattle.std.proofs.lemmas.List.{append-nil}
use Rattle.zk_base.specs.Places.{Place, bytes_before_gap}
use Rattle.zk_base.specs.declared.network.Side.{Side}
use Rattle.zk_http.specs.declared.half.Between as next_to
use Rattle.zk_http.specs.declared.half.Between.TheVariants.{Free, Waiting, Tunnelled}
use Rattle.zk_http.specs.declared.half.Half.{Half}
use Rattle.zk_http.specs.declared.search.Ending.{Ending}
use Rattle.zk_http.specs.declared.search.Ending.TheVariants as ending
use Rattle.zk_http.specs.declared.search.Search.{Search}
use Rattle.zk_http.specs.declared.state.Part.{Part}
use Rattle.zk_http.specs.declared.state.Part.TheVariants.{Places, ToEnd, Size, Chunk, Return, Feed, Trailer, Tunnel, Unknown}
use Rattle.zk_http.specs.declared.state.Reading.{Reading}
use Rattle.zk_http.specs.declared.state.State.{State}
use Rattle.zk_http.specs.declared.state.State.TheVariants.{Between, Head, Body, Over}
use Rattle.zk_http.specs.declared.units.Reason.TheVariants.{ChunkBad, Unpaired}
use Rattle.zk_http.specs.declared.units.«Unit».{«Unit» as MessageUnit}
use Rattle.zk_http.specs.declared.units.UnitKind.{UnitKind}
use Rattle.zk_http.specs.declared.units.UnitKind.TheVariants as what
use Rattle.zk_http.specs.Cases as cases
use Rattle.zk_http.specs.Cases.{Case, Held, case_of}
use Rattle.zk_http.specs.Chunks.{chunk, chunk_line, chunk_line_limit, chunked, line_break, more, size_of, size_or_bad, trailer}
use Rattle.zk_http.specs.HalfStanding.{HalfStands, HowStands, IsInside, between_case, waits_in}
use Rattle.zk_http.specs.Heads.{head_limit}
use Rattle.zk_http.specs.Lines.{ends_line}
use Rattle.zk_http.specs.Places.{Stream, of_side}
use Rattle.zk_http.specs.Reading.{Apart, Inside, KnowsAt, KnowsIn, Past, Phase, amount_of, bound_at, bound_in, done_behind, means_at, means_in, phase_of, seen_at, seen_in}
use Rattle.zk_http.specs.Reads.{Answer, Waits, Gives, Refuses, later, ◌>>=◌, any_places, gives, until, used_in}
use Rattle.zk_http.specs.Search.{Knows, KnowsAll}
use Rattle.zk_http.specs.Standing.{HasRead, UseWhatIsRead, between_of, half_of, is_waiting, seen_of, used_of}
use Rattle.zk_http.specs.Turns.{places_of}
use Rattle.zk_http.specs.Units.{decide, header_length, next, next_in, place, unit_at, unread, unread_in}
use Rattle.zk_http.proofs.ChunkedLaws.{chunked_is}
use Rattle.zk_http.proofs.FollowLaws.{places_wait, waits_then}
use Rattle.zk_http.proofs.HalfLaws.{next_told, split}
use Rattle.zk_http.proofs.HeadTurnLaws.{head_waits}
use Rattle.zk_http.proofs.ReadLaws.{length_before_gap}
use Rattle.zk_http.proofs.StepLaws.{side_between, side_stands}
use Rattle.zk_http.proofs.UntilLaws.{until_waits}

-- ---- places that are all looked at are bytes

none_left : (places : List Place) → length places ≡ 0 → places ≡ []
none_left [] is = refl
none_left (first ∷ places) is = absurd (omega arith)

all_bytes : (places : List Place) → length places ≤ length (bytes_before_gap places) → places ≡ places_of (bytes_before_gap places)
all_bytes places all =
    let none : drop (length (bytes_before_gap places)) places ≡ [] =
    none_left _ (omega (arith, all, length-drop (length (bytes_before_gap places)) places)) in
    split places ∙ ap (λ rest. places_of (bytes_before_gap places) ++ rest) none ∙ append-nil (places_of (bytes_before_gap places))

-- a search has looked at all of these
record Searched (search : Search) (kind : Ending) (limit : ℕ) (places : List Place) : Type 0 where
  bytes_are : places ≡ places_of (bytes_before_gap places)
  knows : KnowsAll search kind (take limit (bytes_before_gap places))
  short : length (bytes_before_gap places) < limit

searched : (search : Search) (kind : Ending) (limit : ℕ) (places : List Place) → Knows search kind (take limit (bytes_before_gap places)) → search.seen ≡ length places
    → search.seen < limit → Searched search kind limit places
searched search kind limit places knows seen most =
    let within = knows.seen in
    let count = length-take limit (bytes_before_gap places) in
    let less = length_before_gap places in
    record {
      bytes_are = all_bytes places (omega arith);
      knows = (omega arith, knows);
      short = omega arith;
    }

-- ---- what is read of them: nothing, where no unit is there

some_none : {A : Type 0} (x : A) → Some x ≡ None → ⊥
some_none x is = cc

line_waits : (reading : Reading) (search : Search) (ended : Bool) (places : List Place) → Searched search ending.Line chunk_line_limit places
    → means_in (Size search) reading ended places ≡ Waits 0
line_waits reading search ended places looked =
    let bytes = bytes_before_gap places in
    ap (means_in (Size search) reading ended) looked.bytes_are
    ∙ waits_then (chunked (amount_of reading)) (λ amount. gives (what.Done amount.body reading.header amount.gap)) 0 (places_of bytes)
    (chunked_is (amount_of reading) (places_of bytes)
    ∙ waits_then chunk_line (chunk chunked (amount_of reading)) 0 (places_of bytes)
    (waits_then (until ends_line chunk_line_limit ChunkBad) (λ text. size_or_bad (size_of text)) 0 (places_of bytes)
    (until_waits search ending.Line chunk_line_limit ChunkBad bytes looked.knows looked.short)))

trailer_waits : (reading : Reading) (search : Search) (ended : Bool) (places : List Place) → Searched search ending.Section head_limit places
    → means_in (Trailer search) reading ended places ≡ Waits 0
trailer_waits reading search ended places looked =
    let bytes = bytes_before_gap places in
    ap (means_in (Trailer search) reading ended) looked.bytes_are
    ∙ waits_then (trailer >>= λ _. gives (amount_of reading)) (λ amount. gives (what.Done amount.body reading.header amount.gap)) 0 (places_of bytes)
    (waits_then trailer (λ _. gives (amount_of reading)) 0 (places_of bytes)
    (until_waits search ending.Section head_limit ChunkBad bytes looked.knows looked.short))

part_waits : (part : Part) (reading : Reading) (ended : Bool) (at : ℕ) (places : List Place) → KnowsIn part places → seen_in part ≡ length places → seen_in part < bound_in part
    → unit_at at (means_in part reading ended places) ≡ None → means_in part reading ended places ≡ Waits 0
part_waits (Places zero) reading ended at [] knows seen most none = absurd (some_none _ none)
part_waits (Places (suc n)) reading ended at [] knows seen most none = waits_then (any_places (suc n)) (done_behind reading (suc n)) 0 [] (places_wait (suc n) [] (omega arith))
part_waits (Places left) reading ended at (first ∷ places) knows seen most none = absurd (omega arith)
part_waits ToEnd reading true at [] knows seen most none = absurd (some_none _ none)
part_waits ToEnd reading false at [] knows seen most none = refl
part_waits ToEnd reading ended at (first ∷ places) knows seen most none = absurd (omega arith)
part_waits (Size search) reading ended at places knows seen most none = line_waits reading search ended places (searched search ending.Line chunk_line_limit places knows seen most)
part_waits (Chunk zero) reading ended at [] knows seen most none = refl
part_waits (Chunk (suc n)) reading ended at [] knows seen most none =
    waits_then (any_places (suc n) >>= λ gaps. line_break >>= λ _. chunked (more (suc n) gaps (amount_of reading))) (λ amount. gives (what.Done amount.body reading.header amount.gap)) 0 []
    (waits_then (any_places (suc n)) (λ gaps. line_break >>= λ _. chunked (more (suc n) gaps (amount_of reading))) 0 [] (places_wait (suc n) [] (omega arith)))
part_waits (Chunk left) reading ended at (first ∷ places) knows seen most none = absurd (omega arith)
part_waits Return reading ended at [] knows seen most none = refl
part_waits Return reading ended at (first ∷ places) knows seen most none = absurd (omega arith)
part_waits Feed reading ended at [] knows seen most none = refl
part_waits Feed reading ended at (first ∷ places) knows seen most none = absurd (omega arith)
part_waits (Trailer search) reading ended at places knows seen most none = trailer_waits reading search ended places (searched search ending.Section head_limit places knows seen most)
part_waits Tunnel reading ended at places knows seen most none = absurd (some_none _ none)
part_waits (Unknown why) reading ended at places knows seen most none = absurd (some_none _ none)

state_waits : (state : State) (side : Side) (ended : Bool) (at : ℕ) (places : List Place) → KnowsAt state places → seen_at state ≡ length places → seen_at state < bound_at state
    → unit_at at (means_at state side ended places) ≡ None → means_at state side ended places ≡ Waits 0
state_waits Between side ended at places knows seen most none = refl
state_waits (Head search) side ended at places knows seen most none =
    let looked = searched search ending.Head head_limit places knows seen most in
    ap (means_at (Head search) side ended) looked.bytes_are ∙ (head_waits side search (bytes_before_gap places) looked.knows looked.short).1
state_waits (Body reading) side ended at places knows seen most none = part_waits reading.part reading ended at places knows seen most none
state_waits Over side ended at places knows seen most none = refl

-- ---- a side

used_later : (n : ℕ) (answer : Answer UnitKind) → used_in (later n answer) ≡ n + used_in answer
used_later n (Waits used) = refl
used_later n (Gives used kind) = refl
used_later n (Refuses used why) = refl

-- nothing is left from two places on
both_none : (places : List Place) (n m : ℕ) → length places ≤ n → length places ≤ m → drop n places ≡ drop m places
both_none places n m first second =
    none_left (drop n places) (omega (arith, length-drop n places)) ∙ sym (none_left (drop m places) (omega (arith, length-drop m places)))

inside_left : (side : Side) (half : Half) (stream : Stream) (case : Case) (units : List MessageUnit) → HalfStands side half stream case units → IsInside side half stream case units
    → next_in stream side case units ≡ None → seen_at half.state ≡ length (drop half.used stream.places)
    → drop half.used stream.places ≡ unread_in stream side case units
inside_left side half stream case units stands inside none seen =
    ap (λ n. drop n stream.places) (sym read)
  where
    rest : List Place
    rest = drop half.used stream.places

    from : ℕ
    from = place units

    answer : Answer UnitKind
    answer = decide side case (header_length stream units) stream.ended (drop from stream.places)

    waits : means_at half.state side stream.ended rest ≡ Waits 0
    waits = state_waits half.state side stream.ended half.used rest inside.knows seen half.few_seen
        (sym (next_told side half.used (means_at half.state side) stream case units inside.tells stands.within) ∙ none)

    same : later from answer ≡ later half.used (Waits 0)
    same =
        ap (λ places. later from (decide side case (header_length stream units) stream.ended places)) (sym (append-nil (drop from stream.places)))
        ∙ inside.tells.tells stream.ended [] (λ ended. (refl, ended))
        ∙ ap (λ places. later half.used (means_at half.state side stream.ended places)) (append-nil rest)
        ∙ ap (later half.used) waits

    read : from + used_in answer ≡ half.used
    read = omega (arith, used_later from answer, ap (λ answer. used_in answer) same)

held_read : (many : Bool) (at : ℕ) → unit_at at (cond many (Refuses 65537 Unpaired) (Waits 0)) ≡ None → used_in {A = UnitKind} (cond many (Refuses 65537 Unpaired) (Waits 0)) ≡ 0
held_read true at none = absurd (some_none _ none)
held_read false at none = refl

-- a side that waits for the other
held_left : (side : Side) (half : Half) (stream : Stream) (case : Case) (units : List MessageUnit) → half.used ≡ place units → half.used ≤ length stream.places
    → next_in stream side case units ≡ None → case ≡ Held → drop half.used stream.places ≡ unread_in stream side case units
held_left side half stream case units at within none held =
    let from = place units in
    let rest = drop from stream.places in
    let reached : nat_le from (length stream.places) ≡ true = le-leb from (length stream.places) (omega arith) in
    let empty : unit_at from (cond (nat_lt 65536 (length rest)) (Refuses 65537 Unpaired) (Waits 0)) ≡ None =
    sym (ap (λ case. next_in stream side case units) held
    ∙ ap (λ test. cond test (unit_at from (decide side Held (header_length stream units) stream.ended rest)) None) reached) ∙ none in
    let nothing : from + used_in {A = UnitKind} (cond (nat_lt 65536 (length rest)) (Refuses 65537 Unpaired) (Waits 0)) ≡ half.used =
    omega (arith, at, held_read (nat_lt 65536 (length rest)) from empty) in
    ap (λ n. drop n stream.places) (sym nothing) ∙ sym (ap (λ case. unread_in stream side case units) held)

half_left : (state : State) (side : Side) (half : Half) (stream : Stream) (case : Case) (units : List MessageUnit) → half.state ≡ state → HalfStands side half stream case units
    → HowStands (phase_of state) side half stream case units → next_in stream side case units ≡ None
    → ((case ≡ Held) ⊎ (seen_at half.state ≡ length (drop half.used stream.places)))
    → drop half.used stream.places ≡ unread_in stream side case units
half_left Between side half stream case units is stands how none (inl held) = held_left side half stream case units how.0 stands.within none held
half_left Between side half stream case units is stands how none (inr seen) =
    let left : length (drop half.used stream.places) ≡ 0 = sym seen ∙ ap seen_at is in
    let at = how.0 in
    both_none stream.places half.used _ (omega (arith, left, length-drop half.used stream.places)) (omega (arith, left, length-drop half.used stream.places))
half_left (Head search) side half stream case units is stands how none (inl held) = absurd (how.tells.free held)
half_left (Head search) side half stream case units is stands how none (inr seen) = inside_left side half stream case units stands how none seen
half_left (Body reading) side half stream case units is stands how none (inl held) = absurd (how.tells.free held)
half_left (Body reading) side half stream case units is stands how none (inr seen) = inside_left side half stream case units stands how none seen
half_left Over side half stream case units is stands how none (inl held) = absurd (apart (sym how ∙ held))
  where
    apart : cases.Over ≡ Held → ⊥
    apart e = cc
half_left Over side half stream case units is stands how none (inr seen) =
    let left : length (drop half.used stream.places) ≡ 0 = sym seen ∙ ap seen_at is in
    both_none stream.places half.used (place units + length (drop (place units) stream.places)) (omega (arith, left, length-drop half.used stream.places)) (omega (arith, length-drop (place units) stream.places))
    ∙ sym (ap (λ case. unread_in stream side case units) how)

waits_held : (phase : Phase) (between : next_to.Between) (case : Case) → (phase ≡ Apart → case ≡ between_case between) → waits_in phase between ≡ true → case ≡ Held
waits_held Apart Free case is waits = absurd cc
waits_held Apart Waiting case is waits = is refl
waits_held Apart Tunnelled case is waits = absurd cc
waits_held Inside between case is waits = absurd cc
waits_held Past between case is waits = absurd cc

pub use_what_is_read : UseWhatIsRead
unfolding used_of seen_of HasRead is_waiting next unread
use_what_is_read http streams units side stands none looked =
    let half = half_of side http in
    let stream = of_side side streams in
    let own = side_stands side http streams units stands in
    half_left half.state side half stream (case_of side units) (of_side side units) refl own own.how none
    (⊎_elim (λ held. inl held) (λ read. by_waiting (is_waiting side http) refl read) looked)
  where
    by_waiting : (waits : Bool) → is_waiting side http ≡ waits
        → HasRead side http (length (drop (used_of side http) (of_side side streams).places))
        → (case_of side units ≡ Held) ⊎ (seen_of side http ≡ length (drop (used_of side http) (of_side side streams).places))
    by_waiting true is read = inl (waits_held (phase_of (half_of side http).state) (between_of side http) (case_of side units) (side_between side http streams units stands) is)
    by_waiting false is read = inr (read is)

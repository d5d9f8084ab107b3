-- What the places that follow come to on a side.
use Rattle.std.proofs.Common.{◌≡◌, ℕ, zero, suc, ◌+◌, ◌-◌, ◌<◌, ◌≤◌, Bool, true, false, cond, List, [], ◌∷◌, ◌++◌, length, take, drop, replicate, Option, None, Some, refl, sym, ap, subst, ◌∙◌, arith, append_assoc, length-append, length-take, length-drop}
use Rattle.std.specs.Prelude.{◌↔◌, nat_le}
use Rattle.std.specs.List.{last_or}
use Rattle.std.proofs.lemmas.Bool.{le-leb}
use Rattle.std.proofs.lemmas.List.{append-nil, drop-append-le, drop-drop, drop-take, length-replicate, take-append-drop, take-append-le}
use Rattle.std.proofs.Math.Seq.{drop-length, take-add}
use Rattle.zk_base.specs.Places.{Place, bytes_before_gap}
use Rattle.zk_base.specs.declared.network.Side.{Side}
use Rattle.zk_http.specs.declared.body.Body.{Body}
use Rattle.zk_http.specs.declared.body.Body.TheVariants as bodies
use Rattle.zk_http.specs.declared.body.Body.TheVariants.{Empty, Length, Chunked, Tunnels}
use Rattle.zk_http.specs.declared.half.Between.{Between}
use Rattle.zk_http.specs.declared.half.Between.TheVariants.{Free, Waiting, Tunnelled}
use Rattle.zk_http.specs.declared.half.Half.{Half}
use Rattle.zk_http.specs.declared.search.Ending.{Ending}
use Rattle.zk_http.specs.declared.search.Ending.TheVariants as ending
use Rattle.zk_http.specs.declared.search.Search.{Search}
use Rattle.zk_http.specs.declared.state.Part.{Part}
use Rattle.zk_http.specs.declared.state.Part.TheVariants.{Places, ToEnd, Size, Chunk, Return, Feed, Trailer, Tunnel, Unknown}
use Rattle.zk_http.specs.declared.state.Reading.{Reading}
use Rattle.zk_http.specs.declared.state.State.TheVariants as state
use Rattle.zk_http.specs.declared.units.Head.{Head as MessageHead}
use Rattle.zk_http.specs.declared.units.«Unit».{«Unit» as MessageUnit}
use Rattle.zk_http.specs.declared.units.UnitKind.{UnitKind}
use Rattle.zk_http.specs.declared.units.UnitKind.TheVariants as kind
use Rattle.zk_http.specs.BodyBytes.{bytes_at, data_by, data_in, first_places}
use Rattle.zk_http.specs.Cases.{Case, Before, Within, Held, Over}
use Rattle.zk_http.specs.Chunks.{chunk_line_limit}
use Rattle.zk_http.specs.HalfStanding.{HalfStands, HasNoData, HeadBegins, HoldsData, HowStands, IsAtHead, IsInside, TellsAs, between_case}
use Rattle.zk_http.specs.Heads.{head_limit}
use Rattle.zk_http.specs.HalfTurns.{EndsAt, Gave, HasGapIn, IsLentTo, Moves, MovesWaiting, bytes_in_first}
use Rattle.zk_http.specs.Found.{EndsNowhere}
use Rattle.zk_http.specs.HeadTurns.{HeadShows}
use Rattle.zk_http.specs.declared.units.Reason.TheVariants.{Gap}
use Rattle.zk_http.specs.Lines.{ends_line, text_length}
use Rattle.zk_http.specs.Places.{Stream}
use Rattle.zk_http.specs.Reading.{KnowsAt, KnowsIn, data_from, head_unit, means, means_at, phase_of, searched}
use Rattle.zk_http.specs.Reads.{Answer, Waits, Gives, Refuses, Reads, later}
use Rattle.zk_http.specs.Search.{Counts, Knows, ends}
use Rattle.zk_http.specs.Starts.{state_behind}
use Rattle.zk_http.specs.Turns.{DataGoes, Goes, IsNoHead, Shows, ShowsNothing, places_of}
use Rattle.zk_http.specs.Units.{decide, header_length, next_in, place, place_behind, unit_at}
use Rattle.zk_http.proofs.DataLaws.{bytes-append, chunked_none, from_none, goes_behind}
use Rattle.zk_http.proofs.FollowLaws.{before_gap-places, later_later, length-places, take-places}
use Rattle.zk_http.proofs.GapLaws.{before_gap-gap, none_left}
use Rattle.zk_http.proofs.HeadTurnLaws.{head_gap_shows}
use Rattle.zk_http.proofs.LineLaws.{without_last}
use Rattle.zk_http.proofs.ReadLaws.{before_gap_grows, length_before_gap, take_grows}

-- ---- what is given

-- places are the bytes before the first gap, and others
pub split : (places : List Place) → places ≡ places_of (bytes_before_gap places) ++ drop (length (bytes_before_gap places)) places
split [] = refl
split (None ∷ places) = refl
split (Some first ∷ places) = ap (λ rest. Some first ∷ rest) (split places)

pub lent_split : (half : Half) (stream : Stream) (bytes : List ℕ) → bytes ≡ bytes_before_gap (drop half.used stream.places)
    → drop half.used stream.places ≡ places_of bytes ++ drop (length bytes) (drop half.used stream.places)
lent_split half stream bytes is =
    split (drop half.used stream.places)
    ∙ ap (λ bytes. places_of bytes ++ drop (length bytes) (drop half.used stream.places)) (sym is)

pub nothing_behind : (n used : ℕ) (places : List Place) → used + n ≡ length places → drop n (drop used places) ≡ []
nothing_behind n used places all = drop-drop n used places ∙ ap (λ n. drop n places) all ∙ drop-length places

pub lent_within : (half : Half) (stream : Stream) (bytes : List ℕ) → bytes ≡ bytes_before_gap (drop half.used stream.places) → half.used ≤ length stream.places
    → half.used + length bytes ≤ length stream.places
lent_within half stream bytes is within =
    omega (arith, ap length is, length_before_gap (drop half.used stream.places), length-drop half.used stream.places)

-- ---- what a search knows stays when more places come

pub knows_grows : (search : Search) (ending : Ending) (bytes more : List ℕ) → Knows search ending bytes → Knows search ending (bytes ++ more)
knows_grows search ending bytes more knows =
    let seen = knows.seen in
    let line = knows.line in
    record {
      seen = omega (arith, length-append bytes more);
      line = line;
      counts = subst (Counts search) (sym (take-append-le search.line bytes more (omega arith))) knows.counts;
      no_end = λ k low high. ap ends_line (take-append-le k bytes more (omega arith)) ∙ knows.no_end k low high;
      none = λ k le. ap (ends ending) (take-append-le k bytes more (omega arith)) ∙ knows.none k le;
    }

pub searched_grows : (search : Search) (ending : Ending) (limit : ℕ) (places behind : List Place) → Knows search ending (searched limit places)
    → Knows search ending (searched limit (places ++ behind))
searched_grows search ending limit places behind knows =
    let more = before_gap_grows places behind in
    let others = take_grows limit (bytes_before_gap places) more.0 in
    subst (Knows search ending) (sym (ap (take limit) more.1 ∙ others.1)) (knows_grows search ending (searched limit places) others.0 knows)

pub knows_in_grows : (part : Part) (places behind : List Place) → KnowsIn part places → KnowsIn part (places ++ behind)
knows_in_grows (Places left) places behind knows = tt
knows_in_grows ToEnd places behind knows = tt
knows_in_grows (Size search) places behind knows = searched_grows search ending.Line chunk_line_limit places behind knows
knows_in_grows (Chunk left) places behind knows = tt
knows_in_grows Return places behind knows = tt
knows_in_grows Feed places behind knows = tt
knows_in_grows (Trailer search) places behind knows = searched_grows search ending.Section head_limit places behind knows
knows_in_grows Tunnel places behind knows = tt
knows_in_grows (Unknown why) places behind knows = tt

-- ---- the next unit

unit_first : (from : ℕ) (answer : Answer UnitKind) → unit_at 0 (later from answer) ≡ unit_at from answer
unit_first from (Waits used) = refl
unit_first from (Gives used what) = let same : 0 + (from + used) ≡ from + used = omega arith in ap (λ place. Some (record { place = place; what = what })) same
unit_first from (Refuses used why) = let same : 0 + (from + used) ≡ from + used = omega arith in ap (λ place. Some (record { place = place; what = kind.Violation why })) same

-- answers that are the same are the same unit
unit_same : (from used : ℕ) (answer other : Answer UnitKind) → later from answer ≡ later used other → unit_at from answer ≡ unit_at used other
unit_same from used answer other same = sym (unit_first from answer) ∙ ap (unit_at 0) same ∙ unit_first used other

pub next_told : (side : Side) (used : ℕ) (meaning : Bool → Reads UnitKind) (stream : Stream) (case : Case) (units : List MessageUnit)
    → TellsAs side used meaning stream case units → used ≤ length stream.places
    → next_in stream side case units ≡ unit_at used (meaning stream.ended (drop used stream.places))
next_told side used meaning stream case units tells within =
    let begun = tells.begun in
    let from = place units in
    let reached : nat_le from (length stream.places) ≡ true = le-leb from (length stream.places) (omega arith) in
    ap (λ test. cond test (unit_at from (decide side case (header_length stream units) stream.ended (drop from stream.places))) None) reached
    ∙ ap (λ rest. unit_at from (decide side case (header_length stream units) stream.ended rest)) (sym (append-nil (drop from stream.places)))
    ∙ unit_same from used (decide side case (header_length stream units) stream.ended (drop from stream.places ++ [])) (meaning stream.ended (drop used stream.places ++ []))
    (tells.tells stream.ended [] (λ ended. (refl, ended)))
    ∙ ap (λ rest. unit_at used (meaning stream.ended rest)) (append-nil (drop used stream.places))

-- where nothing more is told
pub over_none : (stream : Stream) (side : Side) (case : Case) (units : List MessageUnit) → case ≡ Over → next_in stream side case units ≡ None
over_none stream side case units over = ap (λ case. next_in stream side case units) over ∙ by_test (nat_le (place units) (length stream.places))
  where
    by_test : (test : Bool) → cond test (unit_at (place units) (decide side Over (header_length stream units) stream.ended (drop (place units) stream.places))) None ≡ None
    by_test true = refl
    by_test false = refl

-- ---- the side behind a unit

-- the last of a list to which one was added
pub last_of : {A : Type 0} (before : Option A) (xs : List A) (x : A) → last_or before (xs ++ x ∷ []) ≡ Some x
last_of before [] x = refl
last_of before (first ∷ xs) x = last_of (Some first) xs x

pub place_of_last : (units : List MessageUnit) (unit : MessageUnit) → place (units ++ unit ∷ []) ≡ unit.place
place_of_last units unit = ap place_behind (last_of None units unit)

-- how long the head is that was read
pub header_there : (stream : Stream) (units : List MessageUnit) (unit : MessageUnit) (used n : ℕ) (bytes : List ℕ) (tail : List Place) → used ≡ place units
    → unit.place ≡ used + n → n ≤ length bytes → drop used stream.places ≡ places_of bytes ++ tail
    → header_length stream (units ++ unit ∷ []) ≡ text_length (take n bytes)
header_there stream units unit used n bytes tail begins place_is le rest =
    let front : place (take (length (units ++ unit ∷ []) - 1) (units ++ unit ∷ [])) ≡ used = ap place (without_last units unit) ∙ sym begins in
    let end : place (units ++ unit ∷ []) ≡ used + n = place_of_last units unit ∙ place_is in
    let text : drop used (take (used + n) stream.places) ≡ places_of (take n bytes) =
    drop-take used n stream.places ∙ ap (take n) rest
    ∙ take-append-le n (places_of bytes) tail (omega (arith, length-places bytes)) ∙ take-places n bytes in
    ap (λ from. text_length (bytes_before_gap (drop from (take (place (units ++ unit ∷ [])) stream.places)))) front
    ∙ ap (λ at. text_length (bytes_before_gap (drop used (take at stream.places)))) end
    ∙ ap (λ places. text_length (bytes_before_gap places)) text
    ∙ ap text_length (before_gap-places (take n bytes))

-- what is read behind a unit that is no head has no length of a head
state_same : (header other : ℕ) (what : UnitKind) → ((head : MessageHead) → what ≡ kind.Head head → header ≡ other) → state_behind header what ≡ state_behind other what
state_same header other (kind.Head head) same = ap (λ header. state_behind header (kind.Head head)) (same head refl)
state_same header other (kind.Done body length gap) same = refl
state_same header other kind.Tunnel same = refl
state_same header other (kind.Violation why) same = refl

ends_at : (used at : ℕ) (what : UnitKind) → used ≡ at → EndsAt used at what
ends_at used at (kind.Head head) same = same
ends_at used at (kind.Done body length gap) same = same
ends_at used at kind.Tunnel same = tt
ends_at used at (kind.Violation why) same = tt

no_head : (what : UnitKind) (head : MessageHead) → IsNoHead what → what ≡ kind.Head head → ⊥
no_head (kind.Head other) head none is = none
no_head (kind.Done body length gap) head none is = cc
no_head kind.Tunnel head none is = cc
no_head (kind.Violation why) head none is = cc

-- The side as a unit leaves it.
pub record Follows (old new : Half) (n header : ℕ) (what : UnitKind) : Type 0 where
  pub used : new.used ≡ old.used + n
  pub ended : new.ended ≡ old.ended
  pub state : new.state ≡ state_behind header what

pub gave : (side : Side) (old new : Half) (stream : Stream) (case : Case) (units : List MessageUnit) (n header : ℕ) (what : UnitKind) → Follows old new n header what
    → (old.ended ≡ true → stream.ended ≡ true) → old.used + n ≤ length stream.places
    → ((head : MessageHead) → what ≡ kind.Head head → header ≡ header_length stream (units ++ (record { place = old.used + n; what = what }) ∷ []))
    → next_in stream side case units ≡ Some (record { place = old.used + n; what = what })
    → Gave side new stream case units (record { place = old.used + n; what = what })
gave side old new stream case units n header what follows told within length_is next = record {
  next = next;
  behind = record {
    within = subst (λ used. used ≤ length stream.places) (sym follows.used) within;
    told = λ ended. told (sym follows.ended ∙ ended);
    state = follows.state ∙ state_same header _ what length_is;
    at = ends_at new.used (old.used + n) what follows.used;
  };
}

-- ---- behind a head

-- Places behind what was used, and what stands behind them: nothing, once the side was told to have ended.
pub record Lies (half : Half) (stream : Stream) (told : Bool) (places tail : List Place) : Type 0 where
  pub rest : drop half.used stream.places ≡ places ++ tail
  pub last : told ≡ true → (tail ≡ []) × (stream.ended ≡ true)

inside_is : (side : Side) (half : Half) (reading : Reading) (stream : Stream) (case : Case) (units : List MessageUnit) → half.state ≡ state.Body reading
    → HalfStands side half stream case units → TellsAs side half.used (λ ended. means reading ended) stream case units
inside_is side half reading stream case units is stands =
    let how : HowStands (phase_of (state.Body reading)) side half stream case units = subst (λ now. HowStands (phase_of now) side half stream case units) is stands.how in
    subst (λ now. TellsAs side half.used (means_at now side) stream case units) is how.tells

pub body_shows : (side : Side) (old new : Half) (reading : Reading) (stream : Stream) (case : Case) (units : List MessageUnit) (told : Bool) (places tail : List Place) (n header : ℕ) (what : UnitKind)
    → old.state ≡ state.Body reading → HalfStands side old stream case units → Lies old stream told places tail → Shows reading told n what places → n ≤ length places
    → IsNoHead what → Follows old new n header what → Gave side new stream case units (record { place = old.used + n; what = what })
body_shows side old new reading stream case units told places tail n header what is stands lies shows le none follows =
    let within = stands.within in
    let all : length (drop old.used stream.places) ≡ length places + length tail = ap length lies.rest ∙ length-append places tail in
    gave side old new stream case units n header what follows stands.told (omega (arith, length-drop old.used stream.places))
    (λ head same. absurd (no_head what head none same))
    (next_told side old.used (λ ended. means reading ended) stream case units (inside_is side old reading stream case units is stands) stands.within
    ∙ ap (λ rest. unit_at old.used (means reading stream.ended rest)) lies.rest
    ∙ shows stream.ended tail old.used lies.last)

pub holds_data : (side : Side) (half : Half) (reading : Reading) (stream : Stream) (case : Case) (units : List MessageUnit) → half.state ≡ state.Body reading
    → HalfStands side half stream case units → HoldsData half.used (state.Body reading) stream case units
holds_data side half reading stream case units is stands =
    let how : HowStands (phase_of (state.Body reading)) side half stream case units = subst (λ now. HowStands (phase_of now) side half stream case units) is stands.how in
    subst (λ now. HoldsData half.used now stream case units) is how.content

-- the places of the message that were used, and n more
pub more_places : (side : Side) (half : Half) (reading : Reading) (stream : Stream) (case : Case) (units : List MessageUnit) (places tail : List Place) (n : ℕ)
    → half.state ≡ state.Body reading → HalfStands side half stream case units → drop half.used stream.places ≡ places ++ tail → n ≤ length places
    → first_places half.used stream units ++ take n places ≡ first_places (half.used + n) stream units
more_places side half reading stream case units places tail n is stands rest le =
    let begun = (inside_is side half reading stream case units is stands).begun in
    let within = stands.within in
    let used = take half.used stream.places in
    let first : take (half.used + n) stream.places ≡ used ++ take n places =
    take-add half.used n stream.places ∙ ap (λ rest. used ++ take n rest) rest ∙ ap (λ more. used ++ more) (take-append-le n places tail le) in
    sym (ap (drop (place units)) first
    ∙ drop-append-le (place units) used (take n places) (omega (arith, length-take half.used stream.places)))

pub body_goes : (side : Side) (old new : Half) (reading next : Reading) (stream : Stream) (case : Case) (units : List MessageUnit) (places tail : List Place) (n : ℕ)
    → old.state ≡ state.Body reading → HalfStands side old stream case units → drop old.used stream.places ≡ places ++ tail → Goes reading next n places → DataGoes reading.part next.part n places → n ≤ length places
    → new.used ≡ old.used + n → new.ended ≡ old.ended → new.state ≡ state.Body next → HalfStands side new stream case units
body_goes side old new reading next stream case units places tail n is stands rest goes data_goes le used ended then = record {
  within = within;
  told = λ over. stands.told (sym ended ∙ over);
  how = subst (λ now. HowStands (phase_of now) side new stream case units) (sym then) inside;
}
  where
    within : new.used ≤ length stream.places
    within =
        let old_within = stands.within in
        omega (arith, ap length rest, length-append places tail, length-drop old.used stream.places)

    tells : TellsAs side old.used (λ ended. means reading ended) stream case units
    tells = inside_is side old reading stream case units is stands

    behind_n : drop new.used stream.places ≡ drop n places ++ tail
    behind_n =
        ap (λ used. drop used stream.places) used ∙ sym (drop-drop n old.used stream.places) ∙ ap (drop n) rest ∙ drop-append-le n places tail le

    content : HoldsData new.used (state.Body next) stream case units
    content behind =
        let first = first_places old.used stream units in
        let all = more_places side old reading stream case units places tail n is stands rest le ∙ ap (λ used. first_places used stream units) (sym used) in
        ap (λ all. data_by case (all ++ behind)) (sym all)
        ∙ goes_behind (data_by case) (data_from reading.part) (data_from next.part) first (take n places)
        (holds_data side old reading stream case units is stands) data_goes behind
        ∙ ap (λ all. data_by case all ++ data_from next.part behind) all

    inside : IsInside side new stream case units
    inside = record {
      tells = record {
        free = tells.free;
        tells = λ ended behind ends.
            tells.tells ended behind ends
            ∙ ap (λ rest. later old.used (means reading ended (rest ++ behind))) rest
            ∙ ap (λ rest. later old.used (means reading ended rest)) (append_assoc places tail behind)
            ∙ ap (later old.used) (goes.by ended (tail ++ behind))
            ∙ later_later old.used n (means next ended (drop n places ++ (tail ++ behind)))
            ∙ ap (λ at. later at (means next ended (drop n places ++ (tail ++ behind)))) (sym used)
            ∙ ap (λ rest. later new.used (means next ended rest)) (sym (append_assoc (drop n places) tail behind))
            ∙ ap (λ rest. later new.used (means next ended (rest ++ behind))) (sym behind_n)
            ∙ ap (λ now. later new.used (means_at now side ended (drop new.used stream.places ++ behind))) (sym then);
        begun = let begun = tells.begun in omega arith;
      };
      knows =
          subst (λ now. KnowsAt now (drop new.used stream.places)) (sym then)
          (subst (λ places. KnowsIn next.part places) (sym behind_n) (knows_in_grows next.part (drop n places) tail goes.knows));
      head = subst (λ now. HeadBegins now new.used units) (sym then) tt;
      content = subst (λ now. HoldsData new.used now stream case units) (sym then) content;
    }

pub body_waits : (side : Side) (old : Half) (reading next : Reading) (stream : Stream) (case : Case) (units : List MessageUnit) (places : List Place) (n : ℕ)
    → old.state ≡ state.Body reading → HalfStands side old stream case units → drop old.used stream.places ≡ places → (stream.ended ≡ true → old.ended ≡ true)
    → Goes reading next n places → ShowsNothing next old.ended (drop n places) → next_in stream side case units ≡ None
body_waits side old reading next stream case units places n is stands rest told goes nothing =
    next_told side old.used (λ ended. means reading ended) stream case units (inside_is side old reading stream case units is stands) stands.within
    ∙ ap (λ rest. unit_at old.used (means reading stream.ended rest)) (rest ∙ sym (append-nil places))
    ∙ ap (unit_at old.used) (goes.by stream.ended [])
    ∙ ap (λ rest. unit_at old.used (later n (means next stream.ended rest))) (append-nil (drop n places))
    ∙ ap (λ answer. unit_at old.used (later n answer)) (nothing stream.ended told)

-- ---- no body

pub in_none : (body : Body) → data_in body [] ≡ []
in_none Empty = refl
in_none (Length n) = from_none (Places n)
in_none Chunked = chunked_none
in_none bodies.ToEnd = refl
in_none Tunnels = refl
in_none (bodies.Unknown why) = refl

by_none : (case : Case) → data_by case [] ≡ []
by_none Before = refl
by_none (Within body) = in_none body
by_none Held = refl
by_none Over = refl

-- where none of a message was used
pub none_first : (used : ℕ) (stream : Stream) (units : List MessageUnit) → used ≡ place units → first_places used stream units ≡ []
none_first used stream units begins =
    let same : used ≡ place units + 0 = omega arith in
    ap (λ used. drop (place units) (take used stream.places)) same ∙ drop-take (place units) 0 stream.places

pub between_none : (case : Case) (between : Between) → case ≡ between_case between → HasNoData case
between_none case between is places = ap (λ case. data_by case places) is ∙ by_between between
  where
    by_between : (between : Between) → data_by (between_case between) places ≡ []
    by_between Free = refl
    by_between Waiting = refl
    by_between Tunnelled = refl

-- a side that is in no body has no bytes of one
pub no_bytes_same : (case : Case) (stream : Stream) (units : List MessageUnit) (used again : ℕ) → HasNoData case
    → bytes_in_first used stream case units ≡ bytes_in_first again stream case units
no_bytes_same case stream units used again none =
    ap bytes_at (none (first_places used stream units) ∙ sym (none (first_places again stream units)))

-- ---- the bytes of a body

-- as many more as are read of the places that follow
pub more_bytes : (side : Side) (half : Half) (reading : Reading) (stream : Stream) (case : Case) (units : List MessageUnit) (places tail : List Place) (n used : ℕ)
    → half.state ≡ state.Body reading → HalfStands side half stream case units → drop half.used stream.places ≡ places ++ tail → n ≤ length places → used ≡ half.used + n
    → bytes_in_first used stream case units ≡ bytes_in_first half.used stream case units ++ bytes_at (data_from reading.part (take n places))
more_bytes side half reading stream case units places tail n used is stands rest le used_is =
    let first = first_places half.used stream units in
    ap (λ used. bytes_in_first used stream case units) used_is
    ∙ ap (λ all. bytes_at (data_by case all)) (sym (more_places side half reading stream case units places tail n is stands rest le))
    ∙ ap bytes_at (holds_data side half reading stream case units is stands (take n places))
    ∙ bytes-append (data_by case first) (data_from reading.part (take n places))

-- ---- a head

pub head_gave : (side : Side) (old new : Half) (stream : Stream) (case : Case) (units : List MessageUnit) (bytes : List ℕ) (tail : List Place) (n header : ℕ) (what : UnitKind)
    → IsAtHead side old stream case units → drop old.used stream.places ≡ places_of bytes ++ tail → HeadShows side n what (places_of bytes) → n ≤ length bytes
    → ((head : MessageHead) → what ≡ kind.Head head → header ≡ text_length (take n bytes))
    → Follows old new n header what → Gave side new stream case units (record { place = old.used + n; what = what })
head_gave side old new stream case units bytes tail n header what is rest shows le length_is follows =
    let within = is.within in
    let all : length (drop old.used stream.places) ≡ length bytes + length tail =
    ap length rest ∙ length-append (places_of bytes) tail ∙ ap (λ n. n + length tail) (length-places bytes) in
    gave side old new stream case units n header what follows is.told (omega (arith, length-drop old.used stream.places))
    (λ head same. length_is head same ∙ sym (header_there stream units (record { place = old.used + n; what = what }) old.used n bytes tail is.begins refl le rest))
    (next_told side old.used (λ _. head_unit side) stream case units is.tells is.within
    ∙ ap (λ rest. unit_at old.used (head_unit side rest)) rest ∙ shows tail old.used)

pub head_goes : (side : Side) (old new : Half) (search : Search) (stream : Stream) (case : Case) (units : List MessageUnit)
    → IsAtHead side old stream case units → Knows search ending.Head (searched head_limit (drop old.used stream.places))
    → new.used ≡ old.used + 0 → new.ended ≡ old.ended → new.state ≡ state.Head search → HalfStands side new stream case units
head_goes side old new search stream case units is knows used ended then = record {
  within = let within = is.within in omega arith;
  told = λ over. is.told (sym ended ∙ over);
  how = subst (λ now. HowStands (phase_of now) side new stream case units) (sym then) inside;
}
  where
    same : new.used ≡ old.used
    same = omega arith

    tells : TellsAs side new.used (λ _. head_unit side) stream case units
    tells = subst (λ used. TellsAs side used (λ _. head_unit side) stream case units) (sym same) is.tells

    inside : IsInside side new stream case units
    inside = record {
      tells = subst (λ now. TellsAs side new.used (means_at now side) stream case units) (sym then) tells;
      knows = subst (λ now. KnowsAt now (drop new.used stream.places)) (sym then)
          (subst (λ used. Knows search ending.Head (searched head_limit (drop used stream.places))) (sym same) knows);
      head = subst (λ now. HeadBegins now new.used units) (sym then) (same ∙ is.begins);
      content = subst (λ now. HoldsData new.used now stream case units) (sym then)
          (λ behind. is.nothing (first_places new.used stream units ++ behind) ∙ ap (λ first. first ++ []) (sym (is.nothing (first_places new.used stream units))));
    }

pub head_none : (side : Side) (old : Half) (stream : Stream) (case : Case) (units : List MessageUnit) (places : List Place)
    → IsAtHead side old stream case units → drop old.used stream.places ≡ places → head_unit side places ≡ Waits 0 → next_in stream side case units ≡ None
head_none side old stream case units places is rest waits =
    next_told side old.used (λ _. head_unit side) stream case units is.tells is.within
    ∙ ap (λ rest. unit_at old.used (head_unit side rest)) rest ∙ ap (unit_at old.used) waits

-- ---- between two messages

pub begins_head : (side : Side) (half : Half) (stream : Stream) (case : Case) (units : List MessageUnit) → half.state ≡ state.Between
    → HalfStands side half stream case units → case ≡ Before → IsAtHead side half stream case units
begins_head side half stream case units is stands before =
    let how : HowStands (phase_of state.Between) side half stream case units = subst (λ now. HowStands (phase_of now) side half stream case units) is stands.how in
    record {
      within = stands.within;
      told = stands.told;
      tells = record {
        free = λ held. absurd cc;
        tells = λ ended behind ends.
            ap (λ case. later (place units) (decide side case (header_length stream units) ended (drop (place units) stream.places ++ behind))) before
            ∙ ap (λ used. later used (head_unit side (drop used stream.places ++ behind))) (sym how.0);
        begun = omega (arith, how.0);
      };
      begins = how.0;
      nothing = λ places. ap (λ case. data_by case places) before;
    }

pub goes_on_head : (side : Side) (half : Half) (search : Search) (stream : Stream) (case : Case) (units : List MessageUnit) → half.state ≡ state.Head search
    → HalfStands side half stream case units → IsAtHead side half stream case units × Knows search ending.Head (searched head_limit (drop half.used stream.places))
goes_on_head side half search stream case units is stands =
    let how : HowStands (phase_of (state.Head search)) side half stream case units = subst (λ now. HowStands (phase_of now) side half stream case units) is stands.how in
    let begins : half.used ≡ place units = subst (λ now. HeadBegins now half.used units) is how.head in
    let content : HoldsData half.used (state.Head search) stream case units = subst (λ now. HoldsData half.used now stream case units) is how.content in
    let none : first_places half.used stream units ≡ [] = none_first half.used stream units begins in (
      record {
        within = stands.within;
        told = stands.told;
        tells = subst (λ now. TellsAs side half.used (means_at now side) stream case units) is how.tells;
        begins = begins;
        nothing = λ places.
            ap (λ first. data_by case (first ++ places)) (sym none) ∙ content places
            ∙ ap (λ first. data_by case first ++ []) none ∙ append-nil (data_by case []) ∙ by_none case;
      },
      subst (λ now. KnowsAt now (drop half.used stream.places)) is how.knows,
    )

-- a side behind which nothing comes stays so
pub stays_over : (side : Side) (new : Half) (stream : Stream) (case : Case) (units : List MessageUnit) → case ≡ Over → new.used ≤ length stream.places
    → (new.ended ≡ true → stream.ended ≡ true) → new.state ≡ state.Over → HalfStands side new stream case units
stays_over side new stream case units over within told then = record {
  within = within;
  told = told;
  how = subst (λ now. HowStands (phase_of now) side new stream case units) (sym then) over;
}

pub over_is : (side : Side) (half : Half) (stream : Stream) (case : Case) (units : List MessageUnit) → half.state ≡ state.Over
    → HalfStands side half stream case units → case ≡ Over
over_is side half stream case units is stands = subst (λ now. HowStands (phase_of now) side half stream case units) is stands.how

-- what is known of all places that follow is known of the bytes that are lent
knows_same : (part : Part) (places others : List Place) → bytes_before_gap places ≡ bytes_before_gap others → KnowsIn part places → KnowsIn part others
knows_same (Places left) places others same knows = tt
knows_same ToEnd places others same knows = tt
knows_same (Size search) places others same knows = subst (λ all. Knows search ending.Line (take chunk_line_limit all)) same knows
knows_same (Chunk left) places others same knows = tt
knows_same Return places others same knows = tt
knows_same Feed places others same knows = tt
knows_same (Trailer search) places others same knows = subst (λ all. Knows search ending.Section (take head_limit all)) same knows
knows_same Tunnel places others same knows = tt
knows_same (Unknown why) places others same knows = tt

pub body_knows_all : (side : Side) (half : Half) (reading : Reading) (stream : Stream) (case : Case) (units : List MessageUnit) → half.state ≡ state.Body reading
    → HalfStands side half stream case units → KnowsIn reading.part (drop half.used stream.places)
body_knows_all side half reading stream case units is stands =
    let how : HowStands (phase_of (state.Body reading)) side half stream case units = subst (λ now. HowStands (phase_of now) side half stream case units) is stands.how in
    subst (λ now. KnowsAt now (drop half.used stream.places)) is how.knows

pub body_knows : (side : Side) (half : Half) (reading : Reading) (stream : Stream) (case : Case) (units : List MessageUnit) (bytes : List ℕ) → half.state ≡ state.Body reading
    → HalfStands side half stream case units → IsLentTo half stream bytes → KnowsIn reading.part (places_of bytes)
body_knows side half reading stream case units bytes is stands lent =
    knows_same reading.part (drop half.used stream.places) (places_of bytes) (sym lent.bytes_are ∙ sym (before_gap-places bytes))
    (body_knows_all side half reading stream case units is stands)

-- ---- waiting for the other side

-- all that wait are the bytes that are lent
pub waiting_moves : (side : Side) (old new : Half) (stream : Stream) (case : Case) (units : List MessageUnit) (bytes : List ℕ) (found : Option MessageUnit)
    → MovesWaiting side old new stream case units (length bytes) found → Moves side old new stream case units bytes found
waiting_moves side old new stream case units bytes None moves = (moves.0, λ all. moves.1 all.front)
waiting_moves side old new stream case units bytes (Some unit) gave = gave

-- ---- a gap

-- the bytes and the gap that follow what was used, and what stands behind them
pub gap_split : (half : Half) (stream : Stream) (unused n after : ℕ) → HasGapIn half stream unused n after
    → drop half.used stream.places
    ≡ (places_of (bytes_before_gap (drop half.used stream.places)) ++ replicate n None) ++ drop n (drop (half.used + unused) stream.places)
gap_split half stream unused n after has =
    let rest = drop half.used stream.places in
    let bytes = bytes_before_gap rest in
    let behind : drop (length bytes) rest ≡ drop (half.used + unused) stream.places = ap (λ n. drop n rest) has.bytes_are ∙ drop-drop unused half.used stream.places in
    let parts : drop (half.used + unused) stream.places ≡ replicate n None ++ drop n (drop (half.used + unused) stream.places) =
    sym (take-append-drop n (drop (half.used + unused) stream.places)) ∙ ap (λ gap. gap ++ drop n (drop (half.used + unused) stream.places)) has.gap in
    split rest ∙ ap (λ behind. places_of bytes ++ behind) (behind ∙ parts)
    ∙ sym (append_assoc (places_of bytes) (replicate n None) (drop n (drop (half.used + unused) stream.places)))

abbrev pub gap_places : Half → Stream → ℕ → List Place
gap_places half stream n = places_of (bytes_before_gap (drop half.used stream.places)) ++ replicate n None

pub length-gap_places : (half : Half) (stream : Stream) (unused n after : ℕ) → HasGapIn half stream unused n after → length (gap_places half stream n) ≡ unused + n
length-gap_places half stream unused n after has =
    let bytes = bytes_before_gap (drop half.used stream.places) in
    omega (arith, has.bytes_are, length-append (places_of bytes) (replicate {A = Place} n None), length-places bytes, length-replicate {A = Place} n None)

pub head_gap_gave : (side : Side) (old new : Half) (stream : Stream) (case : Case) (units : List MessageUnit) (unused n after : ℕ) → 0 < n
    → IsAtHead side old stream case units → EndsNowhere ending.Head (searched head_limit (drop old.used stream.places)) → unused < head_limit
    → HasGapIn old stream unused n after → Follows old new (unused + 1) 0 (kind.Violation Gap)
    → Gave side new stream case units (record { place = old.used + (unused + 1); what = kind.Violation Gap })
head_gap_gave side old new stream case units unused n after some is nowhere short has follows =
    let bytes = bytes_before_gap (drop old.used stream.places) in
    let tail = drop n (drop (old.used + unused) stream.places) in
    let one : length bytes + 1 ≡ unused + 1 = omega (arith, has.bytes_are) in
    gave side old new stream case units (unused + 1) 0 (kind.Violation Gap) follows is.told (omega (arith, has.front))
    (λ head same. absurd cc)
    (next_told side old.used (λ _. head_unit side) stream case units is.tells is.within
    ∙ ap (λ rest. unit_at old.used (head_unit side rest)) (gap_split old stream unused n after has)
    ∙ head_gap_shows side bytes n some nowhere (omega (arith, has.bytes_are)) tail old.used
    ∙ ap (λ n. Some (record { place = old.used + n; what = kind.Violation Gap })) one)

-- nothing of a head stands there
pub nowhere_none : (half : Half) (stream : Stream) (unused n after : ℕ) → HasGapIn half stream unused n after → unused ≡ 0
    → EndsNowhere ending.Head (searched head_limit (drop half.used stream.places))
nowhere_none half stream unused n after has none =
    subst (λ bytes. EndsNowhere ending.Head (take head_limit bytes)) (sym (none_left (bytes_before_gap (drop half.used stream.places)) (has.bytes_are ∙ none)))
    nothing
  where
    nothing : EndsNowhere ending.Head []
    nothing zero le = refl
    nothing (suc k) le = absurd (omega arith)

-- what a search knows of bytes that it has looked at
pub nowhere_known : (search : Search) (half : Half) (stream : Stream) (unused n after : ℕ) → HasGapIn half stream unused n after
    → Knows search ending.Head (searched head_limit (drop half.used stream.places)) → search.seen ≡ unused
    → EndsNowhere ending.Head (searched head_limit (drop half.used stream.places))
nowhere_known search half stream unused n after has knows seen k le =
    knows.none k (omega (arith, has.bytes_are, length-take head_limit (bytes_before_gap (drop half.used stream.places))))

pub body_knows_gap : (side : Side) (half : Half) (reading : Reading) (stream : Stream) (case : Case) (units : List MessageUnit) (n : ℕ) → 0 < n
    → half.state ≡ state.Body reading → HalfStands side half stream case units → KnowsIn reading.part (gap_places half stream n)
body_knows_gap side half reading stream case units n some is stands =
    knows_same reading.part (drop half.used stream.places) (gap_places half stream n)
    (sym (before_gap-gap (bytes_before_gap (drop half.used stream.places)) n some)) (body_knows_all side half reading stream case units is stands)

-- the gap goes on, and the side doesn't wait
pub body_passes : (side : Side) (old new : Half) (reading next : Reading) (stream : Stream) (case : Case) (units : List MessageUnit) (unused n count after used : ℕ)
    → old.state ≡ state.Body reading → HalfStands side old stream case units → HasGapIn old stream unused count after → 0 < count
    → Goes reading next n (gap_places old stream count) → DataGoes reading.part next.part n (gap_places old stream count) → n ≡ count → unused ≡ 0
    → new.used ≡ old.used + n → new.ended ≡ old.ended → new.state ≡ state.Body next → used ≡ n
    → HalfStands side new stream case units × ((used ≡ 0) ↔ (case ≡ Held)) × (used ≡ 0 → next_in stream side case units ≡ None)
body_passes side old new reading next stream case units unused n count after used is stands has some goes data_goes all none used_is ended then given = (
  body_goes side old new reading next stream case units (gap_places old stream count) (drop count (drop (old.used + unused) stream.places)) n is stands
      (gap_split old stream unused count after has) goes data_goes (omega (arith, length-gap_places old stream unused count after has)) used_is ended then,
  (λ zero. absurd (omega arith), λ held. absurd ((inside_is side old reading stream case units is stands).free held)),
  λ zero. absurd (omega arith),
)

-- a side that nothing more comes of uses all
pub passes_over : (side : Side) (new : Half) (stream : Stream) (case : Case) (units : List MessageUnit) (used : ℕ) → case ≡ Over → new.used ≤ length stream.places
    → (new.ended ≡ true → stream.ended ≡ true) → new.state ≡ state.Over → 0 < used
    → HalfStands side new stream case units × ((used ≡ 0) ↔ (case ≡ Held)) × (used ≡ 0 → next_in stream side case units ≡ None)
passes_over side new stream case units used over within told then some = (
  stays_over side new stream case units over within told then,
  (λ zero. absurd (omega arith), λ held. absurd cc),
  λ zero. absurd (omega arith),
)

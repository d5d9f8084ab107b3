-- A stream that is taken run by run.
use Rattle.std.proofs.Common.{◌≡◌, ℕ, ◌+◌, ◌≤◌, ◌==◌, Bool, true, false, cond, not, ◌&&◌, List, [], ◌∷◌, ◌++◌, length, map, take, drop, Option, None, Some, is_some, refl, sym, ap, subst, ◌∙◌, arith, append_assoc}
use Rattle.zk_base.specs.declared.network.Side.{Side}
use Rattle.zk_base.specs.declared.numbers.ConnNo.{ConnNo}
use Rattle.zk_reasm.specs.Histories.{content, counted, ended_of, front_of, gap_of, run_of}
use Rattle.zk_reasm.specs.declared.stream.Stream.{Stream}
use Rattle.zk_reasm.specs.Direction.{front, steps}
use Rattle.zk_reasm.specs.Standing.{StandsFor}
use Rattle.zk_reasm.specs.Told.{Told, fin_place}
use Rattle.zk_traffic.specs.declared.news.Gap.{Gap as Code}
use Rattle.zk_traffic.specs.declared.news.News.{News}
use Rattle.zk_traffic.specs.declared.streams.Moved.{Moved}
use Rattle.zk_conn.specs.Segment.{has_syn}
use Rattle.zk_traffic.specs.Conversation.{Direction, stop_told, stream_of, told_more}
use Rattle.zk_traffic.specs.Segments.{Segment}
use Rattle.zk_traffic.specs.Streams.{IsStream}
use Rattle.zk_traffic.specs.Fresh.{FreshRun}
use Rattle.zk_traffic.specs.Items.{fresh_run}
use Rattle.zk_traffic.specs.Moves.{Adds, Begins, HasMoved, IsDrained, front_moved, first_gap, first_run, gap_in, stretch}
use Rattle.zk_traffic.specs.News.{runs_of}
use Rattle.zk_traffic.specs.Places.{Gap, Run, gaps_from, runs_from}
use Rattle.zk_http.specs.Places.{Both, Stream as Placed, of_side}
use Rattle.zk_reasm.proofs.LawLemmas.{front_never_falls}
use Rattle.zk_traffic.proofs.ReadLemmas.{gets_more, gets_none, reads_none, reads_some}
use Rattle.zk_units.specs.declared.protocol.Protocol.{Protocol}
use Rattle.zk_traffic.specs.declared.reading.Reading.{Reading}
use Rattle.zk_units.specs.declared.stream_unit.StreamUnit.{StreamUnit}
use Rattle.zk_units.specs.Cuts.{byte_places}
use Rattle.zk_traffic.specs.Reading.{Gets, StandsFor as ReadersStand}
use Rattle.zk_units.specs.Standing.{ended_by, with_stream}
use Rattle.zk_traffic.proofs.PlaceLemmas.{content_behind, gaps-bytes, gaps-first, length-content, runs-bytes, runs-first}
use Rattle.std.proofs.lemmas.Bool.{true≢false}
use Rattle.std.proofs.lemmas.List.{append-nil, length-map, map-append, take-append-drop}

-- the first run and the gap behind it, as they are added
pub adds_first : (conn : ConnNo) (side : Side) (base limit : ℕ) (told : List Told) (place : ℕ) (bytes : List ℕ) (gap end : ℕ) (old new : News)
    → bytes ≡ run_of (content base limit told place) → gap ≡ gap_of (content base limit told place) → end ≡ place + length bytes
    → runs_of new ≡ runs_of old ++ cond (length bytes == 0) [] (record { conn = conn; side = side; from = place; bytes = bytes } ∷ [])
    → new.gaps.items ≡ old.gaps.items ++ cond (gap == 0) [] (record { side = side; from = end; length = gap } ∷ []) → new.«units».items ≡ old.«units».items
    → Adds conn side (first_run place (content base limit told place)) (first_gap place (content base limit told place)) old new
adds_first conn side base limit told place bytes gap end old new run_is gap_is end_is runs gaps units = record {
  runs_are = runs ∙ ap (λ b. runs_of old ++ cond (length b == 0) [] (record { conn = conn; side = side; from = place; bytes = b } ∷ [])) run_is ∙ ap (λ l. runs_of old ++ l) (in_run (length run == 0));
  gaps_are = gaps
      ∙ ap (λ g. old.gaps.items ++ cond (g == 0) [] (record { side = side; from = end; length = g } ∷ [])) gap_is
      ∙ ap (λ e. old.gaps.items ++ cond (gap_of places == 0) [] (record { side = side; from = e; length = gap_of places } ∷ [])) (end_is ∙ ap (λ (b : List ℕ). place + length b) run_is)
      ∙ ap (λ l. old.gaps.items ++ l) (in_gap (gap_of places == 0));
  units_are = units;
}
  where
    places : List (Option ℕ)
    places = content base limit told place

    run : List ℕ
    run = run_of places

    in_run : (b : Bool) → cond {A = List FreshRun} b [] (record { conn = conn; side = side; from = place; bytes = run } ∷ []) ≡ map (fresh_run conn.0 side) (cond {A = List Run} b [] (record { from = place; bytes = run } ∷ []))
    in_run true = refl
    in_run false = refl

    in_gap : (b : Bool) → cond {A = List Code} b [] (record { side = side; from = place + length run; length = gap_of places } ∷ []) ≡ map (gap_in side) (cond {A = List Gap} b [] (record { from = place + length run; length = gap_of places } ∷ []))
    in_gap true = refl
    in_gap false = refl

-- nothing is added where there is nothing
pub adds_none : (conn : ConnNo) (side : Side) (news : News) → Adds conn side [] [] news news
adds_none conn side news = record { runs_are = sym (append-nil (runs_of news)); gaps_are = sym (append-nil news.gaps.items); units_are = refl }

-- what is added bit by bit
pub adds_more : (conn : ConnNo) (side : Side) (runs more : List Run) (gaps further : List Gap) (old between new : News) → Adds conn side runs gaps old between
    → Adds conn side more further between new → Adds conn side (runs ++ more) (gaps ++ further) old new
adds_more conn side runs more gaps further old between new first second = record {
  runs_are = second.runs_are ∙ ap (λ l. l ++ map (fresh_run conn.0 side) more) first.runs_are
      ∙ append_assoc (runs_of old) (map (fresh_run conn.0 side) runs) (map (fresh_run conn.0 side) more)
      ∙ ap (λ l. runs_of old ++ l) (sym (map-append (fresh_run conn.0 side) runs more));
  gaps_are = second.gaps_are ∙ ap (λ l. l ++ map (gap_in side) further) first.gaps_are
      ∙ append_assoc old.gaps.items (map (gap_in side) gaps) (map (gap_in side) further)
      ∙ ap (λ l. old.gaps.items ++ l) (sym (map-append (gap_in side) gaps further));
  units_are = second.units_are ∙ first.units_are;
}

-- the first run, and all behind it
pub adds_behind : (conn : ConnNo) (side : Side) (base limit : ℕ) (told : List Told) (place next : ℕ) (old between new : News)
    → next ≡ place + stretch (content base limit told place)
    → Adds conn side (first_run place (content base limit told place)) (first_gap place (content base limit told place)) old between
    → Adds conn side (runs_from next (content base limit told next)) (gaps_from next (content base limit told next)) between new
    → Adds conn side (runs_from place (content base limit told place)) (gaps_from place (content base limit told place)) old new
adds_behind conn side base limit told place next old between new next_is first rest =
    let places = content base limit told place in
    let n = stretch places in
    let behind = ap (content base limit told) next_is ∙ content_behind base limit told place n in
    let runs = ap (λ l. runs_from next l) behind ∙ ap (λ at. runs_from at (drop n places)) next_is in
    let gaps = ap (λ l. gaps_from next l) behind ∙ ap (λ at. gaps_from at (drop n places)) next_is in
    subst (λ r. Adds conn side r (gaps_from place places) old new) (ap (λ r. first_run place places ++ r) runs ∙ sym (runs-first place places))
    (subst (λ g. Adds conn side (first_run place places ++ runs_from next (content base limit told next)) g old new) (ap (λ g. first_gap place places ++ g) gaps ∙ sym (gaps-first place places))
    (adds_more conn side (first_run place places) (runs_from next (content base limit told next)) (first_gap place places) (gaps_from next (content base limit told next)) old between new first rest))

-- the readers get the first run, and all behind it
pub gets_behind : (side : Side) (base limit : ℕ) (told : List Told) (place next : ℕ) (was between is : Reading) → next ≡ place + stretch (content base limit told place)
    → Gets side (take (stretch (content base limit told place)) (content base limit told place)) was between → Gets side (content base limit told next) between is
    → Gets side (content base limit told place) was is
gets_behind side base limit told place next was between is next_is first rest =
    let places = content base limit told place in
    subst (λ l. Gets side l was is)
    (ap (λ l. take (stretch places) places ++ l) (ap (content base limit told) next_is ∙ content_behind base limit told place (stretch places)) ∙ take-append-drop (stretch places) places)
    (gets_more side (take (stretch places) places) (content base limit told next) was between is first rest)

-- nothing stands at the front
content-none : (base limit : ℕ) (told : List Told) (at : ℕ) → at ≡ front_of base limit told → content base limit told at ≡ []
content-none base limit told at is = empty (content base limit told at) (omega (arith, is, length-content base limit told at))
  where
    empty : (l : List (Option ℕ)) → length l ≡ 0 → l ≡ []
    empty [] none = refl
    empty (x ∷ l) none = absurd (omega (arith, none))

pub drained : (conn : ConnNo) (side : Side) (base limit : ℕ) (told : List Told) (from at : ℕ) (stream : Stream) (old news new : News) (was readers is_r : Reading)
    → at ≡ front_of base limit told → StandsFor stream base limit told at → new ≡ news
    → ((n : News) → Adds conn side (runs_from at (content base limit told at)) (gaps_from at (content base limit told at)) news n
    → Adds conn side (runs_from from (content base limit told from)) (gaps_from from (content base limit told from)) old n)
    → is_r ≡ readers → ((r : Reading) → Gets side (content base limit told at) readers r → Gets side (content base limit told from) was r)
    → IsDrained conn side base limit told from stream old new was is_r
drained conn side base limit told from at stream old news new was readers is_r is stands same adds same_r gets = record {
  stands = subst (StandsFor stream base limit told) is stands;
  adds = subst (λ n. Adds conn side (runs_from from (content base limit told from)) (gaps_from from (content base limit told from)) old n) (sym same)
      (adds news (subst (λ l. Adds conn side (runs_from at l) (gaps_from at l) news news) (sym (content-none base limit told at is)) (adds_none conn side news)));
  gets = subst (Gets side (content base limit told from) was) (sym same_r)
      (gets readers (subst (λ l. Gets side l readers readers) (sym (content-none base limit told at is)) (gets_none side readers)));
}

-- a stream that passed on all that was new
pub passed_on : (conn : ConnNo) (side : Side) (base limit : ℕ) (told : List Told) (from : ℕ) (run : List ℕ) (stream : Stream) (old new : News) (was is_r : Reading)
    → content base limit told from ≡ byte_places run → StandsFor stream base limit told (from + length run) → from ≤ front_of base limit told
    → runs_of new ≡ runs_of old ++ cond (length run == 0) [] (record { conn = conn; side = side; from = from; bytes = run } ∷ [])
    → new.gaps.items ≡ old.gaps.items → new.«units».items ≡ old.«units».items → Gets side (byte_places run) was is_r
    → IsDrained conn side base limit told from stream old new was is_r
passed_on conn side base limit told from run stream old new was is_r all stands within runs gaps units gets = record {
  stands = subst (StandsFor stream base limit told)
      (let len = ap (λ (l : List (Option ℕ)). length l) all in let e : from + length run ≡ front_of base limit told = omega (arith, len, length-content base limit told from, length-map {B = Option ℕ} run (λ byte. Some byte), within) in e) stands;
  adds = record {
    runs_are = runs ∙ ap (λ l. runs_of old ++ l) (in_run (length run == 0) ∙ ap (map (fresh_run conn.0 side)) (sym (ap (runs_from from) all ∙ runs-bytes from run)));
    gaps_are = gaps ∙ sym (append-nil old.gaps.items) ∙ ap (λ l. old.gaps.items ++ map (gap_in side) l) (sym (ap (gaps_from from) all ∙ gaps-bytes from run));
    units_are = units;
  };
  gets = subst (λ l. Gets side l was is_r) (sym all) gets;
}
  where
    in_run : (b : Bool) → cond {A = List FreshRun} b [] (record { conn = conn; side = side; from = from; bytes = run } ∷ []) ≡ map (fresh_run conn.0 side) (cond {A = List Run} b [] (record { from = from; bytes = run } ∷ []))
    in_run true = refl
    in_run false = refl

-- a stream that was told nothing
pub front-new : (base limit : ℕ) → front_of base limit [] ≡ 0
unfolding front counted steps
front-new base limit = refl

pub ended-new : (base limit : ℕ) → ended_of base limit [] ≡ false
unfolding counted fin_place
ended-new base limit = refl

stream-new : (base limit : ℕ) → stream_of limit (Some (record { base = base; told = [] })) ≡ record { places = []; ended = false }
stream-new base limit =
    ap (λ l. record { places = l; ended = ended_of base limit [] }) (content-none base limit [] 0 (sym (front-new base limit))) ∙ ap (λ b. record { places = []; ended = b }) (ended-new base limit)

-- a stream that a SYN begins
pub begins_new : (limit : ℕ) (resets was_reset : Bool) (s : Segment) (d : Option Direction) (old : Option Stream) (new : Stream) → IsStream limit old d → is_some old ≡ false
    → has_syn s.view ≡ true → StandsFor new s.view.seq limit [] 0 → Begins limit resets was_reset s d was_reset (Some new)
begins_new limit resets was_reset s None None new is none syn stands = record {
  now = Some (record { base = s.view.seq; told = [] });
  stands = subst (StandsFor new s.view.seq limit []) (sym (front-new s.view.seq limit)) stands;
  told = sym (ap (λ b. cond b (Some (record { base = s.view.seq; told = stop_told was_reset })) None) syn);
  front_is = front-new s.view.seq limit;
  ended_is = ended-new s.view.seq limit;
  stream_is = stream-new s.view.seq limit;
}
begins_new limit resets was_reset s (Some d) None new is none syn stands = absurd is
begins_new limit resets was_reset s d (Some old) new is none syn stands = absurd (true≢false none)

-- a stream that is there is that of a direction
pub of_some : (P : Option Direction → Type 0) (limit : ℕ) (stream : Stream) (d : Option Direction) → IsStream limit (Some stream) d
    → ((e : Direction) → StandsFor stream e.base limit e.told (front_of e.base limit e.told) → P (Some e)) → P d
of_some P limit stream None is then = absurd is
of_some P limit stream (Some d) is then = then d is

-- a front is never behind one before it
pub front-within : (base limit front : ℕ) (told first more : List Told) → front ≡ front_of base limit told → front ≤ front_of base limit (told ++ first ++ more)
front-within base limit front told first more is = omega (arith, is, front_never_falls base limit told first, front_never_falls base limit (told ++ first) more)

-- a stream that was told more, and was taken up to its front
pub moves_some : (limit : ℕ) (conn : ConnNo) (side : Side) (d : Direction) (first more : List Told) (front : ℕ) (had_ended ended : Bool) (stream : Stream) (moved : Moved) (old new : News) (was between is_r : Reading)
    → front ≡ front_of d.base limit d.told → had_ended ≡ ended_of d.base limit d.told
    → IsDrained conn side d.base limit (d.told ++ first ++ more) front stream old new was between → ended ≡ ended_of d.base limit (d.told ++ first ++ more)
    → ((protocol : Option Protocol) (streams : Both Placed) (units : Both (List StreamUnit)) → ReadersStand between protocol streams units
    → ReadersStand is_r protocol (with_stream side (ended_by (of_side side streams) ended) streams) units)
    → (moved.front ≡ front_moved front (front_of d.base limit (d.told ++ first ++ more))) × (moved.ended ≡ (ended_of d.base limit (d.told ++ first ++ more) && not had_ended))
    → HasMoved limit conn side (Some d) (told_more more (told_more first (Some d))) moved (Some stream) old new was is_r
moves_some limit conn side d first more front had_ended ended stream moved old new was between is_r front_is ended_is drained now ends moves = record {
  stands = drained.stands;
  front_is = moves.0 ∙ ap (λ f. front_moved f (front_of d.base limit (d.told ++ first ++ more))) front_is;
  ended_is = moves.1 ∙ ap (λ b. ended_of d.base limit (d.told ++ first ++ more) && not b) ended_is;
  adds = subst (λ f. Adds conn side (runs_from f (content d.base limit (d.told ++ first ++ more) f)) (gaps_from f (content d.base limit (d.told ++ first ++ more) f)) old new) front_is drained.adds;
  reads = λ protocol streams units same stands.
      subst (λ l. ReadersStand is_r protocol (with_stream side (stream_of limit (Some (record { base = d.base; told = l }))) streams) units) (sym (append_assoc d.told first more))
      (reads_some limit side d (first ++ more) front ended was between is_r front_is (now ∙ ap (ended_of d.base limit) (append_assoc d.told first more))
      (subst (λ l. Gets side (content d.base limit l front) was between) (append_assoc d.told first more) drained.gets) ends protocol streams units same stands);
}

-- a stream that is not there
pub unmoved : (limit : ℕ) (conn : ConnNo) (side : Side) (d : Option Direction) (first more : List Told) (news : News) (readers : Reading) → IsStream limit None d
    → HasMoved limit conn side d (told_more more (told_more first d)) (record { front = None; ended = false }) None news news readers readers
unmoved limit conn side None first more news readers is = record {
  stands = tt;
  front_is = refl;
  ended_is = refl;
  adds = adds_none conn side news;
  reads = λ protocol streams units none stands. reads_none side readers protocol streams units none stands;
}
unmoved limit conn side (Some d) first more news readers is = absurd is

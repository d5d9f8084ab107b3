-- What the readers of a connection are given, bit by bit.
use Rattle.std.proofs.Common.{◌≡◌, ℕ, suc, ◌+◌, Bool, true, false, ◌||◌, List, [], ◌∷◌, ◌++◌, take, Option, None, Some, refl, sym, ap, subst, ◌∙◌, arith, append_assoc}
use Rattle.std.specs.Prelude.{is_none}
use Rattle.std.specs.List.{prefix_len}
use Rattle.std.proofs.lemmas.List.{append-nil}
use Rattle.zk_base.specs.Places.{Place}
use Rattle.zk_base.specs.declared.network.Side.{Side}
use Rattle.zk_base.specs.declared.network.Side.TheVariants.{Orig, Resp}
use Rattle.zk_base.specs.Sides.{other}
use Rattle.zk_http.specs.Places.{Both, Stream, of_side}
use Rattle.zk_reasm.specs.Between.{places_between}
use Rattle.zk_reasm.specs.Histories.{byte_of_stream, content, ended_of, front_of, gap_of, run_of}
use Rattle.zk_reasm.specs.Told.{Told}
use Rattle.zk_reasm.proofs.BelowLemmas.{stays_below, stays_ended}
use Rattle.zk_reasm.proofs.ContentLemmas.{places_between-same}
use Rattle.zk_reasm.proofs.LawLemmas.{front_never_falls}
use Rattle.zk_reasm.proofs.RangeLemmas.{places_between-none, places_between-split}
use Rattle.zk_traffic.specs.Conversation.{Conversation, Direction, direction, direction_with, stream_of, streams_of}
use Rattle.zk_traffic.specs.Moves.{stretch}
use Rattle.zk_traffic.specs.Segments.{Segment}
use Rattle.zk_traffic.proofs.PlaceLemmas.{gap_of-some, run_of-some, stretch-byte, stretch-gap}
use Rattle.zk_units.specs.declared.protocol.Protocol.{Protocol}
use Rattle.zk_traffic.specs.declared.reading.Reading.{Reading}
use Rattle.zk_units.specs.declared.stream_unit.StreamUnit.{StreamUnit}
use Rattle.zk_units.specs.Cuts.{byte_places, gap_places}
use Rattle.zk_traffic.specs.Reading.{Gets, StandsFor}
use Rattle.zk_units.specs.Standing.{behind, ended_by, with_stream}

pub gets_none : (side : Side) (readers : Reading) → Gets side [] readers readers
gets_none side readers = record { stands = λ protocol streams units none is. subst (λ x. StandsFor readers protocol x units) (sym (same side streams)) is }
  where
    same : (side : Side) (streams : Both Stream) → with_stream side (behind (of_side side streams) []) streams ≡ streams
    same Orig streams = ap (λ l. record { orig = record { places = l; ended = streams.orig.ended }; resp = streams.resp }) (append-nil streams.orig.places)
    same Resp streams = ap (λ l. record { orig = streams.orig; resp = record { places = l; ended = streams.resp.ended } }) (append-nil streams.resp.places)

first_none : {A : Type 0} (p q : List A) → p ++ q ≡ [] → p ≡ []
first_none [] q is = refl
first_none (x ∷ p) q is = absurd (apart is)
  where
    apart : x ∷ (p ++ q) ≡ [] → ⊥
    apart e = cc

second_none : {A : Type 0} (p q : List A) → p ++ q ≡ [] → q ≡ []
second_none [] q is = is
second_none (x ∷ p) q is = absurd (apart is)
  where
    apart : x ∷ (p ++ q) ≡ [] → ⊥
    apart e = cc

pub gets_more : (side : Side) (p q : List Place) (a b c : Reading) → Gets side p a b → Gets side q b c → Gets side (p ++ q) a c
gets_more Orig p q a b c first second = record {
  stands = λ protocol streams units none is.
      subst (λ l. StandsFor c protocol (record { orig = record { places = l; ended = streams.orig.ended }; resp = streams.resp }) units) (append_assoc streams.orig.places p q)
      (second.stands protocol (with_stream Orig (behind streams.orig p) streams) units (λ e. second_none p q (none e)) (first.stands protocol streams units (λ e. first_none p q (none e)) is));
}
gets_more Resp p q a b c first second = record {
  stands = λ protocol streams units none is.
      subst (λ l. StandsFor c protocol (record { orig = streams.orig; resp = record { places = l; ended = streams.resp.ended } }) units) (append_assoc streams.resp.places p q)
      (second.stands protocol (with_stream Resp (behind streams.resp p) streams) units (λ e. second_none p q (none e)) (first.stands protocol streams units (λ e. first_none p q (none e)) is));
}

-- the first run and the gap behind it, as places
pub stretch-places : (places : List Place) → take (stretch places) places ≡ byte_places (run_of places) ++ gap_places (gap_of places)
stretch-places [] = refl
stretch-places (Some byte ∷ places) =
    ap (λ n. take n (Some byte ∷ places)) (stretch-byte byte places) ∙ ap (λ l. Some byte ∷ l) (stretch-places places)
    ∙ sym (ap (λ l. byte_places l ++ gap_places (gap_of (Some byte ∷ places))) (run_of-some byte places)
    ∙ ap (λ n. Some byte ∷ (byte_places (run_of places) ++ gap_places n)) (gap_of-some byte places))
stretch-places (None ∷ places) =
    ap (λ n. take n (None ∷ places)) (stretch-gap places) ∙ ap (λ l. None ∷ l) (gaps places)
    ∙ sym (ap gap_places more)
  where
    first : gap_of (None ∷ places) ≡ 1 + prefix_len is_none places
    first = refl

    more : gap_of (None ∷ places) ≡ suc (prefix_len is_none places)
    more = omega (arith, first)

    gaps : (l : List Place) → take (prefix_len is_none l) l ≡ gap_places (prefix_len is_none l)
    gaps [] = refl
    gaps (Some byte ∷ l) = refl
    gaps (None ∷ l) = one (prefix_len is_none l) (gaps l)
      where
        one : (n : ℕ) → take n l ≡ gap_places n → take (1 + n) (None ∷ l) ≡ gap_places (1 + n)
        one n is = ap (λ m. take m (None ∷ l)) (let e : 1 + n ≡ suc n = omega arith in e) ∙ ap (λ x. None ∷ x) is ∙ sym (ap gap_places (let e : 1 + n ≡ suc n = omega arith in e))

-- a stream that has grown: what was there stays
content-grows : (base limit : ℕ) (told more : List Told) → content base limit (told ++ more) 0 ≡ content base limit told 0 ++ content base limit (told ++ more) (front_of base limit told)
unfolding content
content-grows base limit told more =
    places_between-split (byte_of_stream base limit (told ++ more)) 0 (front_of base limit told) (front_of base limit (told ++ more)) (omega arith) (front_never_falls base limit told more)
    ∙ ap (λ l. l ++ places_between (byte_of_stream base limit (told ++ more)) (front_of base limit told) (front_of base limit (told ++ more)))
    (places_between-same (byte_of_stream base limit (told ++ more)) (byte_of_stream base limit told) 0 (front_of base limit told) (λ at low high. stays_below base limit at told more high))

none_behind : (base limit : ℕ) (told more : List Told) → ended_of base limit told ≡ true → content base limit (told ++ more) (front_of base limit told) ≡ []
unfolding content
none_behind base limit told more ended =
    places_between-none (byte_of_stream base limit (told ++ more)) (front_of base limit told) (front_of base limit (told ++ more)) (omega (arith, (stays_ended base limit told more ended).0))

ended_or : (a b : Bool) → (a ≡ true → b ≡ true) → (a || b) ≡ b
ended_or true b then = sym (then refl)
ended_or false b then = refl

stream_same : (p q : List Place) (a b : Bool) → p ≡ q → a ≡ b → (let r : Stream = record { places = p; ended = a } in r) ≡ (let r : Stream = record { places = q; ended = b } in r)
stream_same p q a b first second = cc

-- a side's stream that was told more: its new places stand behind, and its end was told
stream_grown : (d : Direction) (limit : ℕ) (more : List Told) (stream : Stream) (ended : Bool) → stream ≡ stream_of limit (Some d) → ended ≡ ended_of d.base limit (d.told ++ more)
    → ended_by (behind stream (content d.base limit (d.told ++ more) (front_of d.base limit d.told))) ended ≡ stream_of limit (Some (record { base = d.base; told = d.told ++ more }))
stream_grown d limit more stream ended is ended_is =
    ap (λ (s : Stream). ended_by (behind s (content d.base limit (d.told ++ more) (front_of d.base limit d.told))) ended) is
    ∙ stream_same _ _ _ _ (sym (content-grows d.base limit d.told more))
    (ap (λ b. ended_of d.base limit d.told || b) ended_is ∙ ended_or (ended_of d.base limit d.told) (ended_of d.base limit (d.told ++ more)) (λ e. (stays_ended d.base limit d.told more e).1))

-- the readers of a stream that was told more
pub reads_some : (limit : ℕ) (side : Side) (d : Direction) (more : List Told) (front : ℕ) (ended : Bool) (was between is : Reading) → front ≡ front_of d.base limit d.told
    → ended ≡ ended_of d.base limit (d.told ++ more) → Gets side (content d.base limit (d.told ++ more) front) was between
    → ((protocol : Option Protocol) (streams : Both Stream) (units : Both (List StreamUnit)) → StandsFor between protocol streams units
    → StandsFor is protocol (with_stream side (ended_by (of_side side streams) ended) streams) units)
    → (protocol : Option Protocol) (streams : Both Stream) (units : Both (List StreamUnit)) → of_side side streams ≡ stream_of limit (Some d)
    → StandsFor was protocol streams units → StandsFor is protocol (with_stream side (stream_of limit (Some (record { base = d.base; told = d.told ++ more }))) streams) units
reads_some limit side d more front ended was between is front_is ended_is gets ends protocol streams units same stands =
    let places = content d.base limit (d.told ++ more) (front_of d.base limit d.told) in
    let got : Gets side places was between = subst (λ f. Gets side (content d.base limit (d.told ++ more) f) was between) front_is gets in
    subst (λ x. StandsFor is protocol x units)
    (twice side streams (behind (of_side side streams) places) ended ∙ ap (λ x. with_stream side x streams) (stream_grown d limit more (of_side side streams) ended same ended_is))
    (ends protocol (with_stream side (behind (of_side side streams) places) streams) units
    (got.stands protocol streams units (λ e. none_behind d.base limit d.told more (sym (ap (λ (s : Stream). s.ended) same) ∙ e)) stands))
  where
    twice : (side : Side) (streams : Both Stream) (y : Stream) (e : Bool) → with_stream side (ended_by (of_side side (with_stream side y streams)) e) (with_stream side y streams) ≡ with_stream side (ended_by y e) streams
    twice Orig streams y e = refl
    twice Resp streams y e = refl

-- the readers of a stream that is not there
pub reads_none : (side : Side) (readers : Reading) (protocol : Option Protocol) (streams : Both Stream) (units : Both (List StreamUnit)) → of_side side streams ≡ record { places = []; ended = false }
    → StandsFor readers protocol streams units → StandsFor readers protocol (with_stream side (record { places = []; ended = false }) streams) units
reads_none Orig readers protocol streams units none stands = subst (λ x. StandsFor readers protocol (record { orig = x; resp = streams.resp }) units) none stands
reads_none Resp readers protocol streams units none stands = subst (λ x. StandsFor readers protocol (record { orig = streams.orig; resp = x }) units) none stands

-- both streams of a conversation
pub both_read : (limit : ℕ) (c : Conversation) (s : Segment) (side : Side) (was between is : Reading)
    → ((protocol : Option Protocol) (streams : Both Stream) (units : Both (List StreamUnit)) → of_side side streams ≡ stream_of limit (direction c side)
    → StandsFor was protocol streams units → StandsFor between protocol (with_stream side (stream_of limit (direction_with c s side)) streams) units)
    → ((protocol : Option Protocol) (streams : Both Stream) (units : Both (List StreamUnit)) → of_side (other side) streams ≡ stream_of limit (direction c (other side))
    → StandsFor between protocol streams units → StandsFor is protocol (with_stream (other side) (stream_of limit (direction_with c s (other side))) streams) units)
    → (protocol : Option Protocol) (units : Both (List StreamUnit)) → StandsFor was protocol (streams_of limit c.orig c.resp) units
    → StandsFor is protocol (streams_of limit (direction_with c s Orig) (direction_with c s Resp)) units
both_read limit c s Orig was between is first second protocol units stands = second protocol _ units refl (first protocol _ units refl stands)
both_read limit c s Resp was between is first second protocol units stands = second protocol _ units refl (first protocol _ units refl stands)

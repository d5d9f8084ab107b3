-- The table of streams behind a segment.
use Rattle.std.proofs.Common.{inl, inr, ◌≡◌, ℕ, ◌+◌, ◌-◌, ◌^◌, ◌<◌, ◌≤◌, Bool, true, false, cond, not, ◌&&◌, List, [], ◌++◌, map, Option, None, Some, unwrap_or, refl, sym, ap, subst, ◌∙◌, arith}
use Rattle.std.specs.Option.{MatchOption}
use Rattle.std.specs.Prelude.{is_some, nat_eq, slice_get, ◌≢◌}
use Rattle.std.proofs.lemmas.Bool.{false≢true}
use Rattle.std.proofs.lemmas.Bool.Decides.{eqb_tells}
use Rattle.std.proofs.lemmas.Map.Made.{lookup_key_passes}
use Rattle.indexmap.specs.IndexMap.{get_key_by}
use Rattle.std.proofs.lemmas.List.{append-nil}
use Rattle.zk_base.specs.declared.network.Side.{Side}
use Rattle.zk_base.specs.declared.network.Side.TheVariants.{Orig, Resp}
use Rattle.zk_base.specs.declared.numbers.ConnNo.{ConnNo}
use Rattle.zk_base.specs.Sides.{other}
use Rattle.zk_conn.specs.Instance.{same_side}
use Rattle.zk_conn.specs.Segment.{has_rst, has_syn}
use Rattle.zk_traffic.specs.declared.news.News.{News}
use Rattle.zk_traffic.specs.declared.stream_table.StreamTable.{StreamTable}
use Rattle.zk_traffic.specs.declared.streams.Moves.{Moves}
use Rattle.zk_traffic.specs.declared.streams.Streams.{Streams}
use Rattle.zk_traffic.specs.Conversation.{Conversation, Direction, acknowledged_told, begun_by, direction, direction_with, fin_told, front_at, has_ended, put_with, freed_with, protocol_of, resets, sender_in, sent_told, stop_told, stream_of, streams_of, told_more, was_reset_with, with_segment}
use Rattle.zk_traffic.specs.Items.{fresh_run, news_of}
use Rattle.zk_traffic.specs.Kept.{held_by, held_in, unread_in}
use Rattle.zk_traffic.specs.Moves.{HasTaken, IsMove, front_moved, gap_in}
use Rattle.zk_traffic.specs.News.{runs_of}
use Rattle.zk_traffic.specs.Places.{gaps_from, runs_from}
use Rattle.zk_traffic.specs.Segments.{Segment}
use Rattle.zk_traffic.specs.StreamTable.{HasRead, HasStreams, StandAt, Takes, entry_at}
use Rattle.zk_traffic.specs.Streams.{AreStreams, IsStream}
use Rattle.zk_http.specs.Places.{Both, Stream as Placed, of_side}
use Rattle.zk_traffic.specs.declared.reading.Reading.{Reading}
use Rattle.zk_units.specs.declared.protocol.Protocol.{Protocol}
use Rattle.zk_units.specs.declared.stream_unit.StreamUnit.{StreamUnit}
use Rattle.zk_traffic.specs.Reading.{Reads, StandsFor as ReadersStand, held_in as reader_held}
use Rattle.zk_units.specs.Standing.{no_streams}
use Rattle.zk_units.specs.Units.{add_all, all_freed, bytes_unread, no_units}
use Rattle.zk_units.proofs.ReaderLemmas.{none_freed, none_unread}

-- numbers that are apart are told apart
pub apart_eq : (a b : ℕ) → b ≢ a → nat_eq a b ≡ false
apart_eq a b apart = elim (eqb_tells a b) [
  | inl same ↦ absurd (apart (sym same.1))
  | inr off ↦ off.0
]

told_same : (a b : ℕ) → nat_eq a b ≡ true → b ≡ a
told_same a b is = elim (eqb_tells a b) [
  | inl same ↦ sym same.1
  | inr off ↦ absurd (false≢true (sym off.0 ∙ is))
]

-- where the map finds a number, the streams of its connection stand
pub found_entry : (table : StreamTable) (index number key : ℕ) (streams : Streams) → get_key_by (nat_eq number) table.streams ≡ Some key → entry_at table number ≡ Some streams
    → slice_get table.streams.entries index ≡ Some (key, streams) → StandAt table index number
found_entry table index number key streams found value at =
    let same = told_same number key (lookup_key_passes (nat_eq number) table.streams.entries key found) in
    (streams, at ∙ ap (λ n. Some (n, streams)) same, value)

some_same : {A : Type 0} {x y : A} → Some x ≡ Some y → x ≡ y
some_same e = cc

-- what is read where the streams of a connection stand are its streams
pub stand_entry : (table : StreamTable) (index number key : ℕ) (streams : Streams) → StandAt table index number → slice_get table.streams.entries index ≡ Some (key, streams)
    → (slice_get table.streams.entries index ≡ Some (number, streams)) × (entry_at table number ≡ Some streams)
stand_entry table index number key streams stand read =
    let same = some_same (sym stand.1 ∙ read) in
    let is : stand.0 ≡ streams = ap (λ (e : ℕ × Streams). e.1) same in
    (stand.1 ∙ ap (λ s. Some (number, s)) is, stand.2 ∙ ap Some is)

-- a sum that was counted
pub counted_sum : (o : Option ℕ) (sum kept : ℕ) → MatchOption o (2 ^ 64 ≤ sum) (λ n. n ≡ sum) → sum ≤ kept → kept < 2 ^ 64 → unwrap_or o 0 ≡ sum
counted_sum None sum kept is within fits = absurd (omega (arith, is, within, fits))
counted_sum (Some n) sum kept is within fits = is

pub kept_as : (o : Option ℕ) (sum other : ℕ) → sum ≡ other → MatchOption o (2 ^ 64 ≤ sum) (λ n. n ≡ sum) → MatchOption o (2 ^ 64 ≤ other) (λ n. n ≡ other)
kept_as o sum other same is = subst (λ n. MatchOption o (2 ^ 64 ≤ n) (λ m. m ≡ n)) same is

none_some : {A : Type 0} (x : A) → None ≡ Some x → ⊥
none_some x e = cc

pub some_sum : (o : Option ℕ) (sum n : ℕ) → MatchOption o (2 ^ 64 ≤ sum) (λ m. m ≡ sum) → o ≡ Some n → n ≡ sum
some_sum None sum n is some = absurd (none_some n some)
some_sum (Some m) sum n is some = (let same : n ≡ m = cc in same) ∙ is

held_in-with : (limit : ℕ) (c : Conversation) (s : Segment) → held_in limit (with_segment limit c s)
    ≡ held_by limit (direction_with c s Orig) + held_by limit (direction_with c s Resp) + (unread_in limit (with_segment limit c s) Orig + unread_in limit (with_segment limit c s) Resp)
unfolding with_segment
held_in-with limit c s = refl

no_places : (limit : ℕ) (c : Conversation) → c.orig ≡ None → c.resp ≡ None → (side : Side) → (of_side side (streams_of limit c.orig c.resp)).places ≡ []
no_places limit c orig resp Orig = ap (λ d. (stream_of limit d).places) orig
no_places limit c orig resp Resp = ap (λ d. (stream_of limit d).places) resp

pub unread_none : (limit : ℕ) (c : Conversation) → c.orig ≡ None → c.resp ≡ None → (side : Side) → unread_in limit c side ≡ 0
unread_none limit c orig resp side = none_unread (protocol_of c) side (streams_of limit c.orig c.resp) c.«units» (no_places limit c orig resp side)

-- no streams hold nothing
pub held_none : (limit : ℕ) (c : Conversation) → c.orig ≡ None → c.resp ≡ None → held_in limit c ≡ 0
held_none limit c orig resp =
    omega (arith, ap (held_by limit) orig, ap (held_by limit) resp, unread_none limit c orig resp Orig, unread_none limit c orig resp Resp)

held_none-with : (limit : ℕ) (c : Conversation) (s : Segment) → direction_with c s Orig ≡ None → direction_with c s Resp ≡ None → held_in limit (with_segment limit c s) ≡ 0
unfolding with_segment
held_none-with limit c s orig resp = held_none limit (with_segment limit c s) orig resp

-- what the streams and their readers hold is what the conversation's streams and units say
pub held_is : (limit : ℕ) (c : Conversation) (reads : Reading) → HasRead limit reads c
    → held_by limit c.orig + held_by limit c.resp + (reader_held Orig reads + reader_held Resp reads) ≡ held_in limit c
held_is limit c reads has = omega (arith, has.left Orig, has.left Resp)

unread_with : (limit : ℕ) (c : Conversation) (s : Segment) (reads : Reading)
    → ((side : Side) → reader_held side reads ≡ bytes_unread (protocol_of c) side (streams_of limit (direction_with c s Orig) (direction_with c s Resp)) (add_all (freed_with limit c s) c.«units»))
    → (side : Side) → reader_held side reads ≡ unread_in limit (with_segment limit c s) side
unfolding with_segment
unread_with limit c s reads left side = left side

pub has_streams-with : (limit : ℕ) (c : Conversation) (s : Segment) (streams : Streams) → AreStreams limit streams (direction_with c s Orig) (direction_with c s Resp)
    → ReadersStand streams.readers (protocol_of c) (streams_of limit (direction_with c s Orig) (direction_with c s Resp)) (add_all (freed_with limit c s) c.«units»)
    → ((side : Side) → reader_held side streams.readers ≤ 65536) → ((side : Side) → reader_held side streams.readers ≡ unread_in limit (with_segment limit c s) side)
    → HasStreams limit (Some streams) (with_segment limit c s)
unfolding with_segment
has_streams-with limit c s streams are stands few left = (are, record { stands = stands; few = few; left = left })

-- no streams free nothing
freed-none : (limit : ℕ) (c : Conversation) (s : Segment) → direction_with c s Orig ≡ None → direction_with c s Resp ≡ None → c.«units» ≡ no_units → freed_with limit c s ≡ []
unfolding freed_with
freed-none limit c s orig resp none =
    ap (λ u. all_freed (protocol_of c) (sender_in c s) (streams_of limit (direction_with c s Orig) (direction_with c s Resp)) u) none
    ∙ ap (λ d. all_freed (protocol_of c) (sender_in c s) (streams_of limit d (direction_with c s Resp)) no_units) orig
    ∙ ap (λ d. all_freed (protocol_of c) (sender_in c s) (streams_of limit None d) no_units) resp ∙ none_freed (protocol_of c) (sender_in c s)

has_none-with : (limit : ℕ) (c : Conversation) (s : Segment) → direction_with c s Orig ≡ None → direction_with c s Resp ≡ None → c.«units» ≡ no_units → HasStreams limit None (with_segment limit c s)
unfolding with_segment
has_none-with limit c s orig resp none = (orig, resp, ap (λ l. add_all l c.«units») (freed-none limit c s orig resp none) ∙ none)

freed-are : (limit : ℕ) (c : Conversation) (s : Segment) → all_freed (protocol_of c) (sender_in c s) (streams_of limit (direction_with c s Orig) (direction_with c s Resp)) c.«units» ≡ freed_with limit c s
unfolding freed_with
freed-are limit c s = refl

pub not_some : (o : Option Streams) → is_some o ≡ false → o ≡ None
not_some None is = refl
not_some (Some streams) is = absurd (apart is)
  where
    apart : true ≡ false → ⊥
    apart e = cc

-- new streams, of a connection that has none
pub has_new : (limit : ℕ) (c : Conversation) (streams : Streams) (protocol : Option Protocol) → protocol ≡ protocol_of c → (c.orig ≡ None) × (c.resp ≡ None) × (c.«units» ≡ no_units)
    → AreStreams limit streams None None → ReadersStand streams.readers protocol no_streams no_units → ((side : Side) → reader_held side streams.readers ≡ 0) → HasStreams limit (Some streams) c
has_new limit c streams protocol is none are stands held = (
  record {
    orig_is = subst (λ d. IsStream limit streams.orig d) (sym none.0) are.orig_is;
    resp_is = subst (λ d. IsStream limit streams.resp d) (sym none.1) are.resp_is;
  },
  record {
    stands = subst (λ u. ReadersStand streams.readers (protocol_of c) (streams_of limit c.orig c.resp) u) (sym none.2)
        (subst (λ d. ReadersStand streams.readers (protocol_of c) (streams_of limit c.orig d) no_units) (sym none.1)
        (subst (λ d. ReadersStand streams.readers (protocol_of c) (streams_of limit d None) no_units) (sym none.0)
        (subst (λ p. ReadersStand streams.readers p no_streams no_units) is stands)));
    few = λ side. omega (arith, held side);
    left = λ side. held side ∙ sym (unread_none limit c none.0 none.1 side);
  },
)

pub takes_some : (limit : ℕ) (conn : ConnNo) (c : Conversation) (s : Segment) (moves : Moves) (before after : StreamTable) (was_streams taken_streams streams : Streams) (old between new : News) (side : Side) (was is : ℕ)
    → HasTaken limit conn c s moves was_streams.readers taken_streams old between → HasRead limit was_streams.readers c → side ≡ sender_in c s
    → (streams.orig ≡ taken_streams.orig) × (streams.resp ≡ taken_streams.resp) → (runs_of new ≡ runs_of between) × (new.gaps.items ≡ between.gaps.items)
    → ((protocol : Option Protocol) (placed : Both Placed) (given : Both (List StreamUnit)) → ReadersStand taken_streams.readers protocol placed given
    → Reads side taken_streams.readers streams.readers between.«units».items new.«units».items protocol placed given)
    → entry_at after conn.0 ≡ Some streams → was ≡ held_in limit c
    → is ≡ held_by limit (direction_with c s Orig) + held_by limit (direction_with c s Resp) + (reader_held Orig streams.readers + reader_held Resp streams.readers) → held_in limit c ≤ before.kept → after.kept ≡ before.kept - was + is
    → Takes limit conn c s moves before after old new
takes_some limit conn c s moves before after was_streams taken_streams streams old between new side was is taken has side_is same news_same read there was_is is_is within kept = record {
  entry = subst (λ o. HasStreams limit o (with_segment limit c s)) (sym there) (has_streams-with limit c s streams
      (record { orig_is = subst (λ x. IsStream limit x (direction_with c s Orig)) (sym same.0) taken.stands.orig_is; resp_is = subst (λ x. IsStream limit x (direction_with c s Resp)) (sym same.1) taken.stands.resp_is })
      (subst (λ l. ReadersStand streams.readers (protocol_of c) placed (add_all l c.«units»)) freed_is all.stands) all.few left);
  kept_is = omega (arith, was_is, is_is, within, kept, held_in-with limit c s, left Orig, left Resp);
  moves_are = record {
    sender = taken.sender;
    receiver = taken.receiver;
    gave_up = taken.gave_up;
    runs_are = news_same.0 ∙ taken.runs_are;
    gaps_are = news_same.1 ∙ taken.gaps_are;
    units_are = all.given ∙ ap (λ l. l ++ all_freed (protocol_of c) side placed c.«units») taken.units_are ∙ ap (λ l. old.«units».items ++ l) freed_is;
  };
}
  where
    placed : Both Placed
    placed = streams_of limit (direction_with c s Orig) (direction_with c s Resp)

    all : Reads side taken_streams.readers streams.readers between.«units».items new.«units».items (protocol_of c) placed c.«units»
    all = read (protocol_of c) placed c.«units» (taken.reads (protocol_of c) c.«units» has.stands)

    freed_is : all_freed (protocol_of c) side placed c.«units» ≡ freed_with limit c s
    freed_is = ap (λ x. all_freed (protocol_of c) x placed c.«units») side_is ∙ freed-are limit c s

    left : (of : Side) → reader_held of streams.readers ≡ unread_in limit (with_segment limit c s) of
    left = unread_with limit c s streams.readers (λ of. all.left of ∙ ap (λ l. bytes_unread (protocol_of c) of placed (add_all l c.«units»)) freed_is)

no_direction : (c : Conversation) → c.orig ≡ None → c.resp ≡ None → (side : Side) → direction c side ≡ None
no_direction c orig resp Orig = orig
no_direction c orig resp Resp = resp

none_begun : (resets was : Bool) (s : Segment) (d : Option Direction) → d ≡ None → has_syn s.view ≡ false → begun_by resets was s d ≡ None
none_begun resets was s d none syn = ap (begun_by resets was s) none ∙ ap (λ b. cond b (Some (record { base = s.view.seq; told = stop_told was })) None) syn

either : {A : Type 0} (b : Bool) (x y z : A) → x ≡ z → y ≡ z → cond b x y ≡ z
either true x y z first second = first
either false x y z first second = second

none_with : (c : Conversation) (s : Segment) → c.orig ≡ None → c.resp ≡ None → has_syn s.view ≡ false → (side : Side) → direction_with c s side ≡ None
none_with c s orig resp syn side = either (same_side side (sender_in c s)) _ _ None
    (ap (told_more (sent_told s)) (none_begun (resets c s) (was_reset_with c s) s (direction c (sender_in c s)) (no_direction c orig resp (sender_in c s)) syn))
    (ap (λ d. told_more (acknowledged_told s) (told_more (stop_told (resets c s)) d)) (no_direction c orig resp side))

no_move : (limit : ℕ) (c : Conversation) (s : Segment) (side : Side) → direction c side ≡ None → direction_with c s side ≡ None
    → IsMove limit c s side (record { front = None; ended = false })
no_move limit c s side before after = record {
  front_is = sym (ap (λ d. front_moved (front_at limit d) (front_at limit (direction_with c s side))) before ∙ ap (λ d. front_moved 0 (front_at limit d)) after);
  ended_is = sym (ap (λ d. has_ended limit d && not (has_ended limit (direction c side))) after);
}

and_false : (b : Bool) → (b && false) ≡ false
and_false true = refl
and_false false = refl

pub takes_none : (limit : ℕ) (conn : ConnNo) (c : Conversation) (s : Segment) (before after : StreamTable) (news : News) → c.orig ≡ None → c.resp ≡ None → c.«units» ≡ no_units
    → has_syn s.view ≡ false → entry_at after conn.0 ≡ None → after.kept ≡ before.kept
    → Takes limit conn c s (record { sender = record { front = None; ended = false }; receiver = record { front = None; ended = false }; gave_up = false }) before after news news
takes_none limit conn c s before after news orig resp none syn there kept = record {
  entry = subst (λ o. HasStreams limit o (with_segment limit c s)) (sym there) (has_none-with limit c s (with_none Orig) (with_none Resp) none);
  kept_is = omega (arith, kept, held_none limit c orig resp, held_none-with limit c s (with_none Orig) (with_none Resp));
  moves_are = record {
    sender = no_move limit c s (sender_in c s) (no_direction c orig resp (sender_in c s)) (with_none (sender_in c s));
    receiver = no_move limit c s (other (sender_in c s)) (no_direction c orig resp (other (sender_in c s))) (with_none (other (sender_in c s)));
    gave_up = sym (ap (λ d. not (has_rst s.view) && put_with limit s (told_more (fin_told s) d)) (none_begun (resets c s) (was_reset_with c s) s (direction c (sender_in c s)) (no_direction c orig resp (sender_in c s)) syn)
        ∙ and_false (not (has_rst s.view)));
    runs_are = sym (ap (λ l. runs_of news ++ l)
        (ap (λ l. map (fresh_run conn.0 (sender_in c s)) l ++ map (fresh_run conn.0 (other (sender_in c s))) (runs_from (front_at limit (direction c (other (sender_in c s)))) (news_of limit (front_at limit (direction c (other (sender_in c s)))) (direction_with c s (other (sender_in c s)))))) (runs_none (sender_in c s))
        ∙ ap (λ l. map (fresh_run conn.0 (other (sender_in c s))) l) (runs_none (other (sender_in c s))))
        ∙ append-nil (runs_of news));
    gaps_are = sym (ap (λ l. news.gaps.items ++ l)
        (ap (λ l. map (gap_in (sender_in c s)) l ++ map (gap_in (other (sender_in c s))) (gaps_from (front_at limit (direction c (other (sender_in c s)))) (news_of limit (front_at limit (direction c (other (sender_in c s)))) (direction_with c s (other (sender_in c s)))))) (gaps_none (sender_in c s))
        ∙ ap (λ l. map (gap_in (other (sender_in c s))) l) (gaps_none (other (sender_in c s))))
        ∙ append-nil news.gaps.items);
    units_are = sym (ap (λ l. news.«units».items ++ l) (freed-none limit c s (with_none Orig) (with_none Resp) none) ∙ append-nil news.«units».items);
  };
}
  where
    with_none : (side : Side) → direction_with c s side ≡ None
    with_none = none_with c s orig resp syn

    runs_none : (side : Side) → runs_from (front_at limit (direction c side)) (news_of limit (front_at limit (direction c side)) (direction_with c s side)) ≡ []
    runs_none side = ap (λ d. runs_from (front_at limit (direction c side)) (news_of limit (front_at limit (direction c side)) d)) (with_none side)

    gaps_none : (side : Side) → gaps_from (front_at limit (direction c side)) (news_of limit (front_at limit (direction c side)) (direction_with c s side)) ≡ []
    gaps_none side = ap (λ d. gaps_from (front_at limit (direction c side)) (news_of limit (front_at limit (direction c side)) d)) (with_none side)

-- the streams are the same behind a reading
pub same_streams : (limit : ℕ) (c : Conversation) (s : Segment) (old new : Streams) → (new.orig ≡ old.orig) × (new.resp ≡ old.resp)
    → AreStreams limit old (direction_with c s Orig) (direction_with c s Resp) → AreStreams limit new (direction_with c s Orig) (direction_with c s Resp)
same_streams limit c s old new same are = record {
  orig_is = subst (λ x. IsStream limit x (direction_with c s Orig)) (sym same.0) are.orig_is;
  resp_is = subst (λ x. IsStream limit x (direction_with c s Resp)) (sym same.1) are.resp_is;
}

-- no streams are those of two directions that are not there
pub none_has : (limit : ℕ) (entry : Option Streams) (c : Conversation) → entry ≡ None → HasStreams limit entry c → (c.orig ≡ None) × (c.resp ≡ None) × (c.«units» ≡ no_units)
none_has limit None c none has = has
none_has limit (Some streams) c none has = absurd (none_some streams (sym none))

pub some_has : (limit : ℕ) (entry : Option Streams) (streams : Streams) (c : Conversation) → entry ≡ Some streams → HasStreams limit entry c → AreStreams limit streams c.orig c.resp × HasRead limit streams.readers c
some_has limit entry streams c some has = subst (λ o. HasStreams limit o c) some has

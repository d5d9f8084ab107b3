-- All that the table does with a segment.
use Rattle.std.proofs.Common.{◌≡◌, ◌≢◌, ℕ, ◌≤◌, Bool, true, false, not, ◌&&◌, ◌||◌, List, [], ◌∷◌, ◌++◌, Option, Some, sym, ap, subst, ◌∙◌}
use Rattle.std.specs.Prelude.{All}
use Rattle.zk_base.specs.declared.network.Side.{Side}
use Rattle.zk_base.specs.Sides.{other}
use Rattle.zk_conn.specs.declared.conns.Conns.{Conns}
use Rattle.zk_conn.specs.declared.conns.Touched.{Touched}
use Rattle.zk_conn.specs.declared.key.Key.{Key}
use Rattle.zk_conn.specs.Histories as conn
use Rattle.zk_conn.specs.Instance.{Opening, end_of, is_reset, opening, originator, responder}
use Rattle.zk_conn.specs.Segment.{has_syn, is_tcp, key_of}
use Rattle.zk_conn.specs.Standing as conns
use Rattle.zk_conn.specs.State.{is_open}
use Rattle.zk_conn.specs.Told.{Told, Packet}
use Rattle.zk_traffic.specs.declared.news.News.{News}
use Rattle.zk_traffic.specs.declared.stream_table.StreamTable.{StreamTable}
use Rattle.zk_traffic.specs.declared.streams.Moved.{Moved}
use Rattle.zk_traffic.specs.declared.streams.Moves.{Moves}
use Rattle.zk_traffic.specs.declared.streams.Stops.{Stops}
use Rattle.zk_traffic.specs.declared.table.Done.{Done}
use Rattle.zk_traffic.specs.declared.table.Table.{Table}
use Rattle.zk_traffic.specs.Conversation.{Conversation, datagram_units, direction, direction_with, has_ended, moved_with, originator_of, protocol_of, resets, sender_in, was_reset_with, with_packet}
use Rattle.zk_traffic.specs.Instances.{begins, joined_by, latest, number_of}
use Rattle.zk_traffic.specs.Kept.{held_in}
use Rattle.zk_traffic.specs.News.{runs_of}
use Rattle.zk_traffic.specs.Segments.{Segment}
use Rattle.zk_traffic.specs.StreamTable.{HasStreams, Takes, entry_at}
use Rattle.zk_traffic.specs.Table.{Holds, TakesSegment, gone_by, moved_told}
use Rattle.zk_traffic.proofs.EndLemmas.{moved_quiet, receiver_ends, sender_ends}
use Rattle.zk_traffic.proofs.PacketLemmas.{latest-packet, live-packet, opening-packet, touched-is}
use Rattle.zk_traffic.proofs.StepLemmas.{held_found, moved_told-is, segment_taken, streams_found}
use Rattle.zk_traffic.proofs.ToldLemmas.{AreQuiet, latest-quiet, live_more, opening-more}
use Rattle.zk_units.specs.declared.protocol.Protocol.{Protocol}
use Rattle.zk_units.specs.Protocols.{protocol_at}

-- connections were told how a stream has moved, and whether that closed its side's end
pub record Tells (old new : Conns) (number : ℕ) (side : Side) (moved : Moved) (ended : Bool) : Type 0 where
  pub told : (told : List Told) (key : Key) → conns.StandsFor old told → conn.IsLive told key number → conns.StandsFor new (told ++ moved_told key side moved)
  pub ended_is : (told : List Told) (key : Key) (first : Opening) → conns.StandsFor old told → conn.IsLive told key number → opening (conn.latest key told) ≡ Some first
      → ended ≡ (moved.ended && is_open (end_of (originator first.packet) side (conn.latest key told)))

pub taken_all : (old new : Table) (limit : ℕ) (segments : List Segment) (told : List Told) (s : Segment) (touched : Touched) (stops : Stops) (moves : Moves) (reached received : Bool) (done : Done)
    (with_it between : Conns) (streams : StreamTable) (peer : Side) (protocol : Option Protocol) (first_news news news' : News)
    → Holds old limit segments (gone_by limit segments s.moment) told → All (conn.Precedes s.moment) told
    → touched ≡ conn.touched_of told s.moment s.view → conns.StandsFor with_it (told ++ Packet s.moment s.view ∷ [])
    → stops.resets ≡ touched.reset
    → ((l : List Told) (key : Key) (first : Opening) → conns.StandsFor with_it l → conn.IsLive l key touched.conn.0 → opening (conn.latest key l) ≡ Some first → has_syn s.view ≡ true
    → stops.was_reset ≡ is_reset (originator first.packet) (conn.latest key l))
    → ((l : List Told) (key : Key) (first : Opening) → conns.StandsFor with_it l → conn.IsLive l key touched.conn.0 → opening (conn.latest key l) ≡ Some first → has_syn s.view ≡ true
    → protocol ≡ protocol_at first.packet.proto (responder first.packet).port)
    → ((l : List Told) (key : Key) (first : Opening) → conns.StandsFor with_it l → conn.IsLive l key touched.conn.0 → opening (conn.latest key l) ≡ Some first → is_tcp s.view.proto ≡ false
    → protocol ≡ protocol_at first.packet.proto (responder first.packet).port)
    → runs_of news ≡ runs_of first_news → news.gaps.items ≡ first_news.gaps.items
    → ((c : Conversation) → touched.side ≡ sender_in c s → (is_tcp s.view.proto ≡ false → protocol ≡ protocol_of c) → news.«units».items ≡ first_news.«units».items ++ datagram_units c s)
    → streams.limit ≡ old.streams.limit → ((n : ℕ) → n ≢ touched.conn.0 → entry_at streams n ≡ entry_at old.streams n)
    → ((c : Conversation) → HasStreams old.streams.limit (entry_at old.streams touched.conn.0) c → touched.side ≡ sender_in c s → stops.resets ≡ resets c s
    → (has_syn s.view ≡ true → stops.was_reset ≡ was_reset_with c s) → (has_syn s.view ≡ true → protocol ≡ protocol_of c) → held_in old.streams.limit c ≤ old.streams.kept → Takes old.streams.limit touched.conn c s moves old.streams streams news news')
    → peer ≡ other touched.side → Tells with_it between touched.conn.0 touched.side moves.sender reached → Tells between new.conns touched.conn.0 peer moves.receiver received
    → new.streams ≡ streams
    → done.conn ≡ touched.conn → done.side ≡ touched.side → done.opened ≡ touched.opened → done.established ≡ touched.established → done.sender_ended ≡ (touched.ended || reached)
    → done.receiver_ended ≡ received → done.gave_up ≡ moves.gave_up → done.reset ≡ touched.reset
    → TakesSegment limit segments s done new first_news news'
taken_all old new limit segments told s touched stops moves reached received done with_it between streams peer protocol first_news news news' holds order touched_is stands_with resets_is was_is syn_is datagram_is same_runs same_gaps datagram limit_is others take peer_is tells_first tells_second streams_are conn_is side_is opened established sender_ended receiver_ended gave_up reset =
    segment_taken old new limit segments told s done moves first_news news news' holds order
    (record {
      conn_is = ap (λ n. n.0) conn_is ∙ number_is;
      side_is = side_is ∙ sender_is;
      opened = opened ∙ ap (λ (t : Touched). t.opened) did;
      established = established ∙ ap (λ (t : Touched). t.established) did;
      sender_ended = sender_ended ∙ sender_ends limit c s touched.ended reached (ap (λ (t : Touched). t.ended) did)
          (subst (λ x. reached ≡ (moves.sender.ended && is_open (end_of (originator_of c) x (conn.latest key told_with)))) sender_is (tells_first.ended_is told_with key c.first stands_with live_with begun_with)
          ∙ ap (λ b. b && is_open (end_of (originator_of c) side (conn.latest key told_with))) takes.moves_are.sender.ended_is
          ∙ ap (λ l. (has_ended limit (direction_with c s side) && not (has_ended limit (direction c side))) && is_open (end_of (originator_of c) side l)) latest_with);
      receiver_ended = receiver_ended ∙ receiver_ends limit c s received
          (subst (λ x. received ≡ (moves.receiver.ended && is_open (end_of (originator_of c) x (conn.latest key (told_with ++ first))))) other_is (tells_second.ended_is (told_with ++ first) key c.first stands_between live_between begun_between)
          ∙ ap (λ b. b && is_open (end_of (originator_of c) (other side) (conn.latest key (told_with ++ first)))) takes.moves_are.receiver.ended_is
          ∙ ap (λ l. (has_ended limit (direction_with c s (other side)) && not (has_ended limit (direction c (other side)))) && is_open (end_of (originator_of c) (other side) l)) latest_between);
      gave_up = gave_up ∙ takes.moves_are.gave_up;
      reset = reset ∙ ap (λ (t : Touched). t.reset) did;
    })
    (subst (λ x. conns.StandsFor new.conns (told_with ++ moved_told key side moves.sender ++ moved_told key x moves.receiver)) other_is
    (subst (λ l. conns.StandsFor new.conns (told_with ++ l ++ moved_told key peer moves.receiver)) (sym first_is)
    (tells_second.told (told_with ++ first) key stands_between live_between)))
    (ap (λ (x : StreamTable). x.limit) streams_are ∙ limit_is)
    (λ n apart. ap (λ x. entry_at x n) streams_are ∙ others n (λ same. apart (same ∙ sym (ap (λ x. x.0) conn_is))))
    (subst (λ x. Takes limit done.conn c s moves old.streams x news news') (sym streams_are) (subst (λ x. Takes limit x c s moves old.streams streams news news') (sym conn_is) takes))
    same_runs same_gaps (datagram c sender_is (λ udp. datagram_is told_with key c.first stands_with live_with begun_with udp))
  where
    key : Key
    key = key_of s.view

    c : Conversation
    c = joined_by (latest limit (key_of s.view) segments) s

    side : Side
    side = sender_in c s

    told_with : List Told
    told_with = told ++ Packet s.moment s.view ∷ []

    first : List Told
    first = moved_with limit c s side

    did : touched ≡ conn.touched_by (originator_of c) (number_of limit key (segments ++ s ∷ [])) (begins (latest limit key segments) s) s.view c.events (with_packet c s)
    did = touched_is ∙ touched-is old limit segments told s holds

    number_is : touched.conn.0 ≡ number_of limit key (segments ++ s ∷ [])
    number_is = ap (λ (t : Touched). t.conn.0) did

    sender_is : touched.side ≡ side
    sender_is = ap (λ (t : Touched). t.side) did

    other_is : peer ≡ other side
    other_is = peer_is ∙ ap other sender_is

    latest_with : conn.latest key told_with ≡ with_packet c s
    latest_with = latest-packet old limit segments told s holds

    begun_with : opening (conn.latest key told_with) ≡ Some c.first
    begun_with = ap opening latest_with ∙ opening-packet limit segments s

    live_with : conn.IsLive told_with key touched.conn.0
    live_with = subst (conn.IsLive told_with key) (sym number_is) (live-packet old limit segments told s holds)

    takes : Takes limit touched.conn c s moves old.streams streams news news'
    takes = subst (λ l. Takes l touched.conn c s moves old.streams streams news news') holds.limit_is
        (take c
        (subst (λ l. HasStreams l (entry_at old.streams touched.conn.0) c) (sym holds.limit_is)
        (subst (λ n. HasStreams limit (entry_at old.streams n) c) (sym number_is) (streams_found old limit segments told s holds)))
        sender_is (resets_is ∙ ap (λ (t : Touched). t.reset) did)
        (λ syn. was_is told_with key c.first stands_with live_with begun_with syn ∙ ap (is_reset (originator_of c)) latest_with)
        (λ syn. syn_is told_with key c.first stands_with live_with begun_with syn)
        (subst (λ l. held_in l c ≤ old.streams.kept) (sym holds.limit_is) (held_found old limit segments told s holds)))

    first_is : moved_told key side moves.sender ≡ first
    first_is = moved_told-is limit key side (direction c side) (direction_with c s side) moves.sender takes.moves_are.sender.front_is takes.moves_are.sender.ended_is

    quiet_first : AreQuiet key first
    quiet_first = moved_quiet limit key side (direction c side) (direction_with c s side)

    stands_between : conns.StandsFor between (told_with ++ first)
    stands_between = subst (λ l. conns.StandsFor between (told_with ++ l)) first_is
        (subst (λ x. conns.StandsFor between (told_with ++ moved_told key x moves.sender)) sender_is (tells_first.told told_with key stands_with live_with))

    live_between : conn.IsLive (told_with ++ first) key touched.conn.0
    live_between = live_more key touched.conn.0 told_with first quiet_first live_with

    latest_between : conn.latest key (told_with ++ first) ≡ with_packet c s ++ first
    latest_between = latest-quiet key told_with first quiet_first ∙ ap (λ l. l ++ first) latest_with

    begun_between : opening (conn.latest key (told_with ++ first)) ≡ Some c.first
    begun_between = ap opening (latest-quiet key told_with first quiet_first) ∙ opening-more (conn.latest key told_with) first c.first begun_with

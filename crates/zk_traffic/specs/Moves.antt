-- How a segment moves a side's stream, as the code tells it.
use Rattle.std.specs.Prelude.{◌≡◌, ℕ, ◌+◌, ◌≤◌, Bool, not, ◌&&◌, ◌==◌, if◌then◌else◌, List, [], ◌∷◌, ◌++◌, length, map, take, Option, None, Some}
use Rattle.zk_base.specs.declared.network.Side.{Side}
use Rattle.zk_base.specs.declared.network.Side.TheVariants.{Orig, Resp}
use Rattle.zk_base.specs.declared.numbers.ConnNo.{ConnNo}
use Rattle.zk_base.specs.Places.{Place}
use Rattle.zk_base.specs.Sides.{other}
use Rattle.zk_http.specs.Places.{Both, Stream as Placed, of_side}
use Rattle.zk_reasm.specs.declared.stream.Stream.{Stream}
use Rattle.zk_reasm.specs.Histories.{content, front_of, gap_of, run_of}
use Rattle.zk_reasm.specs.Standing.{StandsFor}
use Rattle.zk_reasm.specs.Told.{Told}
use Rattle.zk_traffic.specs.declared.news.Gap.{Gap as Code}
use Rattle.zk_traffic.specs.declared.news.News.{News}
use Rattle.zk_traffic.specs.declared.reading.Reading.{Reading}
use Rattle.zk_traffic.specs.declared.streams.Moved.{Moved}
use Rattle.zk_traffic.specs.declared.streams.Moves.{Moves}
use Rattle.zk_traffic.specs.declared.streams.Streams.{Streams}
use Rattle.zk_traffic.specs.Conversation.{Conversation, Direction, begun_by, direction, direction_with, front_at, gives_up, has_ended, sender_in, stop_told, stream_of, streams_of, told_more}
use Rattle.zk_traffic.specs.Items.{fresh_run, fresh_with, gaps, news_of}
use Rattle.zk_traffic.specs.News.{runs_of}
use Rattle.zk_traffic.specs.Reading.{Gets}
use Rattle.zk_traffic.specs.Reading as reading
use Rattle.zk_traffic.specs.Segments.{Segment}
use Rattle.zk_traffic.specs.Streams.{AreStreams, IsStream}
use Rattle.zk_traffic.specs.Places.{Gap, Run, gaps_from, runs_from}
use Rattle.zk_units.specs.declared.protocol.Protocol.{Protocol}
use Rattle.zk_units.specs.declared.stream_unit.StreamUnit.{StreamUnit}
use Rattle.zk_units.specs.Standing.{with_stream}

-- a gap of a side's stream
abbrev pub gap_in : Side → Gap → Code
gap_in side gap = record { side = side; from = gap.from; length = gap.length }

-- the news have these runs and these gaps more
pub record Adds (conn : ConnNo) (side : Side) (runs : List Run) (gaps : List Gap) (old new : News) : Type 0 where
  pub runs_are : runs_of new ≡ runs_of old ++ map (fresh_run conn.0 side) runs
  pub gaps_are : new.gaps.items ≡ old.gaps.items ++ map (gap_in side) gaps
  pub units_are : new.«units».items ≡ old.«units».items

-- the first run of places that begin at a place, where there is one
abbrev pub first_run : ℕ → List Place → List Run
first_run at places = if length (run_of places) == 0 then [] else record { from = at; bytes = run_of places } ∷ []

-- the gap behind it, where there is one
abbrev pub first_gap : ℕ → List Place → List Gap
first_gap at places = if gap_of places == 0 then [] else record { from = at + length (run_of places); length = gap_of places } ∷ []

-- how many places both have
abbrev pub stretch : List Place → ℕ
stretch places = length (run_of places) + gap_of places

-- a stream's first run and the gap behind it were taken, up to a place; nothing was there where there is no place to go on from
abbrev pub IsTaken : ConnNo → Side → ℕ → ℕ → List Told → ℕ → Option ℕ → Stream → News → News → Reading → Reading → Type 0
IsTaken conn side base limit told place None stream old new was is =
    (place ≡ front_of base limit told) × StandsFor stream base limit told place × (new ≡ old) × (is ≡ was)
IsTaken conn side base limit told place (Some next) stream old new was is =
    (next ≡ place + stretch (content base limit told place)) × (next ≤ front_of base limit told) × StandsFor stream base limit told next
    × Adds conn side (first_run place (content base limit told place)) (first_gap place (content base limit told place)) old new
    × Gets side (take (stretch (content base limit told place)) (content base limit told place)) was is

-- a stream was taken up to its front
pub record IsDrained (conn : ConnNo) (side : Side) (base limit : ℕ) (told : List Told) (from : ℕ) (stream : Stream) (old new : News) (was is : Reading) : Type 0 where
  pub stands : StandsFor stream base limit told (front_of base limit told)
  pub adds : Adds conn side (runs_from from (content base limit told from)) (gaps_from from (content base limit told from)) old new
  pub gets : Gets side (content base limit told from) was is

-- a front is another one than before
abbrev pub front_moved : ℕ → ℕ → Option ℕ
front_moved before after = if before == after then None else Some after

-- a segment of a conversation has moved a side's stream so
pub record IsMove (limit : ℕ) (c : Conversation) (s : Segment) (side : Side) (moved : Moved) : Type 0 where
  pub front_is : moved.front ≡ front_moved (front_at limit (direction c side)) (front_at limit (direction_with c s side))
  pub ended_is : moved.ended ≡ (has_ended limit (direction_with c s side) && not (has_ended limit (direction c side)))

-- a side's stream has moved so, and was taken up to its front
pub record HasMoved (limit : ℕ) (conn : ConnNo) (side : Side) (before after : Option Direction) (moved : Moved) (stream : Option Stream) (old new : News) (was is : Reading) : Type 0 where
  pub stands : IsStream limit stream after
  pub front_is : moved.front ≡ front_moved (front_at limit before) (front_at limit after)
  pub ended_is : moved.ended ≡ (has_ended limit after && not (has_ended limit before))
  pub adds : Adds conn side (runs_from (front_at limit before) (news_of limit (front_at limit before) after))
      (gaps_from (front_at limit before) (news_of limit (front_at limit before) after)) old new
  pub reads : (protocol : Option Protocol) (streams : Both Placed) (units : Both (List StreamUnit)) → of_side side streams ≡ stream_of limit before
      → reading.StandsFor was protocol streams units → reading.StandsFor is protocol (with_stream side (stream_of limit after) streams) units

-- The sender's stream is there where it was, or the segment begins it; so it is to be stopped. A stream that begins has nothing, as before.
pub record Begins (limit : ℕ) (resets was_reset : Bool) (s : Segment) (before : Option Direction) (stop : Bool) (stream : Option Stream) : Type 0 where
  pub now : Option Direction
  pub stands : IsStream limit stream now
  pub told : told_more (stop_told stop) now ≡ begun_by resets was_reset s before
  pub front_is : front_at limit now ≡ front_at limit before
  pub ended_is : has_ended limit now ≡ has_ended limit before
  pub stream_is : stream_of limit now ≡ stream_of limit before

-- the gaps that a segment brings: the sender's first
abbrev pub segment_gaps : ℕ → Conversation → Segment → List Code
segment_gaps limit c s = map (gap_in (sender_in c s)) (gaps limit c s (sender_in c s)) ++ map (gap_in (other (sender_in c s))) (gaps limit c s (other (sender_in c s)))

-- a segment of a conversation has moved both streams so
pub record HasTaken (limit : ℕ) (conn : ConnNo) (c : Conversation) (s : Segment) (moves : Moves) (was : Reading) (streams : Streams) (old new : News) : Type 0 where
  pub stands : AreStreams limit streams (direction_with c s Orig) (direction_with c s Resp)
  pub sender : IsMove limit c s (sender_in c s) moves.sender
  pub receiver : IsMove limit c s (other (sender_in c s)) moves.receiver
  pub gave_up : moves.gave_up ≡ gives_up limit c s
  pub runs_are : runs_of new ≡ runs_of old ++ fresh_with limit conn.0 c s
  pub gaps_are : new.gaps.items ≡ old.gaps.items ++ segment_gaps limit c s
  pub units_are : new.«units».items ≡ old.«units».items
  pub reads : (protocol : Option Protocol) (units : Both (List StreamUnit)) → reading.StandsFor was protocol (streams_of limit c.orig c.resp) units
      → reading.StandsFor streams.readers protocol (streams_of limit (direction_with c s Orig) (direction_with c s Resp)) units

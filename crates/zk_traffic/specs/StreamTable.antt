-- What the table of streams has of a connection, and what a segment does there.
use Rattle.std.specs.Prelude.{◌≡◌, ℕ, ◌+◌, ◌≤◌, ◌++◌, nat_eq, slice_get, Option, Some, None}
use Rattle.indexmap.specs.IndexMap as indexed
use Rattle.zk_base.specs.declared.network.Side.{Side}
use Rattle.zk_base.specs.declared.numbers.ConnNo.{ConnNo}
use Rattle.zk_base.specs.Sides.{other}
use Rattle.zk_traffic.specs.declared.news.News.{News}
use Rattle.zk_traffic.specs.declared.reading.Reading.{Reading}
use Rattle.zk_traffic.specs.declared.stream_table.StreamTable.{StreamTable}
use Rattle.zk_traffic.specs.declared.streams.Moves.{Moves}
use Rattle.zk_traffic.specs.declared.streams.Streams.{Streams}
use Rattle.zk_traffic.specs.Conversation.{Conversation, freed_with, gives_up, protocol_of, sender_in, streams_of, with_segment}
use Rattle.zk_traffic.specs.Items.{fresh_with}
use Rattle.zk_traffic.specs.Kept.{held_in, unread_in}
use Rattle.zk_traffic.specs.Moves.{IsMove, segment_gaps}
use Rattle.zk_traffic.specs.News.{runs_of}
use Rattle.zk_traffic.specs.Reading as reading
use Rattle.zk_traffic.specs.Segments.{Segment}
use Rattle.zk_traffic.specs.Streams.{AreStreams}
use Rattle.zk_units.specs.Units.{no_units}

unfoldable pub entry_at : StreamTable → ℕ → Option Streams
entry_at table number = indexed.get nat_eq table.streams number

-- the streams of a connection stand at an index
abbrev pub StandAt : StreamTable → ℕ → ℕ → Type 0
StandAt table index number = (streams : Streams) × (slice_get table.streams.entries index ≡ Some (number, streams)) × (entry_at table number ≡ Some streams)

-- all units of the streams were read, and the bytes that are kept are those that are not read, few of each side
pub record HasRead (limit : ℕ) (reads : Reading) (c : Conversation) : Type 0 where
  pub stands : reading.StandsFor reads (protocol_of c) (streams_of limit c.orig c.resp) c.«units»
  pub few : (side : Side) → reading.held_in side reads ≤ 65536
  pub left : (side : Side) → reading.held_in side reads ≡ unread_in limit c side

-- the streams of a connection, where it has an entry
abbrev pub HasStreams : ℕ → Option Streams → Conversation → Type 0
HasStreams limit None c = (c.orig ≡ None) × (c.resp ≡ None) × (c.«units» ≡ no_units)
HasStreams limit (Some streams) c = AreStreams limit streams c.orig c.resp × HasRead limit streams.readers c

-- how a segment of a conversation has moved both streams
pub record AreMoves (limit : ℕ) (conn : ConnNo) (c : Conversation) (s : Segment) (moves : Moves) (old new : News) : Type 0 where
  pub sender : IsMove limit c s (sender_in c s) moves.sender
  pub receiver : IsMove limit c s (other (sender_in c s)) moves.receiver
  pub gave_up : moves.gave_up ≡ gives_up limit c s
  pub runs_are : runs_of new ≡ runs_of old ++ fresh_with limit conn.0 c s
  pub gaps_are : new.gaps.items ≡ old.gaps.items ++ segment_gaps limit c s
  pub units_are : new.«units».items ≡ old.«units».items ++ freed_with limit c s

-- the table has a segment of a conversation
pub record Takes (limit : ℕ) (conn : ConnNo) (c : Conversation) (s : Segment) (moves : Moves) (before after : StreamTable) (old new : News) : Type 0 where
  pub entry : HasStreams limit (entry_at after conn.0) (with_segment limit c s)
  pub kept_is : after.kept + held_in limit c ≡ before.kept + held_in limit (with_segment limit c s)
  pub moves_are : AreMoves limit conn c s moves old new

-- What the table of live connections holds of the segments that it was given.
use Rattle.std.specs.Prelude.{◌≡◌, ℕ, ◌<◌, ◌≤◌, Bool, if◌then◌else◌, true, false, not, ◌||◌, int_le, List, [], ◌∷◌, ◌++◌, length, filter, Option, Some, None, All}
use Rattle.zk_base.specs.declared.network.Side.{Side}
use Rattle.zk_base.specs.declared.time.Moment.{Moment}
use Rattle.zk_base.specs.Sides.{other}
use Rattle.zk_conn.specs.declared.conns.Removed.{Removed}
use Rattle.zk_conn.specs.declared.key.Key.{Key}
use Rattle.zk_conn.specs.Histories as conn
use Rattle.zk_conn.specs.Segment.{key_of, same_key}
use Rattle.zk_conn.specs.Standing as conns
use Rattle.zk_conn.specs.Told.{Told, Front, Reached}
use Rattle.zk_traffic.specs.declared.news.News.{News}
use Rattle.zk_traffic.specs.declared.streams.Moved.{Moved}
use Rattle.zk_traffic.specs.declared.streams.Streams.{Streams}
use Rattle.zk_traffic.specs.declared.table.Done.{Done}
use Rattle.zk_traffic.specs.declared.table.Table.{Table}
use Rattle.zk_traffic.specs.Conversation.{Conversation, gives_up, resets, sender_in, with_segment}
use Rattle.zk_traffic.specs.Instances.{Instance, begins, begun, instances, is_over_by, joined_by, latest, number_of, removal}
use Rattle.zk_traffic.specs.Items.{ends, establishes, facts, segment_fresh, units_with}
use Rattle.zk_traffic.specs.Kept.{held_in_all}
use Rattle.zk_traffic.specs.Moves.{segment_gaps}
use Rattle.zk_traffic.specs.News.{runs_of}
use Rattle.zk_traffic.specs.Segments.{Segment}
use Rattle.zk_traffic.specs.StreamTable.{HasStreams, entry_at}

-- what connections were told of a key's latest conversation: its removal stands behind all else where it is gone
abbrev pub IsKnown : List Told → Key → Bool → Option Conversation → Type 0
IsKnown told key gone None = conn.latest key told ≡ []
IsKnown told key false (Some c) = conn.latest key told ≡ c.events
IsKnown told key true (Some c) = (removal : Told) × (conn.is_removal removal ≡ true) × (conn.latest key told ≡ c.events ++ removal ∷ [])

abbrev pub HasEntry : ℕ → Option Streams → Bool → Option Conversation → Type 0
HasEntry limit entry gone None = Unit {0}
HasEntry limit entry true (Some c) = Unit {0}
HasEntry limit entry false (Some c) = HasStreams limit entry c

-- those of the instances whose keys are not gone
abbrev pub left : (Key → Bool) → List Instance → List Instance
left gone instances = filter (λ i. not (gone i.key)) instances

-- the table has the connections of these segments, but for those of the keys that are gone
pub record Holds (table : Table) (limit : ℕ) (segments : List Segment) (gone : Key → Bool) (told : List Told) : Type 0 where
  pub limit_is : table.streams.limit ≡ limit
  pub stands : conns.StandsFor table.conns told
  pub begun_is : conn.begun told ≡ begun limit segments
  pub known : (key : Key) → IsKnown told key (gone key) (latest limit key segments)
  pub entries : (key : Key) → HasEntry limit (entry_at table.streams (number_of limit key segments)) (gone key) (latest limit key segments)
  pub unused : (number : ℕ) → length (begun limit segments) < number → entry_at table.streams number ≡ None
  pub kept_is : table.streams.kept ≡ held_in_all limit (left gone (instances limit segments))

-- a key's latest conversation is over by a moment
abbrev pub is_over_at : Moment → Option Conversation → Bool
is_over_at t None = false
is_over_at t (Some c) = is_over_by t c

unfoldable pub gone_by : ℕ → List Segment → Moment → Key → Bool
gone_by limit segments t key = is_over_at t (latest limit key segments)

-- one more key is gone
abbrev pub also : (Key → Bool) → Key → Key → Bool
also gone key other = gone other || same_key other key

-- a key has a live conversation of this number
pub record HasLive (limit : ℕ) (segments : List Segment) (gone : Key → Bool) (key : Key) (number : ℕ) (c : Conversation) : Type 0 where
  pub latest_is : latest limit key segments ≡ Some c
  pub not_gone : gone key ≡ false
  pub number_is : number_of limit key segments ≡ number

-- a live conversation is removed, and the table lacks it
pub record Removes (limit : ℕ) (segments : List Segment) (gone : Key → Bool) (removed : Removed) (event : Key → Told) (told : List Told) (new : Table) : Type 0 where
  pub key : Key
  pub c : Conversation
  pub live : HasLive limit segments gone key removed.conn.0 c
  pub facts_are : removed.facts ≡ facts c
  pub holds : Holds new limit segments (also gone key) (told ++ event key ∷ [])

-- it is the first that is due by a moment
pub record IsFirst (limit : ℕ) (segments : List Segment) (gone : Key → Bool) (removed : Removed) (t : Moment) (c : Conversation) : Type 0 where
  pub at_is : removal c ≡ removed.at
  pub due : int_le removed.at.0 t.0 ≡ true
  pub first : (key : Key) (number : ℕ) (d : Conversation) → HasLive limit segments gone key number d → conn.is_earlier (removal d) number removed.at removed.conn.0 ≡ false

-- the table has what is live at a moment, not before which more comes
pub record IsCurrent (table : Table) (limit : ℕ) (segments : List Segment) (t : Moment) : Type 0 where
  pub told : List Told
  pub holds : Holds table limit segments (gone_by limit segments t) told
  pub in_order : All (conn.Precedes t) told

-- what a segment did, behind others
pub record IsDone (limit : ℕ) (before : List Segment) (s : Segment) (done : Done) : Type 0 where
  pub conn_is : done.conn.0 ≡ number_of limit (key_of s.view) (before ++ s ∷ [])
  pub side_is : done.side ≡ sender_in (joined_by (latest limit (key_of s.view) before) s) s
  pub opened : done.opened ≡ begins (latest limit (key_of s.view) before) s
  pub established : done.established ≡ establishes (joined_by (latest limit (key_of s.view) before) s) s
  pub sender_ended : done.sender_ended ≡ ends limit (joined_by (latest limit (key_of s.view) before) s) s (sender_in (joined_by (latest limit (key_of s.view) before) s) s)
  pub receiver_ended : done.receiver_ended ≡ ends limit (joined_by (latest limit (key_of s.view) before) s) s (other (sender_in (joined_by (latest limit (key_of s.view) before) s) s))
  pub gave_up : done.gave_up ≡ gives_up limit (joined_by (latest limit (key_of s.view) before) s) s
  pub reset : done.reset ≡ resets (joined_by (latest limit (key_of s.view) before) s) s

-- it is the live one of least number
pub record IsLeast (limit : ℕ) (segments : List Segment) (gone : Key → Bool) (removed : Removed) (last : Moment) : Type 0 where
  pub at_is : removed.at ≡ last
  pub least : (key : Key) (number : ℕ) (d : Conversation) → HasLive limit segments gone key number d → removed.conn.0 ≤ number

-- what connections are told of a front that has moved
abbrev pub front_told : Key → Side → Option ℕ → List Told
front_told key side None = []
front_told key side (Some front) = Front key side front ∷ []

-- what connections are told of a stream that has moved
abbrev pub moved_told : Key → Side → Moved → List Told
moved_told key side moved = front_told key side moved.front ++ (if moved.ended then Reached key side ∷ [] else [])

-- the table has one more segment
pub record TakesSegment (limit : ℕ) (before : List Segment) (s : Segment) (done : Done) (new : Table) (old_news new_news : News) : Type 0 where
  pub current : IsCurrent new limit (before ++ s ∷ []) s.moment
  pub done_is : IsDone limit before s done
  pub live : HasLive limit (before ++ s ∷ []) (gone_by limit (before ++ s ∷ []) s.moment) (key_of s.view) done.conn.0 (with_segment limit (joined_by (latest limit (key_of s.view) before) s) s)
  pub runs_are : runs_of new_news ≡ runs_of old_news ++ segment_fresh limit before s
  pub gaps_are : new_news.gaps.items ≡ old_news.gaps.items ++ segment_gaps limit (joined_by (latest limit (key_of s.view) before) s) s
  pub units_are : new_news.«units».items ≡ old_news.«units».items ++ units_with limit (joined_by (latest limit (key_of s.view) before) s) s

-- The items of one connection, by its own segments alone.
use Rattle.std.specs.Prelude.{◌≡◌, ◌≢◌, ◌⊎◌, ℕ, ◌+◌, ◌<◌, Bool, true, false, not, ◌&&◌, ◌||◌, ◌==◌, nat_lt, if◌then◌else◌, List, [], ◌∷◌, ◌++◌, filter, fold, length, map, Option, Some, None, is_none}
use Rattle.std.specs.List.{flat_map, list_all}
use Rattle.zk_base.specs.declared.numbers.ConnNo.{ConnNo}
use Rattle.zk_base.specs.declared.time.Moment.{Moment}
use Rattle.zk_conn.specs.declared.key.Key.{Key}
use Rattle.zk_conn.specs.Segment.{key_of, same_key}
use Rattle.zk_base.specs.Captured.{Captured}
use Rattle.zk_base.specs.NetworkTime.{now}
use Rattle.zk_traffic.specs.declared.item.Item.{Item}
use Rattle.zk_traffic.specs.declared.item.What.{What}
use Rattle.zk_traffic.specs.declared.item.What.TheVariants.{Seen, Opened, Established, Gap, Http, Dns, DnsBad, Ended, GaveUp, Reset, Removed}
use Rattle.zk_traffic.specs.declared.options.Options.{Options}
use Rattle.zk_traffic.specs.Conversation.{Conversation, unbegun, with_segment}
use Rattle.zk_traffic.specs.Instances.{begun, is_over_by, number_of, removal}
use Rattle.zk_traffic.specs.Items.{facts, item, items_of, items_with, numbered, seen}
use Rattle.zk_traffic.specs.Own.{with_number}
use Rattle.zk_traffic.specs.Segments.{Segment, segments}
use Rattle.zk_traffic.specs.Steps.{Step, so_far, steps}

-- the connection to which something happens: none to a packet that is seen
abbrev pub conn_of : What → Option ConnNo
conn_of (Seen own caplen len) = None
conn_of (Opened conn known) = Some conn
conn_of (Established conn known) = Some conn
conn_of (Gap conn known side from length) = Some conn
conn_of (Http conn known side found) = Some conn
conn_of (Dns conn known side len message) = Some conn
conn_of (DnsBad conn known side fault len) = Some conn
conn_of (Ended conn known side) = Some conn
conn_of (GaveUp conn known side) = Some conn
conn_of (Reset conn known) = Some conn
conn_of (Removed conn known) = Some conn

abbrev pub is_numbered : ℕ → Option ConnNo → Bool
is_numbered number None = false
is_numbered number (Some conn) = conn.0 == number

-- it happens to the connection of this number
abbrev pub is_about : ℕ → What → Bool
is_about number one = is_numbered number (conn_of one)

-- the items of this connection, in their order
abbrev pub items_about : ℕ → List Item → List Item
items_about number items = filter (λ i. is_about number i.what) items

abbrev pub is_removal : What → Bool
is_removal (Removed conn known) = true
is_removal other = false

abbrev pub removals : List Item → List Item
removals items = filter (λ i. is_removal i.what) items

-- a segment, behind others, is of the connection of this number
abbrev pub is_of : ℕ → ℕ → Step Segment → Bool
is_of limit number step = number_of limit (key_of step.last.view) (so_far step) == number

-- a connection's own segments among those of a capture, each with its network time
unfoldable pub own_segments : ℕ → ℕ → List Segment → List Segment
own_segments limit number segments = map (λ (step : Step Segment). step.last) (filter (is_of limit number) (steps segments))

-- Alone ---------------------------------------------------------------------------------------------------------------

-- what an own segment goes on with: what the earlier ones came to, and nothing before the first
abbrev pub going_on : Option Conversation → Segment → Conversation
going_on None s = unbegun s
going_on (Some c) s = c

abbrev pub with_own : ℕ → Option Conversation → Segment → Option Conversation
with_own limit before s = Some (with_segment limit (going_on before s) s)

-- what a connection's own segments come to
unfoldable pub conversation_of : ℕ → List Segment → Option Conversation
conversation_of limit own = fold (with_own limit) None own

-- the items of an own segment, behind what the earlier ones came to: the first opens the connection
abbrev pub own_items_with : ℕ → ℕ → Option Conversation → Segment → List Item
own_items_with limit number before s =
    items_with limit number (is_none before) (going_on before s) s (facts (with_segment limit (going_on before s) s))

abbrev pub items_behind : ℕ → ℕ → Step Segment → List Item
items_behind limit number step = own_items_with limit number (conversation_of limit step.before) step.last

-- its removal is at its own moment where that is at or before the last network time, and else at that time
abbrev pub end_of : Moment → Conversation → Moment
end_of last c = if is_over_by last c then removal c else last

abbrev pub removal_of : ℕ → Moment → Option Conversation → List Item
removal_of number last None = []
removal_of number last (Some c) = item (end_of last c) (Removed (numbered number) (facts c)) ∷ []

-- the items of a connection of this number that has these segments, in a capture whose last network time is this one:
-- those of its segments, each behind the earlier ones, and behind them its one removal
unfoldable pub items_alone : ℕ → ℕ → List Segment → Moment → List Item
items_alone limit number own last =
    flat_map (items_behind limit number) (steps own) ++ removal_of number last (conversation_of limit own)

-- a segment comes before the moment at which the connection is over by the segments before it
abbrev pub comes_in_time : Option Conversation → Segment → Bool
comes_in_time None s = true
comes_in_time (Some c) s = not (is_over_by s.moment c)

-- a segment of a key is of a connection that began behind the one of this number
abbrev pub is_behind : ℕ → ℕ → Key → Step Segment → Bool
is_behind limit number key step = same_key (key_of step.last.view) key && nat_lt number (number_of limit (key_of step.last.view) (so_far step))

-- so it comes at or after the moment at which that one is over
abbrev pub comes_after : ℕ → ℕ → Key → Conversation → Step Segment → Bool
comes_after limit number key c step = not (is_behind limit number key step) || is_over_by step.last.moment c

-- Laws ------------------------------------------------------------------------------------------------------------------

-- The items of each connection of a capture are those of its own segments alone, whatever stands between them.
abbrev pub ItemsAreOwn : Type 0
ItemsAreOwn = (options : Options) (records : List Captured) (number : ℕ)
    → items_about number (items_of options records true)
    ≡ items_alone options.buffer number (own_segments options.buffer number (segments options records)) (now records)

-- So two captures with the same segments of a connection, each at the same network time, and with the same last network
-- time have the same items of it, but for its number.
abbrev pub ItemsAreTheSame : Type 0
ItemsAreTheSame = (options other_options : Options) (records other_records : List Captured) (number other_number any : ℕ)
    → options.buffer ≡ other_options.buffer
    → own_segments options.buffer number (segments options records) ≡ own_segments other_options.buffer other_number (segments other_options other_records)
    → now records ≡ now other_records
    → with_number any (items_about number (items_of options records true)) ≡ with_number any (items_about other_number (items_of other_options other_records true))

-- A connection that begins in a capture has segments, all of its key; each behind the first comes before the moment at which
-- the connection is over by those before it, and those of later connections of its key at or after the moment at which it is
-- over; and it is removed once.
pub record IsConnection (options : Options) (records : List Captured) (number : ℕ) (key : Key) (own : List Segment) : Type 0 where
  pub c : Conversation
  pub comes_to : conversation_of options.buffer own ≡ Some c
  pub some : own ≢ []
  pub of_key : list_all (λ (s : Segment). same_key (key_of s.view) key) own ≡ true
  pub in_time : list_all (λ (step : Step Segment). comes_in_time (conversation_of options.buffer step.before) step.last) (steps own) ≡ true
  pub cut : list_all (comes_after options.buffer number key c) (steps (segments options records)) ≡ true
  pub removed : removals (items_about number (items_of options records true))
      ≡ item (end_of (now records) c) (Removed (numbered number) (facts c)) ∷ []

abbrev pub EachIsConnection : Type 0
EachIsConnection = (options : Options) (records : List Captured) (before : List Key) (key : Key) (rest : List Key)
    → begun options.buffer (segments options records) ≡ before ++ key ∷ rest
    → IsConnection options records (length before + 1) key (own_segments options.buffer (length before + 1) (segments options records))

-- Nothing happens to a connection of another number than those that begin: these are counted from 1 on.
abbrev pub NoOthers : Type 0
NoOthers = (options : Options) (records : List Captured) (number : ℕ)
    → (number ≡ 0) ⊎ (length (begun options.buffer (segments options records)) < number)
    → items_about number (items_of options records true) ≡ []

-- What is about no connection is that each packet is seen, where that is asked for, at its network time.
abbrev pub PacketsAreSeen : Type 0
PacketsAreSeen = (options : Options) (records : List Captured) (ended : Bool)
    → filter (λ i. is_none (conn_of i.what)) (items_of options records ended) ≡ flat_map (seen options) (steps records)

-- The items of a capture, each by what stands before and after its record.
use Rattle.std.specs.Prelude.{ℕ, Bool, not, ◌&&◌, if◌then◌else◌, List, [], ◌∷◌, ◌++◌, length, map, Option, Some, None}
use Rattle.std.specs.List.{flat_map}
use Rattle.std.specs.Option.{option_map_or}
use Rattle.zk_base.specs.declared.network.Side.{Side}
use Rattle.zk_base.specs.declared.numbers.ConnNo.{ConnNo}
use Rattle.zk_base.specs.declared.time.Moment.{Moment}
use Rattle.zk_base.specs.Places.{Place}
use Rattle.zk_conn.specs.declared.facts.Facts.{Facts}
use Rattle.zk_conn.specs.Instance.{facts_from, end_of, is_established}
use Rattle.zk_conn.specs.Segment.{key_of}
use Rattle.zk_conn.specs.State.{is_fin}
use Rattle.zk_base.specs.Captured.{Captured}
use Rattle.zk_base.specs.NetworkTime.{now}
use Rattle.zk_base.specs.Sides.{other}
use Rattle.zk_reasm.specs.Histories.{content}
use Rattle.zk_traffic.specs.declared.item.Item.{Item}
use Rattle.zk_traffic.specs.declared.item.What.{What}
use Rattle.zk_traffic.specs.declared.item.What.TheVariants as what
use Rattle.zk_traffic.specs.declared.options.Options.{Options}
use Rattle.zk_traffic.specs.Conversation.{Conversation, Direction, datagram_units, direction, direction_with, freed_with, front_at, gives_up, originator_of, resets, sender_in, with_packet, with_segment}
use Rattle.zk_traffic.specs.Datagram.{time_at}
use Rattle.zk_traffic.specs.Fresh.{FreshRun}
use Rattle.zk_traffic.specs.Instances.{Instance, begins, in_order, joined_by, latest, live_at, number_of, over_between, removal}
use Rattle.zk_traffic.specs.Places.{Gap, Run, gaps_from, runs_from}
use Rattle.zk_traffic.specs.Segments.{Segment, segment_at, segments}
use Rattle.zk_traffic.specs.Steps.{Step, steps}
use Rattle.zk_units.specs.declared.stream_unit.Freed.{Freed}
use Rattle.zk_units.specs.declared.stream_unit.StreamUnit.{StreamUnit}
use Rattle.zk_units.specs.declared.stream_unit.StreamUnit.TheVariants as says

abbrev pub item : Moment → What → Item
item moment what_is = record { moment = moment; what = what_is }

abbrev pub when : Bool → Item → List Item
when holds it = if holds then it ∷ [] else []

abbrev pub numbered : ℕ → ConnNo
numbered number = record { 0 = number }

-- what is known of a conversation
abbrev pub facts : Conversation → Facts
facts c = facts_from c.first c.events

abbrev pub removed_at : Moment → Instance → Item
removed_at moment i = item moment (what.Removed (numbered i.number) (facts i.conversation))

-- an instance is removed at its own moment
abbrev pub removed : Instance → Item
removed i = removed_at (removal i.conversation) i

-- the places by which a front has moved, each with its byte or as a gap
abbrev pub news_of : ℕ → ℕ → Option Direction → List Place
news_of limit from None = []
news_of limit from (Some d) = content d.base limit d.told from

-- what a segment brings a side's stream
abbrev pub news : ℕ → Conversation → Segment → Side → List Place
news limit c s side = news_of limit (front_at limit (direction c side)) (direction_with c s side)

abbrev pub gaps : ℕ → Conversation → Segment → Side → List Gap
gaps limit c s side = gaps_from (front_at limit (direction c side)) (news limit c s side)

abbrev pub runs : ℕ → Conversation → Segment → Side → List Run
runs limit c s side = runs_from (front_at limit (direction c side)) (news limit c s side)

-- a side's end becomes Fin
abbrev pub ends : ℕ → Conversation → Segment → Side → Bool
ends limit c s side =
    is_fin (end_of (originator_of c) side (with_segment limit c s).events) && not (is_fin (end_of (originator_of c) side c.events))

-- the segment establishes the connection
abbrev pub establishes : Conversation → Segment → Bool
establishes c s = is_established (originator_of c) (with_packet c s) && not (is_established (originator_of c) c.events)

-- a unit of a connection, as it is told
abbrev pub what_said : ConnNo → Facts → Side → StreamUnit → What
what_said conn known side (says.Http found) = what.Http conn known side found
what_said conn known side (says.Dns len message) = what.Dns conn known side len message
what_said conn known side (says.DnsBad fault len) = what.DnsBad conn known side fault len

abbrev pub unit_item : Moment → ConnNo → Facts → Freed → Item
unit_item moment conn known found = item moment (what_said conn known found.side found.«unit»)

-- the units of a segment: that of a datagram, or those that the streams free
abbrev pub units_with : ℕ → Conversation → Segment → List Freed
units_with limit c s = datagram_units c s ++ freed_with limit c s

-- the items of a segment, behind a conversation that it goes on with
abbrev pub items_with : ℕ → ℕ → Bool → Conversation → Segment → Facts → List Item
items_with limit number opens c s known =
    when opens (item s.moment (what.Opened (numbered number) known))
    ++ when (establishes c s) (item s.moment (what.Established (numbered number) known))
    ++ map (λ g. item s.moment (what.Gap (numbered number) known (sender_in c s) g.from g.length)) (gaps limit c s (sender_in c s))
    ++ map (λ g. item s.moment (what.Gap (numbered number) known (other (sender_in c s)) g.from g.length)) (gaps limit c s (other (sender_in c s)))
    ++ map (unit_item s.moment (numbered number) known) (units_with limit c s)
    ++ when (ends limit c s (sender_in c s)) (item s.moment (what.Ended (numbered number) known (sender_in c s)))
    ++ when (ends limit c s (other (sender_in c s))) (item s.moment (what.Ended (numbered number) known (other (sender_in c s))))
    ++ when (gives_up limit c s) (item s.moment (what.GaveUp (numbered number) known (sender_in c s)))
    ++ when (resets c s) (item s.moment (what.Reset (numbered number) known))

-- the items of one instance at a segment of it: by its own segments alone, but for its number
unfoldable pub own_items : ℕ → ℕ → Option Conversation → Segment → List Item
own_items limit number before s =
    items_with limit number (begins before s) (joined_by before s) s (facts (with_segment limit (joined_by before s) s))

-- the items of a segment behind others
unfoldable pub segment_items : ℕ → List Segment → Segment → List Item
segment_items limit before s =
    own_items limit (number_of limit (key_of s.view) (before ++ s ∷ [])) (latest limit (key_of s.view) before) s

abbrev pub seen : Options → Step Captured → List Item
seen options step = when options.packets (item (time_at step) (what.Seen step.last.moment (length step.last.bytes) step.last.orig_len))

-- the items of a record: what is removed by then, the packet, and what its segment brings
unfoldable pub items_at : Options → Step Captured → List Item
items_at options step =
    map removed (in_order (over_between options.buffer (segments options step.before) (now step.before) (time_at step)))
    ++ seen options step
    ++ option_map_or (segment_items options.buffer (segments options step.before)) (segment_at options step) []

-- the items of some records
unfoldable pub items_so_far : Options → List Captured → List Item
items_so_far options records = flat_map (items_at options) (steps records)

-- at the end of a capture what is still live is removed in order of number, at the last network time
unfoldable pub items_at_end : Options → List Captured → List Item
items_at_end options records = map (removed_at (now records)) (live_at options.buffer (segments options records) (now records))

-- the items of a capture, or of as much of it as has come
unfoldable pub items_of : Options → List Captured → Bool → List Item
items_of options records ended =
    items_so_far options records ++ (if ended then items_at_end options records else [])

abbrev pub fresh_run : ℕ → Side → Run → FreshRun
fresh_run number side r = record { conn = numbered number; side = side; from = r.from; bytes = r.bytes }

-- the runs of bytes by which a segment moves fronts: the sender's first, by place
abbrev pub fresh_with : ℕ → ℕ → Conversation → Segment → List FreshRun
fresh_with limit number c s =
    map (fresh_run number (sender_in c s)) (runs limit c s (sender_in c s))
    ++ map (fresh_run number (other (sender_in c s))) (runs limit c s (other (sender_in c s)))

unfoldable pub segment_fresh : ℕ → List Segment → Segment → List FreshRun
segment_fresh limit before s =
    fresh_with limit (number_of limit (key_of s.view) (before ++ s ∷ [])) (joined_by (latest limit (key_of s.view) before) s) s

-- the runs of bytes by which a record moves fronts
unfoldable pub fresh_at : Options → Step Captured → List FreshRun
fresh_at options step = option_map_or (segment_fresh options.buffer (segments options step.before)) (segment_at options step) []

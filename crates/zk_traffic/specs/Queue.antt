-- How items are added to those that were not given yet.
use Rattle.std.specs.Prelude.{◌≡◌, ℕ, Bool, List, ◌++◌}
use Rattle.zk_base.specs.declared.numbers.ConnNo.{ConnNo}
use Rattle.zk_base.specs.declared.time.Moment.{Moment}
use Rattle.zk_base.specs.Sides.{other}
use Rattle.zk_conn.specs.declared.facts.Facts.{Facts}
use Rattle.zk_conn.specs.declared.key.Key.{Key}
use Rattle.zk_conn.specs.Told.{Told}
use Rattle.zk_traffic.specs.declared.item.Item.{Item}
use Rattle.zk_traffic.specs.declared.item.What.{What}
use Rattle.zk_traffic.specs.declared.item.What.TheVariants as what
use Rattle.zk_traffic.specs.declared.news.Gap.{Gap as Code}
use Rattle.zk_traffic.specs.declared.queue.Event.{Event}
use Rattle.zk_traffic.specs.declared.queue.Event.TheVariants as event
use Rattle.zk_traffic.specs.declared.table.Done.{Done}
use Rattle.zk_traffic.specs.declared.table.Table.{Table}
use Rattle.zk_traffic.specs.Conversation.{Conversation}
use Rattle.zk_traffic.specs.Items.{facts, item, when}
use Rattle.zk_traffic.specs.Segments.{Segment}
use Rattle.zk_traffic.specs.Table.{HasLive, Holds}

-- what happens, as it is told
abbrev pub what_of : Event → ConnNo → Facts → What
what_of event.Opened conn known = what.Opened conn known
what_of event.Established conn known = what.Established conn known
what_of (event.Ended side) conn known = what.Ended conn known side
what_of (event.GaveUp side) conn known = what.GaveUp conn known side
what_of event.Reset conn known = what.Reset conn known

-- a live connection of the table, of which this is known
pub record Knows (table : Table) (conn : ConnNo) (known : Facts) : Type 0 where
  pub limit : ℕ
  pub segments : List Segment
  pub gone : Key → Bool
  pub told : List Told
  pub key : Key
  pub c : Conversation
  pub holds : Holds table limit segments gone told
  pub live : HasLive limit segments gone key conn.0 c
  pub facts_are : known ≡ facts c

abbrev pub gap_item : Moment → ConnNo → Facts → Code → Item
gap_item t conn known gap = item t (what.Gap conn known gap.side gap.from gap.length)

-- the items ahead of the gaps
abbrev pub opening_items : Moment → Done → Facts → List Item
opening_items t done known = when done.opened (item t (what.Opened done.conn known)) ++ when done.established (item t (what.Established done.conn known))

-- the items behind the gaps
abbrev pub ending_items : Moment → Done → Facts → List Item
ending_items t done known =
    when done.sender_ended (item t (what.Ended done.conn known done.side))
    ++ when done.receiver_ended (item t (what.Ended done.conn known (other done.side)))
    ++ when done.gave_up (item t (what.GaveUp done.conn known done.side))
    ++ when done.reset (item t (what.Reset done.conn known))

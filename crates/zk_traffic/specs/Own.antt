-- The items of one connection, its number aside.
use Rattle.std.specs.Prelude.{ℕ, List, map}
use Rattle.zk_base.specs.declared.numbers.ConnNo.{ConnNo}
use Rattle.zk_traffic.specs.declared.item.Item.{Item}
use Rattle.zk_traffic.specs.declared.item.What.{What}
use Rattle.zk_traffic.specs.declared.item.What.TheVariants.{Seen, Opened, Established, Gap, Http, Dns, DnsBad, Ended, GaveUp, Reset, Removed}
use Rattle.zk_traffic.specs.Items.{item, numbered}

-- what happens, told of a connection of this number
abbrev pub told_of : ConnNo → What → What
told_of conn (Seen own caplen len) = Seen own caplen len
told_of conn (Opened old known) = Opened conn known
told_of conn (Established old known) = Established conn known
told_of conn (Gap old known side from length) = Gap conn known side from length
told_of conn (Http old known side found) = Http conn known side found
told_of conn (Dns old known side len message) = Dns conn known side len message
told_of conn (DnsBad old known side fault len) = DnsBad conn known side fault len
told_of conn (Ended old known side) = Ended conn known side
told_of conn (GaveUp old known side) = GaveUp conn known side
told_of conn (Reset old known) = Reset conn known
told_of conn (Removed old known) = Removed conn known

abbrev pub item_of : ℕ → Item → Item
item_of number it = item it.moment (told_of (numbered number) it.what)

-- the same items, with this number
abbrev pub with_number : ℕ → List Item → List Item
with_number number items = map (item_of number) items

-- The items that were not given yet.
use Rattle.std.specs.Prelude.{List, [], ◌∷◌, ◌++◌, Option, None, Some}
use Rattle.zk_traffic.specs.declared.item.Item.{Item}
use Rattle.zk_traffic.specs.declared.item.What.TheVariants as what
use Rattle.zk_traffic.specs.declared.waiting.Seen.{Seen}
use Rattle.zk_traffic.specs.declared.waiting.Waiting.{Waiting}
use Rattle.zk_traffic.specs.Items.{item}

-- the item of a packet that was captured
abbrev pub seen_item : Seen → Item
seen_item seen = item seen.moment (what.Seen seen.own seen.caplen seen.len)

abbrev pub item_apart : Option Seen → List Item
item_apart None = []
item_apart (Some seen) = seen_item seen ∷ []

-- the item that lies apart, and then the others
unfoldable pub items_in : Waiting → List Item
items_in waiting = item_apart waiting.seen ++ waiting.items.items

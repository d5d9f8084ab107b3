-- What a value of `Traffic` was given, and the items that it has given.
use Rattle.std.specs.Prelude.{ℕ, Bool, false, List, []}
use Rattle.zk_base.specs.Captured.{Captured}
use Rattle.zk_traffic.specs.declared.item.Item.{Item}
use Rattle.zk_traffic.specs.declared.options.Options.{Options}
use Rattle.zk_traffic.specs.Items.{items_of}

pub record History : Type 0 where
  pub options : Options
  -- the link type of the next packet's frame
  pub link : ℕ
  pub records : List Captured
  -- the items that were given
  pub given : List Item
  -- the end was told
  pub ended : Bool

-- before the first packet, whose frame has this link type
abbrev pub at_start : Options → ℕ → History
at_start options link = record { options = options; link = link; records = []; given = []; ended = false }

-- all items of what came, those among them that were not given yet
abbrev pub all_items : History → List Item
all_items h = items_of h.options h.records h.ended

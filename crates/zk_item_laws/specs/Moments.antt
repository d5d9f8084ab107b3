-- The order of items in time.
use Rattle.std.specs.Prelude.{◌≤ℤ◌, ℕ, pos, Bool, List, [], ◌∷◌}
use Rattle.zk_base.specs.declared.time.Moment.{Moment}
use Rattle.zk_base.specs.Captured.{Captured}
use Rattle.zk_base.specs.NetworkTime.{now}
use Rattle.zk_traffic.specs.declared.item.Item.{Item}
use Rattle.zk_traffic.specs.declared.options.Options.{Options}
use Rattle.zk_traffic.specs.Items.{items_of}

-- the moments of items rise from one on up to another
abbrev pub AreInOrder : Moment → List Item → Moment → Type 0
AreInOrder start [] last = start.0 ≤ℤ last.0
AreInOrder start (item ∷ items) last = (start.0 ≤ℤ item.moment.0) × AreInOrder item.moment items last

-- The moments of a capture's items rise from 0 on up to its network time, whatever the moments of its records are.
abbrev pub MomentsRise : Type 0
MomentsRise = (options : Options) (records : List Captured) (ended : Bool)
    → AreInOrder (record { 0 = pos 0 }) (items_of options records ended) (now records)

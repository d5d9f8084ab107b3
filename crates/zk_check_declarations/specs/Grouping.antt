-- Values under names.
use Rattle.std.specs.Prelude.{ℕ, List, [], Option, Some, None}
use Rattle.std.specs.declared.alloc.Global.{Global}
use Rattle.std.specs.declared.vec.Vec.{Vec}
use Rattle.std.specs.HashMap.{get}
use Rattle.std.specs.Str.{bytes_eq}
use Rattle.zk_check_declarations.specs.declared.groups.Groups.{Groups}

abbrev pub items_of : {T : Type 0} → Option (Vec T Global) → List T
items_of None = []
items_of (Some group) = group.items

-- the values under a name
abbrev pub group_at : {T : Type 0} → Groups T → List ℕ → List T
group_at groups name = items_of (get bytes_eq groups.groups name)

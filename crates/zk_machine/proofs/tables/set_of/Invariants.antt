use Rattle.std.proofs.Common.{◌≡◌, fold, length}
use Rattle.zk_typed.specs.Objects.{add_member, empty_table, groups}
use Rattle.zk_value.specs.Plain.{key_of}
use Rattle.zk_machine.proofs.tables.set_of.Given as goal

abbrev pub invariant-members : goal.invariant-members
invariant-members l = fold (add_member l.now) l.set (groups l.shape.keys (key_of l.rest)) ≡ fold (add_member l.now) (empty_table l.shape.expiry) (groups l.shape.keys (key_of l.values))

abbrev pub decreases-members : goal.decreases-members
decreases-members l = length l.rest

use Rattle.std.proofs.Common.{◌≡◌, ◌+◌, fold, length}
use Rattle.zk_typed.specs.Objects.{with_pair, empty_table, groups}
use Rattle.zk_value.specs.Plain.{key_of}
use Rattle.zk_machine.proofs.tables.table_of.Given as goal

abbrev pub invariant-entries : goal.invariant-entries
invariant-entries l = fold (with_pair l.shape.keys l.now) l.table (groups (l.shape.keys + 1) (key_of l.rest)) ≡ fold (with_pair l.shape.keys l.now) (empty_table l.shape.expiry) (groups (l.shape.keys + 1) (key_of l.values))

abbrev pub decreases-entries : goal.decreases-entries
decreases-entries l = length l.rest

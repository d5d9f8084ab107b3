use Rattle.std.proofs.Common.{◌≡◌, ◌++◌, map, take}
use Rattle.zk_names.specs.Given.{type_name_of}
use Rattle.zk_scope.specs.Lent.{declared_lent}
use Rattle.zk_names.proofs.given.add_types.Given as goal

abbrev pub invariant-loop-one : goal.invariant-loop-one
invariant-loop-one l = declared_lent l.table.names.items ≡ declared_lent l.fn.table.names.items ++ map type_name_of (take l.one-index l.names)

use Rattle.std.proofs.Common.{◌≡◌, ◌++◌, map, take}
use Rattle.zk_names.specs.Given.{built_in_of}
use Rattle.zk_scope.specs.Lent.{declared_lent}
use Rattle.zk_names.proofs.given.add_built_ins.Given as goal

abbrev pub invariant-loop-one : goal.invariant-loop-one
invariant-loop-one l = declared_lent l.table.names.items ≡ declared_lent l.fn.table.names.items ++ map built_in_of (take l.one-index l.functions)

use Rattle.std.proofs.Common.{◌≡◌, ◌++◌, flat_map, take}
use Rattle.zk_typed.specs.Declaring.{outright_of}
use Rattle.zk_scope.specs.Lent.{declared_lent, stated_lent}
use Rattle.zk_names.proofs.words.add_all_outright.Given as goal

abbrev pub invariant-loop-one : goal.invariant-loop-one
invariant-loop-one l = declared_lent l.table.names.items ≡ declared_lent l.fn.table.names.items ++ flat_map outright_of (stated_lent (take l.one-index l.stated))

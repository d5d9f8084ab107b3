use Rattle.std.proofs.Common.{take}
use Rattle.std.specs.Str.{bytes_eq}
use Rattle.zk_scope.specs.Lent.{declared_lent}
use Rattle.zk_scope.specs.Numbering.{Stands, names_of}
use Rattle.zk_scope.proofs.numbers.names_of.Given as goal

abbrev pub invariant-loop-one : goal.invariant-loop-one
invariant-loop-one l = Stands bytes_eq l.found (names_of l.kind (declared_lent (take l.one-index l.names)))

use Rattle.std.proofs.Common.{◌≡◌, map, take}
use Rattle.zk_typed.specs.View.{type_of}
use Rattle.zk_names.specs.Given.{named_types}
use Rattle.zk_names.proofs.given.named_types.Given as goal

abbrev pub invariant-loop-one : goal.invariant-loop-one
invariant-loop-one l = map type_of l.made.items ≡ named_types (take l.one-index l.types)

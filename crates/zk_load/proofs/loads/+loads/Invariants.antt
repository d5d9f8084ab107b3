use Rattle.std.proofs.Common.{◌≡◌, ◌++◌, flat_map, take}
use Rattle.zk_load.specs.Loading.{loads_in}
use Rattle.zk_load.proofs.loads.+loads.Given as goal

abbrev pub invariant-add_all-loop-decl : goal.invariant-add_all-loop-decl
invariant-add_all-loop-decl l = l.names.items ≡ l.fn.names.items ++ flat_map loads_in (take l.decl-index l.decls)

use Rattle.std.proofs.Common.{◌≡◌, ◌++◌, flat_map, take}
use Rattle.zk_scope.specs.Lent.{stated_lent}
use Rattle.zk_scope.specs.Scripted.{scripts_in}
use Rattle.zk_scope.specs.Streams.{created_lent, stated_created}
use Rattle.zk_scope.proofs.created.add_every_created.Given as goal

abbrev pub invariant-loop-one : goal.invariant-loop-one
invariant-loop-one l =
    created_lent l.all.items ≡ created_lent l.fn.all.items ++ flat_map (stated_created (scripts_in l.names)) (stated_lent (take l.one-index l.stated))

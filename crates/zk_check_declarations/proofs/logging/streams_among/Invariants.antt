use Rattle.std.proofs.Common.{◌≡◌, flat_map, take}
use Rattle.zk_scope.specs.Lent.{stated_lent}
use Rattle.zk_check_declarations.specs.Sources.{scripts_from}
use Rattle.zk_check_declarations.specs.Uses.{stated_created, streams_lent}
use Rattle.zk_check_declarations.proofs.logging.streams_among.Given as goal

abbrev pub invariant-loop-one : goal.invariant-loop-one
invariant-loop-one l = streams_lent l.all.items ≡ flat_map (stated_created (scripts_from l.source)) (stated_lent (take l.one-index l.stated))

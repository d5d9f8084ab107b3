use Rattle.std.proofs.Common.{◌≡◌, map, take}
use Rattle.zk_scope.specs.Leaves.{leaves_lent}
use Rattle.zk_check_declarations.specs.Paths.{uses_lent}
use Rattle.zk_check_declarations.specs.Uses.{paths_of, streams_lent, use_with}
use Rattle.zk_check_declarations.proofs.logging.stream_uses.Given as goal

abbrev pub invariant-loop-one : goal.invariant-loop-one
invariant-loop-one l = uses_lent l.uses.items ≡ map (use_with (leaves_lent l.leaves) l.places) (paths_of l.number (streams_lent (take l.one-index l.streams)))

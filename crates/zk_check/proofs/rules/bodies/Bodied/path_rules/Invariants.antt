use Rattle.std.proofs.Common.{List}
use Rattle.zk_typed.specs.Errors.{PathUse}
use Rattle.zk_scope.specs.Scripted.{scripts_in}
use Rattle.zk_check_declarations.specs.Paths.{HasPaths}
use Rattle.zk_check_declarations.proofs.PathLaws.{CallsOn}
use Rattle.zk_check.proofs.rules.bodies.Bodied.path_rules.Given as goal

abbrev pub invariant-loop-call : goal.invariant-loop-call
invariant-loop-call l = (before : List PathUse) → HasPaths l.fn.paths before → CallsOn (scripts_in l.self.valued.ground.names.now) before l.paths l.rules l.call-items l.call-index

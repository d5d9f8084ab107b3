use Rattle.std.proofs.Common.{◌≡◌, ℕ, ◌++◌, map, take}
use Rattle.zk_typed.specs.Resolving.{written_field}
use Rattle.zk_scope.specs.Lent.{home_of}
use Rattle.zk_scope.specs.Scripted.{scripts_in}
use Rattle.zk_check_declarations.specs.Edges.{edges_at, kinds, only}
use Rattle.zk_check_declarations.proofs.edges.add_fields.Given as goal

abbrev pub invariant-loop-field : goal.invariant-loop-field
invariant-loop-field l = (number : ℕ) →
    edges_at number l.edges.items ≡ edges_at number l.fn.edges.items ++ only l.owner number (kinds (map (written_field (scripts_in l.names) (home_of l.home)) (take l.field-index l.fields)))

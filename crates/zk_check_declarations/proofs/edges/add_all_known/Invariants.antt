use Rattle.std.proofs.Common.{◌≡◌, ℕ, ◌++◌, take}
use Rattle.zk_scope.specs.Fields.{fields_lent}
use Rattle.zk_check_declarations.specs.Edges.{edges_at, kinds, only}
use Rattle.zk_check_declarations.proofs.edges.add_all_known.Given as goal

abbrev pub invariant-loop-field : goal.invariant-loop-field
invariant-loop-field l = (number : ℕ) → edges_at number l.edges.items ≡ edges_at number l.fn.edges.items ++ only l.owner number (kinds (fields_lent (take l.field-index l.fields)))

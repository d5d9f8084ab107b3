use Rattle.std.proofs.Common.{◌≡◌, ℕ, nat_lt, [], if◌then◌else◌}
use Rattle.zk_typed.specs.Resolving.{own_fields}
use Rattle.zk_scope.specs.Scripted.{scripts_in}
use Rattle.zk_check_declarations.specs.Edges.{edges_at, kinds}
use Rattle.zk_check_declarations.proofs.edges.own_edges.Given as goal

abbrev pub invariant-loop-owner : goal.invariant-loop-owner
invariant-loop-owner l = (number : ℕ) → edges_at number l.edges.items ≡ (if nat_lt number l.owner then kinds (own_fields (scripts_in l.names) number) else [])

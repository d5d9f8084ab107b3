use Rattle.std.proofs.Common.{◌≡◌, ℕ, ◌++◌, flat_map, take}
use Rattle.zk_scope.specs.Fields.{stated_fields}
use Rattle.zk_scope.specs.Lent.{stated_lent}
use Rattle.zk_scope.specs.Scripted.{scripts_in}
use Rattle.zk_check_declarations.specs.Edges.{edges_at, kinds}
use Rattle.zk_check_declarations.proofs.edges.add_all_stated.Given as goal

abbrev pub invariant-loop-one : goal.invariant-loop-one
invariant-loop-one l = (number : ℕ) →
    edges_at number l.edges.items ≡ edges_at number l.fn.edges.items ++ kinds (flat_map (stated_fields (scripts_in l.names) number) (stated_lent (take l.one-index l.stated)))

use Rattle.std.proofs.Common.{◌≡◌, None, Some, sym, ap, ◌∙◌}
use Rattle.std.specs.Prelude.{IfNone}
use Rattle.zk_tree.specs.Table as plain
use Rattle.zk_table.proofs.OperationLemmas.{never-first}
use Rattle.zk_table.proofs.table.Table.expiry.Goals as goal

pub returns-clause-never : goal.returns-clause-never
returns-clause-never c =
    let entries = c.self.inside.entries in
    let never : entries.expiry ≡ None → plain.first_due c.args.self.now.entries ≡ None =
    λ none. ap (λ (t : plain.Table). plain.first_due t.entries) (sym c.self.view_is) ∙ never-first entries c.self.invariant none in
    elim c.expiry.result as (λ r. r ≡ entries.expiry → IfNone r (plain.first_due c.args.self.now.entries ≡ None)) [
      | None ↦ λ is. never (sym is)
      | Some expiry ↦ λ is. tt
    ] c.expiry.ensures

use Rattle.std.proofs.Common.{◌≡◌, None, sym, ap, ◌∙◌}
use Rattle.zk_tree.specs.Store as object
use Rattle.zk_typed.specs.Does.{and_then, new_object}
use Rattle.zk_typed.specs.Objects.{default_named, empty_table, keep_default, object_copied}
use Rattle.zk_machine.specs.Copied.{pairs_copied}
use Rattle.zk_machine.specs.State.{state_of}
use Rattle.zk_machine.proofs.CopyLemmas.{read-there, table-pairs}
use Rattle.zk_machine.proofs.state.State.parts.Goals as goal

pub returns-in_ok-default-in-Table : goal.returns-in_ok-default-in-Table
returns-in_ok-default-in-Table c = λ place copied.
    let state = state_of c.args.self.now in
    let table = c.in-Table.table.now in
    let default = c.in_ok-default-in-Table.default in
    let named : default ≡ default_named c.args.number.0 state.world.defaults =
    c.in_ok-default-in-Table.ensures ∙ c.default_named.ensures in
    read-there copied place c.args.number state (object.Table table) (rw c.in-Table.is at c.in-Some.ensures)
    ∙ (ap (λ d. object_copied copied d (object.Table table) state) (sym named)
    ∙ (table-pairs copied default table state
    ∙ ap (λ pairs. and_then (pairs_copied copied (empty_table None) pairs state) (λ one now. and_then (new_object (object.Table one) now) (keep_default default))) (sym c.in_ok-pairs-in-Table.ensures)))

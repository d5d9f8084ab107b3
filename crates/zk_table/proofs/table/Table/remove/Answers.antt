use Rattle.std.proofs.Common.{is_some, sym, ap, ◌∙◌}
use Rattle.zk_tree.specs.Table as plain
use Rattle.zk_tree.specs.Table.{entry_at}
use Rattle.zk_value.specs.Plain.{key_of}
use Rattle.zk_table.proofs.TableLemmas.{found-entry, removed-found}
use Rattle.zk_table.proofs.table.Table.remove.Goals as goal

pub invariant_of-self : goal.invariant_of-self
invariant_of-self c =
    (removed-found c.self.inside.entries c.args.key.now c.in-Some.place c.self.invariant (c.in-Some.ensures.found c.self.invariant) c.remove.new.self c.remove.ensures).kept

pub returns-in-Some-clause-there : goal.returns-in-Some-clause-there
returns-in-Some-clause-there c =
    let key = key_of c.args.key.now in
    sym (ap (λ (t : plain.Table). is_some (entry_at key t.entries)) (sym c.self.view_is)
    ∙ ap is_some (found-entry c.self.inside.entries c.args.key.now c.in-Some.place c.self.invariant (c.in-Some.ensures.found c.self.invariant)))

pub returns-in-Some-clause-removed : goal.returns-in-Some-clause-removed
returns-in-Some-clause-removed c =
    (removed-found c.self.inside.entries c.args.key.now c.in-Some.place c.self.invariant (c.in-Some.ensures.found c.self.invariant) c.remove.new.self c.remove.ensures).is
    ∙ ap (plain.remove (key_of c.args.key.now)) c.self.view_is

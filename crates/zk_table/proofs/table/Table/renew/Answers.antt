use Rattle.std.proofs.Common.{ap, ◌∙◌}
use Rattle.zk_tree.specs.Table as plain
use Rattle.zk_value.specs.Plain.{key_of}
use Rattle.zk_table.proofs.TableLemmas.{renewed-found}
use Rattle.zk_table.proofs.table.Table.renew.Goals as goal

pub invariant_of-self : goal.invariant_of-self
invariant_of-self c =
    (renewed-found c.self.inside.entries c.args.key.now c.in-Some.place c.self.invariant (c.in-Some.ensures.found c.self.invariant) c.renew.new.self c.args.now c.renew.ensures).kept

pub returns-in-Some : goal.returns-in-Some
returns-in-Some c =
    (renewed-found c.self.inside.entries c.args.key.now c.in-Some.place c.self.invariant (c.in-Some.ensures.found c.self.invariant) c.renew.new.self c.args.now c.renew.ensures).is
    ∙ ap (plain.renew c.args.now (key_of c.args.key.now)) c.self.view_is

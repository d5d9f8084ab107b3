use Rattle.std.proofs.Common.{◌==◌, find, ap, sym, subst, ◌∙◌}
use Rattle.zk_machine.specs.Defaulted.{Rises}
use Rattle.zk_machine.specs.declared.table_defaults.TableDefault.{TableDefault}
use Rattle.zk_machine.proofs.table_defaults.TableDefaults.of.Goals as goal

pub returns-in-Some : goal.returns-in-Some
returns-in-Some c =
    let above = c.in-Some.field-0 in
    let up : Rises 0 c.self.inside.all.items above = c.self.invariant above c.in-Some.is in
    c.halved.ensures above (subst (λ all. Rises 0 all above) (sym c.deref.ensures.value) up)
    ∙ ap (λ all. find (λ (one : TableDefault). one.object.0 == c.args.object.0) all) (c.deref.ensures.value ∙ c.self.view_is)

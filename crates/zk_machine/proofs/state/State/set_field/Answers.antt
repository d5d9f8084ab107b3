use Rattle.std.proofs.Common.{sym, ap, ◌∙◌}
use Rattle.zk_tree.specs.Store.{Store}
use Rattle.zk_typed.specs.Does as does
use Rattle.zk_typed.specs.Objects as meant
use Rattle.zk_value.specs.Plain.{value_of}
use Rattle.zk_value.specs.declared.value.Value.{Value}
use Rattle.zk_machine.specs.State.{state_of}
use Rattle.zk_machine.specs.State.{storing}
use Rattle.zk_machine.proofs.ObjectLemmas.{set_field-there}
use Rattle.zk_machine.proofs.state.State.set_field.Goals as goal

pub returns-in-Some : goal.returns-in-Some
returns-in-Some c = λ place.
    let state = state_of c.args.self.now in
    ap (λ (v : Value). meant.set_field place (value_of v) c.args.number (value_of c.args.value) state) c.in-Object.is
    ∙ (set_field-there place c.in-Object.object c.args.number (value_of c.args.value) state _ c.in-Some.ensures
    ∙ ap (λ (store : Store). does.Gives tt (storing store state)) (sym c.set_field.ensures.objects))

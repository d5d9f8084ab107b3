use Rattle.std.proofs.Common.{Some, sym, ap, ◌∙◌}
use Rattle.zk_typed.specs.Does.{Gives, and_then, set_local}
use Rattle.zk_typed.specs.Meaning.{set_keys, set_names}
use Rattle.zk_value.specs.Plain.{value_of, key_of}
use Rattle.zk_machine.specs.State.{state_of}
use Rattle.zk_machine.proofs.state.State.set_names.Goals as goal

pub returns-in-Some : goal.returns-in-Some
returns-in-Some c = λ place.
    let state = state_of c.args.self.now in
    let key = key_of c.args.key.now in
    let one = value_of c.args.value in
    ap (λ v. set_names (record { keys = c.args.names.now.keys; value = v }) key one state) c.in-Some.is
    ∙ (ap (λ ran. and_then ran (λ u now. set_local c.in-Some.number (Some one) now)) (ap (λ ns. set_keys ns key state) (sym c.as_slice.ensures) ∙ c.in_ok-set_keys.ensures place)
    ∙ c.set_local.ensures)

pub returns-in_default : goal.returns-in_default
returns-in_default c = λ place.
    let state = state_of c.args.self.now in
    let key = key_of c.args.key.now in
    let one = value_of c.args.value in
    ap (λ v. set_names (record { keys = c.args.names.now.keys; value = v }) key one state) c.in_default.is
    ∙ ap (λ ran. and_then ran (λ u now. Gives tt now)) (ap (λ ns. set_keys ns key state) (sym c.as_slice.ensures) ∙ c.in_ok-set_keys.ensures place)

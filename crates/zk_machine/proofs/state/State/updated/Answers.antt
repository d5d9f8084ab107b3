use Rattle.std.proofs.Common.{ap}
use Rattle.zk_typed.specs.Operators.{binary}
use Rattle.zk_value.specs.Plain.{value_of}
use Rattle.zk_machine.specs.State.{state_of}
use Rattle.zk_machine.proofs.SetLemmas.{updated_value}
use Rattle.zk_machine.proofs.ThenLemmas.{comes_as}
use Rattle.zk_machine.proofs.state.State.updated.Goals as goal

pub returns-in_default : goal.returns-in_default
returns-in_default c = λ place.
    let state = state_of c.args.self.now in
    let a = value_of c.args.value.now in
    let b = value_of c.args.other.now in
    comes_as value_of place c.computed.result _ _ _ (ap (λ does. does state) (updated_value place c.args.by c.args.value.now b c.in_default.not-Object))
    (c.computed.ensures (λ place. binary place c.args.by a b) place state c.binary.ensures)

use Rattle.std.proofs.Common.{refl, sym, ap}
use Rattle.zk_typed.specs.Objects.{absent, default_value}
use Rattle.zk_value.specs.Plain.{value_of}
use Rattle.zk_machine.specs.State.{state_of}
use Rattle.zk_machine.proofs.ThenLemmas.{comes_as}
use Rattle.zk_machine.proofs.state.State.absent.Goals as goal

pub returns-in-Some : goal.returns-in-Some
returns-in-Some c = λ place.
    let state = state_of c.args.self.now in
    comes_as value_of place c.made.result (default_value place c.in-Some.default.now state) _ _ (ap (λ d. absent place d state) (sym c.in-Some.ensures)) (c.made.ensures.made place state refl)

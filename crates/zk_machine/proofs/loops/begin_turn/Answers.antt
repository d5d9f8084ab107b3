use Rattle.std.proofs.Common.{Some}
use Rattle.zk_typed.specs.Does.{tick}
use Rattle.zk_typed.specs.Meaning.{set_names}
use Rattle.zk_value.specs.Plain.{value_of, key_of}
use Rattle.zk_machine.specs.State.{state_of}
use Rattle.zk_machine.proofs.Steps.{followed}
use Rattle.zk_machine.proofs.loops.begin_turn.Goals as goal

pub returns : goal.returns
returns c = λ place left.
    followed place c.set_names.result (state_of c.args.state.now) (state_of c.tick.new.self) (state_of c.set_names.new.self) (tick place) (set_names c.args.names.now (key_of c.args.turn.key) (value_of c.args.turn.value)) (Some left)
    (c.in_ok-tick.ensures place) (rw c.as_slice.ensures at (c.set_names.ensures place))

use Rattle.zk_machine.specs.State.{state_of}
use Rattle.zk_machine.proofs.StreamLemmas.{created-gives}
use Rattle.zk_machine.proofs.state.State.create_stream.Goals as goal

pub returns : goal.returns
returns c = λ place. created-gives c.args.log c.args.stream (state_of c.args.self.now) _ _ _ c.in_ok-made.ensures.none c.in_ok-made.ensures.ok

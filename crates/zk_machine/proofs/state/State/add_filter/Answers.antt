use Rattle.std.proofs.Common.{refl}
use Rattle.zk_machine.specs.State.{state_of}
use Rattle.zk_machine.proofs.StreamLemmas.{added-gives}
use Rattle.zk_machine.proofs.state.State.add_filter.Goals as goal

pub returns : goal.returns
returns c = λ place. added-gives c.args.log c.args.filter (state_of c.args.self.now) _ _ _ refl c.in_ok-added.ensures.there c.in_ok-added.ensures.ok

use Rattle.std.proofs.Common.{refl}
use Rattle.zk_machine.specs.State.{state_of}
use Rattle.zk_machine.proofs.StreamLemmas.{removed-gives}
use Rattle.zk_machine.proofs.state.State.remove_filter.Goals as goal

pub returns : goal.returns
returns c = λ place. removed-gives c.args.log c.args.name.now (state_of c.args.self.now) _ _ _ refl c.remove_filter-removed.ensures.there c.remove_filter-removed.ensures.removed

use Rattle.zk_machine.proofs.JoinedLemmas.{computes}
use Rattle.zk_machine.proofs.running.Running.compute_at_once.Goals as goal

pub returns : goal.returns
returns c = λ code place of first second third.
    computes _ code _ _ _ place of c.args.number c.in_ok-value.value c.args.count c.in_ok-computed.computed c.args.operator c.in_ok-value.ensures c.in_ok-computed.ensures first second third c.push_at_once.ensures

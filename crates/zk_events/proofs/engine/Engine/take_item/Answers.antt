use Rattle.std.proofs.lemmas.Result.{IfOk-weaker}
use Rattle.zk_events.proofs.engine.Engine.take_item.Goals as goal

pub returns-clause-comes : goal.returns-clause-comes
returns-clause-comes c = IfOk-weaker c.drain.result _ _ (λ flow flows program given world stands.
    let timed = c.set_time.ensures program given world stands in
    let raised = c.in_ok-raise.ensures program given _ timed in
    (flows program given _ raised.0, raised.1)) c.drain.ensures.flows

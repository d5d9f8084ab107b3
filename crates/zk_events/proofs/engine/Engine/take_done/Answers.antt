use Rattle.std.proofs.Common.{refl}
use Rattle.std.proofs.lemmas.Result.{IfOk-weaker}
use Rattle.zk_events.proofs.EngineLemmas.{along}
use Rattle.zk_events.proofs.RunLemmas.{drained-along}
use Rattle.zk_events.proofs.engine.Engine.take_done.Goals as goal

pub returns-clause-flows : goal.returns-clause-flows
returns-clause-flows c = IfOk-weaker c.drain.result _ _ (λ flow flows program given world stands.
    let waits = c.in_ok-queue.ensures.stands program given world stands in
    along flow _ program given _ _
    (drained-along program c.queue.new.self.budget c.args.self.now.dispatcher.budget c.queue.new.self.left c.args.self.now.dispatcher.left _ _ c.queue.ensures.budget c.queue.ensures.left refl)
    (flows program given _ waits)) c.drain.ensures.flows

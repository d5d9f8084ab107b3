use Rattle.std.proofs.Common.{◌∙◌}
use Rattle.std.proofs.lemmas.Result.{IfOk-weaker}
use Rattle.zk_events.proofs.EngineLemmas.{begun-from, comes-from}
use Rattle.zk_events.proofs.engine.Engine.begin.Goals as goal

pub returns-clause-comes : goal.returns-clause-comes
returns-clause-comes c = IfOk-weaker c.drain.result _ _ (λ flow flows program given from known.
    let began = c.in_ok-initialise.ensures.stands program given from.world from.stands in
    let waits = c.in_ok-queue.ensures.stands program given _ began in
    comes-from flow _ program given _ _
    (begun-from program c.args.self.now.dispatcher.budget c.queue.new.self.budget c.queue.new.self.left c.args.self.now.dispatcher.left from.world
    (c.queue.ensures.budget ∙ c.initialise.ensures.budget) (c.queue.ensures.left ∙ c.initialise.ensures.left) from.comes)
    known (flows program given _ waits)) c.drain.ensures.flows

use Rattle.std.proofs.lemmas.Result.{on_ok_weaker}
use Rattle.zk_events.proofs.MakingLemmas.{soa-raised}
use Rattle.zk_events.proofs.dns.raise_kind.Goals as goal

pub returns-in_ok-push-in-Soa : goal.returns-in_ok-push-in-Soa
returns-in_ok-push-in-Soa c = on_ok_weaker c.queue-in-Soa.result (λ queues program given world stands.
    let made = c.in_ok-soa-in-Soa.ensures program given world stands in
    soa-raised c.queue-in-Soa.new.self program given world c.args.rtype c.args.kind.now _ _ _ _ _ _ _ c.args.args.items _ c.in_ok-soa-in-Soa.soa c.in-Soa.is c.in_ok-push-in-Soa.ensures.items made.0
    (queues program given _ made.1)) c.queue-in-Soa.ensures

use Rattle.zk_events.proofs.facts.renew.Goals as goal

pub returns-clause-ok : goal.returns-clause-ok
returns-clause-ok c = λ program given world stands.
    c.renew_connection.ensures c.args.conn c.in_ok-texts.ensures program given _
    (c.renew_end-2.ensures program given _ (c.renew_end.ensures program given _ (c.in_ok-renew_id.ensures.ok program given world stands)))

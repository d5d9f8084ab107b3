use Rattle.zk_check_expressions.specs.Envs.{env_of}
use Rattle.zk_check_statements.proofs.Queueing.{hidden_event, unknown_event}
use Rattle.zk_check_statements.proofs.events.event_args.Goals as goal

pub returns-in-Local : goal.returns-in-Local
returns-in-Local c =
    hidden_event (env_of c.env_in-env.result) _ _ c.at.result c.args.name.now c.args.items.now c.wrong_name.result c.in_ok-one.field-0
    c.env_in-env.ensures c.in-Local.is c.in_ok-one.ensures c.at.ensures c.wrong_name.ensures

pub returns-in-Nothing : goal.returns-in-Nothing
returns-in-Nothing c =
    unknown_event (env_of c.env_in-env.result) _ _ c.at-in-Nothing.result c.args.name.now c.args.items.now c.wrong_name-in-Nothing.result c.in_ok-one.field-0
    c.env_in-env.ensures c.in-Nothing.is c.in_ok-one.ensures c.at-in-Nothing.ensures c.wrong_name-in-Nothing.ensures

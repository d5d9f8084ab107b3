use Rattle.zk_check_expressions.proofs.GivenLaws.{made_is}
use Rattle.zk_check_expressions.proofs.records.made_record.Goals as goal

pub returns : goal.returns
returns c = made_is c.args.number c.in_ok-given.given _ c.in_ok-given.ensures

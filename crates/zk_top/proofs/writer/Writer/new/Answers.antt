use Rattle.zk_top.proofs.Giving.{given_nothing}
use Rattle.zk_top.proofs.writer.Writer.new.Goals as goal

pub returns-clause-given : goal.returns-clause-given
returns-clause-given c first = given_nothing first _ c.in_ok-with_capacity.ensures.items (c.new.ensures.written first.outputs)

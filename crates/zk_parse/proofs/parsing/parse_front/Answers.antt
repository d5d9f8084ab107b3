use Rattle.zk_parse.proofs.TreeLaws.{front_of-whole, front_of-stopped}
use Rattle.zk_parse.proofs.parsing.parse_front.Goals as goal

pub returns-clause-whole : goal.returns-clause-whole
returns-clause-whole c = front_of-whole c.args.tokens.now

pub returns-clause-stopped : goal.returns-clause-stopped
returns-clause-stopped c = front_of-stopped c.args.tokens.now

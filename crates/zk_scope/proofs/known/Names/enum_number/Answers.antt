use Rattle.zk_scope.specs.Lent.{declared_lent, nodes_lent}
use Rattle.zk_scope.specs.Scripted.{scripts_in}
use Rattle.zk_scope.proofs.known.Names.enum_number.Goals as goal

pub returns-in-Ok-clause-number : goal.returns-in-Ok-clause-number
unfolding scripts_in
returns-in-Ok-clause-number c = c.in-Ok.ensures.number (nodes_lent c.args.self.now.nodes.items) (declared_lent c.args.self.now.table.names.items) c.args.self.now.numbered

pub returns-in-Err-clause-err : goal.returns-in-Err-clause-err
unfolding scripts_in
returns-in-Err-clause-err c = c.in-Err.ensures.err (nodes_lent c.args.self.now.nodes.items) (declared_lent c.args.self.now.table.names.items) c.args.self.now.numbered

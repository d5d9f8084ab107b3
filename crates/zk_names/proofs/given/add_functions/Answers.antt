use Rattle.zk_scope.specs.Lent.{declared_lent}
use Rattle.zk_names.proofs.AddLaws.{two}
use Rattle.zk_names.proofs.given.add_functions.Goals as goal

pub returns : goal.returns
returns c = two (declared_lent c.args.table.now.names.items) _ _ _ _ c.in_ok-add_built_ins.ensures c.in_ok-add_logs.ensures

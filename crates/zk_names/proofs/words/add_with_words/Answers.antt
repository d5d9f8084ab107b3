use Rattle.zk_scope.specs.Lent.{declared_lent}
use Rattle.zk_names.proofs.AddLaws.{three}
use Rattle.zk_names.proofs.words.add_with_words.Goals as goal

pub returns : goal.returns
returns c = three (declared_lent c.args.table.now.names.items) _ _ _ _ _ _ c.in_ok-add_outright.ensures c.in_ok-add_own_words.ensures c.in_ok-add_added_words.ensures

use Rattle.zk_scope.specs.Lent.{declared_lent}
use Rattle.zk_names.proofs.AddLaws.{four}
use Rattle.zk_names.proofs.given.add_predefined.Goals as goal

pub returns : goal.returns
returns c =
    four (declared_lent c.args.table.now.names.items) _ _ _ _ _ _ _ _ c.in_ok-add_type_names.ensures c.in_ok-add_all_words.ensures c.in_ok-add_all_events.ensures c.in_ok-add_functions.ensures

use Rattle.std.proofs.Common.{List, ◌++◌, flat_map, ap, ◌∙◌}
use Rattle.zk_typed.specs.Declaring.{node_words}
use Rattle.zk_typed.specs.Names.{Node}
use Rattle.zk_scope.specs.Lent.{declared_lent, nodes_lent}
use Rattle.zk_scope.specs.Scripted.{scripts_in}
use Rattle.zk_names.proofs.words.add_own_words.Goals as goal

pub returns : goal.returns
returns c =
    c.in_ok-add_nodes_words.ensures ∙
    ap (λ (own : List Node). declared_lent c.args.table.now.names.items ++ flat_map (node_words (scripts_in c.args.known.now).nodes) own) (ap nodes_lent c.deref.ensures.value ∙ c.in_ok-own.ensures)

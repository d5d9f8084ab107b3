-- What the names of scripts stand for, as the definitions see it.
use Rattle.zk_typed.specs.Resolving.{Scripts}
use Rattle.zk_scope.specs.Lent.{declared_lent, nodes_lent, stated_lent}
use Rattle.zk_scope.specs.declared.known.Names.{Names}

-- what all scripts declare
unfoldable pub scripts_in : Names → Scripts
scripts_in names = record { stated = stated_lent names.stated.items; nodes = nodes_lent names.nodes.items; names = declared_lent names.table.names.items }

use Rattle.zk_item_laws.proofs.Own.{items_are_own}
use Rattle.zk_item_laws.proofs.Renumbered.{items_are_the_same}
use Rattle.zk_item_laws.proofs.items_are_own.Goals as goal

pub returns : goal.returns
returns c = record { alone = items_are_own; same = items_are_the_same }

use Rattle.zk_tree.proofs.TurnLaws.{first_due-among, first_due-least, first_due-none}
use Rattle.zk_tree.proofs.laws.first_dues.Goals as goal

pub returns : goal.returns
returns c = record { among = first_due-among; least = first_due-least; none = first_due-none }

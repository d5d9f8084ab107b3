use Rattle.zk_tree.proofs.ValueLaws.{same-Decides, same_key-Decides}
use Rattle.zk_tree.proofs.laws.equal_values.Goals as goal

pub returns : goal.returns
returns c = record { values = same-Decides; keys = same_key-Decides }

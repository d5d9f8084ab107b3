use Rattle.zk_traffic.proofs.RecordLemmas.{items_longer}
use Rattle.zk_traffic.proofs.traffic.items_stay.Goals as goal

pub returns : goal.returns
returns c = λ options records more ended. items_longer options records more ended

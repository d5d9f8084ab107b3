use Rattle.zk_traffic.proofs.OwnLemmas.{begins_anew, items_alone, latest_alone}
use Rattle.zk_traffic.proofs.traffic.items_are_own.Goals as goal

pub returns : goal.returns
returns c = record { alone = items_alone; latest = latest_alone; anew = begins_anew }

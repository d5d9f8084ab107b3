use Rattle.zk_frag.proofs.GroupLaws.{open_by_cutting, one_cutting}
use Rattle.zk_frag.proofs.groups.fragment_groups.Goals as goal

pub returns : goal.returns
returns g c = record { cut = open_by_cutting; one = one_cutting }

use Rattle.std.proofs.Common.{None, refl}
use Rattle.zk_frag.specs.Fragment.{shown}
use Rattle.zk_frag.proofs.GroupLemmas.{is_group_one}
use Rattle.zk_frag.proofs.group.Group.begin.Goals as goal

pub returns : goal.returns
returns g c = is_group_one _ (shown c.args.fragment.now) refl c.tag_after.ensures (c.in_ok-add.ensures.ok (λ place. None) None c.new-assembly.ensures)

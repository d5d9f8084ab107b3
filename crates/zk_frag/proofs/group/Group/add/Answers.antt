use Rattle.std.proofs.Common.{refl}
use Rattle.std.proofs.lemmas.Result.{err_from_is_err_and}
use Rattle.zk_frag.specs.Fragment.{shown}
use Rattle.zk_frag.specs.Group.{byte_at, named_end}
use Rattle.zk_frag.proofs.GroupLemmas.{is_group_more}
use Rattle.zk_frag.proofs.group.Group.add.Goals as goal

pub returns-in_err-add-clause-err : goal.returns-in_err-add-clause-err
returns-in_err-add-clause-err g c =
    let p = err_from_is_err_and c.from_residual.result c.from_residual.ensures.1 in
    rw p.1 (λ group is_group. record {
      since = is_group.since;
      tag = is_group.tag;
      holds = c.in_err-add.ensures.err (byte_at group) (named_end group) is_group.holds;
    })

pub returns-clause-ok : goal.returns-clause-ok
returns-clause-ok g c = λ group is_group.
    is_group_more c.args.self.now _ group (shown c.args.fragment.now) refl c.tag_after-self.ensures c.in_ok-add.ensures.ok is_group

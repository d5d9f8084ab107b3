use Rattle.std.proofs.Common.{[], ◌∷◌, sym, ◌∙◌, refl}
use Rattle.std.specs.Ordering.{eq_by_cmp}
use Rattle.std.proofs.lemmas.Result.{err_from_is_err_and}
use Rattle.zk_frag.specs.Fragment.{shown}
use Rattle.zk_frag.specs.Group.{byte_at, named_end}
use Rattle.zk_frag.specs.Table.{group_at, IsGroup}
use Rattle.zk_frag.proofs.TableLemmas.{takes_held, takes_whole, stays_same}
use Rattle.zk_frag.proofs.groups.Groups.begin.Goals as goal

pub returns-then-is_whole-clause-ok : goal.returns-then-is_whole-clause-ok
unfolding group_at
returns-then-is_whole-clause-ok g c =
    let fragments = shown c.args.fragment ∷ [] in
    let is_group : IsGroup c.in_ok-group.group fragments = c.in_ok-group.ensures in
    let covered = sym (c.is_whole.ensures (byte_at fragments) (named_end fragments) is_group.holds) ∙ c.if-is_whole.true in
    takes_whole (eq_by_cmp g.K.Ord.cmp) c.args.self.now _ c.args.fragment.key fragments c.in_ok-group.group.tag is_group.tag
    c.remove.ensures.updates.1 c.remove.ensures.updates.2 covered
    (c.into_datagram.ensures (byte_at fragments) (named_end fragments) is_group.holds covered)

pub returns-in_err-insert-clause-err : goal.returns-in_err-insert-clause-err
unfolding group_at
returns-in_err-insert-clause-err g c =
    let p = err_from_is_err_and c.from_residual-in_err-insert.result c.from_residual-in_err-insert.ensures.1 in
    rw p.1 (stays_same (eq_by_cmp g.K.Ord.cmp) c.args.self.now _ c.args.fragment.key c.in_err-insert.ensures.err refl)

pub returns-clause-ok : goal.returns-clause-ok
unfolding group_at
returns-clause-ok g c =
    let fragments = shown c.args.fragment ∷ [] in
    let is_group : IsGroup c.in_ok-group.group fragments = c.in_ok-group.ensures in
    takes_held (eq_by_cmp g.K.Ord.cmp) c.args.self.now _ c.args.fragment.key c.in_ok-group.group fragments
    c.in_ok-insert.ensures.updates.1 c.in_ok-insert.ensures.updates.2
    (sym (c.is_whole.ensures (byte_at fragments) (named_end fragments) is_group.holds) ∙ c.if-is_whole.false)
    is_group refl

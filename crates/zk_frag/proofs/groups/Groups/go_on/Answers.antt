use Rattle.std.proofs.Common.{◌≡◌, [], ◌∷◌, ◌++◌, Some, None, Option, IsSome, is_some, sym, ap, subst, ◌∙◌, refl}
use Rattle.std.specs.Option.{option_copied_mut}
use Rattle.std.specs.Ordering.{eq_by_cmp}
use Rattle.std.proofs.lemmas.Bool.{false≢true}
use Rattle.std.proofs.lemmas.Option.{same_Some}
use Rattle.std.proofs.lemmas.Result.{err_from_is_err_and}
use Rattle.zk_frag.specs.declared.group.Group.{Group}
use Rattle.zk_frag.specs.Assembly.{Holds}
use Rattle.zk_frag.specs.Fragment.{shown}
use Rattle.zk_frag.specs.Group.{byte_at, named_end}
use Rattle.zk_frag.specs.Table.{group_at, IsGroup, Keeps}
use Rattle.zk_frag.proofs.TableLemmas.{takes_held, takes_whole, stays_changed}
use Rattle.zk_frag.proofs.groups.Groups.go_on.Goals as goal
use Rattle.zk_frag.proofs.groups.Groups.go_on.Goals.{in-Some-remove, in_default-remove}

pub unreachable-requires : goal.unreachable-requires
unfolding group_at
unreachable-requires g c =
    let none : group_at (eq_by_cmp g.K.Ord.cmp) c.args.self.now c.args.fragment.key ≡ None = sym c.get_mut.ensures.value ∙ ap option_copied_mut c.in_default.is in
    false≢true (subst (λ o. IsSome o) none c.requires.«open»)

pub returns-in_err-add-clause-err : goal.returns-in_err-add-clause-err
unfolding group_at
returns-in_err-add-clause-err g c =
    let p = err_from_is_err_and c.from_residual.result c.from_residual.ensures.1 in
    let held : group_at (eq_by_cmp g.K.Ord.cmp) c.args.self.now c.args.fragment.key ≡ Some c.in-Some.group.now =
    sym c.get_mut.ensures.value ∙ ap option_copied_mut c.in-Some.is in
    let written = (c.get_mut.follows.holds c.add.new.self).3 c.requires.«open» in
    rw p.1 (stays_changed (eq_by_cmp g.K.Ord.cmp) c.args.self.now _ c.args.fragment.key c.in-Some.group.now c.add.new.self held
    written.1 written.2 c.in_err-add.ensures.err refl)

pub returns-then-not-is_whole-clause-ok : goal.returns-then-not-is_whole-clause-ok
unfolding group_at
returns-then-not-is_whole-clause-ok g c = λ group keeps.
    let fragments = group ++ shown c.args.fragment ∷ [] in
    let held : group_at (eq_by_cmp g.K.Ord.cmp) c.args.self.now c.args.fragment.key ≡ Some c.in-Some.group.now =
    sym c.get_mut.ensures.value ∙ ap option_copied_mut c.in-Some.is in
    let is_group : IsGroup c.add.new.self fragments = c.in_ok-add.ensures.ok group (subst (λ o. Keeps o group) held keeps) in
    let written = (c.get_mut.follows.holds c.add.new.self).3 c.requires.«open» in
    takes_held (eq_by_cmp g.K.Ord.cmp) c.args.self.now _ c.args.fragment.key c.add.new.self fragments written.1 written.2
    (sym (c.is_whole.ensures (byte_at fragments) (named_end fragments) is_group.holds) ∙ c.if-not-is_whole.true)
    is_group refl

pub returns-clause-ok : goal.returns-clause-ok
unfolding group_at
returns-clause-ok g c = λ group keeps.
    let fragments = group ++ shown c.args.fragment ∷ [] in
    let is = c.add.new.self in
    let held : group_at (eq_by_cmp g.K.Ord.cmp) c.args.self.now c.args.fragment.key ≡ Some c.in-Some.group.now =
    sym c.get_mut.ensures.value ∙ ap option_copied_mut c.in-Some.is in
    let is_group : IsGroup is fragments = c.in_ok-add.ensures.ok group (subst (λ o. Keeps o group) held keeps) in
    let covered = sym (c.is_whole.ensures (byte_at fragments) (named_end fragments) is_group.holds) ∙ c.if-not-is_whole.false in
    let written = (c.get_mut.follows.holds is).3 c.requires.«open» in
    elim c.match-remove.branch [
      | in-Some-remove w ↦
          let removed : is ≡ w.in-Some-remove.group = same_Some is w.in-Some-remove.group (sym written.1 ∙ sym c.remove.ensures.value ∙ w.in-Some-remove.is) in
          rw w.self-is (takes_whole (eq_by_cmp g.K.Ord.cmp) c.args.self.now _ c.args.fragment.key fragments is.tag is_group.tag
          c.remove.ensures.updates.1
          (λ other apart. c.remove.ensures.updates.2 other apart ∙ written.2 other apart)
          covered
          (w.into_datagram.ensures (byte_at fragments) (named_end fragments)
          (subst (λ (h : Group g.row.T.Denot). Holds h.assembly (byte_at fragments) (named_end fragments)) removed is_group.holds) covered))
      | in_default-remove w ↦
          let none : Some is ≡ None = sym written.1 ∙ sym c.remove.ensures.value ∙ w.in_default-remove.is in
          absurd (false≢true (ap (λ (o : Option (Group g.row.T.Denot)). is_some o) (sym none)))
    ]

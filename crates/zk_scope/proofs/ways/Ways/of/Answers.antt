use Rattle.std.proofs.Common.{ℕ, List, sym, subst}
use Rattle.std.specs.declared.alloc.Global.{Global}
use Rattle.std.specs.declared.vec.Vec.{Vec}
use Rattle.zk_scope.specs.Grouping.{AreFirsts, IsGrouped}
use Rattle.zk_scope.specs.Lent.{declared_lent}
use Rattle.zk_scope.proofs.ways.Ways.of.Goals as goal

pub returns : goal.returns
returns c =
    let names = declared_lent c.args.table.now.names.items in
    let firsts = subst (λ (xs : List ℕ). AreFirsts xs names) (sym c.deref-2.ensures.value) c.in_ok-firsts.ensures in
    (c.in_ok-steps.ensures, subst (λ (xs : List (Vec ℕ Global)). IsGrouped c.in_ok-groups.groups xs names) c.deref.ensures.value (c.in_ok-groups.ensures names firsts))

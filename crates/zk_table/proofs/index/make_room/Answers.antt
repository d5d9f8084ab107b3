use Rattle.std.proofs.Common.{◌∷◌, [], None, length, length-append, sym, ap, subst, ◌∙◌, arith}
use Rattle.zk_table.specs.Index.{IsTree}
use Rattle.zk_table.proofs.TurnLemmas.{tree-longer}
use Rattle.zk_table.proofs.index.make_room.Goals as goal

pub loop-firsts-preserved : goal.loop-firsts-preserved
loop-firsts-preserved c =
    let firsts = c.loop-firsts.firsts.items in
    let longer = c.in_ok-push.ensures.items in
    let long = ap length longer ∙ length-append firsts (None ∷ []) in (
      omega (arith, long, c.loop-firsts.invariant.0),
      λ turns tree. subst (λ fs. IsTree turns fs) (sym longer) (tree-longer turns firsts (c.loop-firsts.invariant.1 turns tree)),
    )

use Rattle.std.proofs.Common.{◌∷◌, [], None, ◌∙◌, refl, sym, ap, subst, arith, length}
use Rattle.std.proofs.Common.{length-append}
use Rattle.zk_table.specs.Index.{IsTree}
use Rattle.zk_table.specs.Slots.{turn_at}
use Rattle.zk_table.proofs.TurnLemmas.{tree-longer}
use Rattle.zk_table.proofs.entries.Entries.widen.Goals as goal

pub returns-in_ok-push-clause-same : goal.returns-in_ok-push-clause-same
returns-in_ok-push-clause-same c =
    let longer = c.in_ok-push.ensures.items in
    let long = ap length longer ∙ length-append c.args.self.now.firsts.items (None ∷ []) in
    record {
      slots = c.reserve.ensures.items;
      orders = refl;
      expiry = refl;
      insertions = refl;
      live = refl;
      long = omega (arith, long);
      tree = λ kept. subst (λ xs. IsTree (turn_at xs) c.push.new.self.items) (sym c.reserve.ensures.items)
          (subst (λ fs. IsTree (turn_at c.args.self.now.slots.items) fs) (sym longer) (tree-longer (turn_at c.args.self.now.slots.items) c.args.self.now.firsts.items kept.tree));
    }

pub returns-in_ok-push-clause-long : goal.returns-in_ok-push-clause-long
returns-in_ok-push-clause-long c = λ kept expires.
    let longer = ap length c.in_ok-push.ensures.items ∙ length-append c.args.self.now.firsts.items (None ∷ []) in
    let same = ap length c.reserve.ensures.items in
    let wide = kept.covers expires in
    omega (arith, longer, same, wide)

-- The tree of the index of dues: where one turn changed, and its first turn.
use Rattle.std.proofs.Common.{◌≡◌, ℕ, ◌+◌, ◌-◌, ◌*◌, ◌/◌, ◌<◌, ◌≤◌, zero, suc, List, length, get_or, Option, Some, None, sym, ap, subst, ◌∙◌, arith, ⊎_elim}
use Rattle.std.proofs.Math.ListN.{set}
use Rattle.std.proofs.lemmas.Bool.{cases_eq, cases_lt}
use Rattle.std.proofs.lemmas.Grind.{common_steps}
use Rattle.zk_base.specs.declared.time.Moment.{Moment}
use Rattle.zk_tree.specs.Table.{earlier}
use Rattle.zk_tree.proofs.TurnLaws.{AtMost, at_most-refl, at_most-trans, earlier-left, earlier-right, earlier-among}
use Rattle.zk_table.specs.Index.{first_at, IsNode, AllBut, IsTree}

module _ (turns : ℕ → Option (Moment × ℕ)) (firsts : List (Option (Moment × ℕ))) (at : ℕ) (within : at < length firsts) where
  -- the index with a place found again
  abbrev refreshed : List (Option (Moment × ℕ))
  refreshed = set firsts at (first_at turns firsts at)

  other_kept : (place : ℕ) → (place ≡ at → ⊥) → get_or refreshed place None ≡ get_or firsts place None
  other_kept place apart = grind (arith, common_steps, apart)

  -- what a place has below it is as before, where the one that was found again isn't there
  below_kept : (place : ℕ) → (2 * place + 1 ≡ at → ⊥) → (2 * place + 2 ≡ at → ⊥) → first_at turns firsts place ≡ first_at turns refreshed place
  below_kept place left right =
      ap (λ o. earlier (earlier (turns place) o) (get_or firsts (2 * place + 2) None)) (sym (other_kept (2 * place + 1) left))
      ∙ ap (earlier (earlier (turns place) (get_or refreshed (2 * place + 1) None))) (sym (other_kept (2 * place + 2) right))

  node_kept : AllBut turns firsts at → (place : ℕ) → place < length firsts → (2 * place + 1 ≡ at → ⊥) → (2 * place + 2 ≡ at → ⊥) → IsNode turns refreshed place
  node_kept all place in_index left right =
      ⊎_elim
      (λ here. subst (λ s. IsNode turns refreshed s) (sym here)
      (let found : get_or refreshed at None ≡ first_at turns firsts at = grind (arith, common_steps, within) in
      found ∙ below_kept at (λ e. omega (arith, e)) (λ e. omega (arith, e))))
      (λ apart. other_kept place apart ∙ all.nodes place in_index apart ∙ below_kept place left right)
      (cases_eq place at)

  pub same_length : length refreshed ≡ length firsts
  same_length = grind (arith, common_steps)

  -- the place above is the only one left to be found again
  pub refreshed_up : 0 < at → AllBut turns firsts at → AllBut turns refreshed ((at - 1) / 2)
  refreshed_up below all = record {
    nodes = λ place in_index apart. node_kept all place (omega (arith, in_index, same_length))
        (λ e. apart (omega (arith, e)))
        (λ e. apart (omega (arith, e)));
    beyond = λ place past. all.beyond place (omega (arith, past, same_length));
  }

  -- the top is the last
  pub refreshed_top : at ≡ 0 → AllBut turns firsts at → IsTree turns refreshed
  refreshed_top top all = record {
    nodes = λ place in_index. node_kept all place (omega (arith, in_index, same_length)) (λ e. omega (arith, e, top)) (λ e. omega (arith, e, top));
    beyond = λ place past. all.beyond place (omega (arith, past, same_length));
  }

  -- where the place knows what it knew before, all do
  pub refreshed_same : refreshed ≡ firsts → AllBut turns firsts at → IsTree turns firsts
  refreshed_same same all = record {
    nodes = λ place in_index. ⊎_elim
        (λ here. subst (λ s. IsNode turns firsts s) (sym here)
        (let found : get_or refreshed at None ≡ first_at turns firsts at = grind (arith, common_steps, within) in
        sym (ap (λ fs. get_or fs at None) same) ∙ found))
        (λ apart. all.nodes place in_index apart)
        (cases_eq place at);
    beyond = all.beyond;
  }

  -- the places behind know it, and so does this one then
  pub refreshed_down : ((place : ℕ) → at + 1 ≤ place → place < length firsts → IsNode turns firsts place)
      → (place : ℕ) → at ≤ place → place < length refreshed → IsNode turns refreshed place
  refreshed_down behind place from in_index = ⊎_elim
      (λ here. subst (λ s. IsNode turns refreshed s) (sym here)
      (let found : get_or refreshed at None ≡ first_at turns firsts at = grind (arith, common_steps, within) in
      found ∙ below_kept at (λ e. omega (arith, e)) (λ e. omega (arith, e))))
      (λ apart. other_kept place apart
      ∙ behind place (omega (arith, from, apart)) (omega (arith, in_index, same_length))
      ∙ below_kept place (λ e. omega (arith, e, from)) (λ e. omega (arith, e, from)))
      (cases_eq place at)

past_end : (firsts : List (Option (Moment × ℕ))) (place : ℕ) → length firsts ≤ place → get_or firsts place None ≡ None
past_end firsts place past = grind (arith, common_steps, past)

none_some : {f : Moment × ℕ} {o : Option (Moment × ℕ)} → o ≡ None → o ≡ Some f → ⊥
none_some none some = cc

module _ (turns : ℕ → Option (Moment × ℕ)) (firsts : List (Option (Moment × ℕ))) (tree : IsTree turns firsts) where
  abbrev at_place : ℕ → Option (Moment × ℕ)
  at_place place = get_or firsts place None

  under : (place : ℕ) → place < length firsts → AtMost (at_place place) (turns place) × (AtMost (at_place place) (at_place (2 * place + 1)) × AtMost (at_place place) (at_place (2 * place + 2)))
  under place within =
      let both = earlier (turns place) (at_place (2 * place + 1)) in
      let node = tree.nodes place within in
      let top : AtMost (at_place place) both = subst (λ o. AtMost o both) (sym node) (earlier-left both (at_place (2 * place + 2))) in (
        at_most-trans (at_place place) both (turns place) top (earlier-left (turns place) (at_place (2 * place + 1))),
        (
          at_most-trans (at_place place) both (at_place (2 * place + 1)) top (earlier-right (turns place) (at_place (2 * place + 1))),
          subst (λ o. AtMost o (at_place (2 * place + 2))) (sym node) (earlier-right both (at_place (2 * place + 2))),
        ),
      )

  -- the top stands before what each place knows
  climb : (n place : ℕ) → place ≤ n → place < length firsts → AtMost (at_place 0) (at_place place)
  climb zero place below within = subst (λ s. AtMost (at_place 0) (at_place s)) (let top : 0 ≡ place = omega (arith, below) in top) (at_most-refl (at_place 0))
  climb (suc n) place below within = ⊎_elim
      (λ top. subst (λ s. AtMost (at_place 0) (at_place s)) (sym top) (at_most-refl (at_place 0)))
      (λ low.
      let up = (place - 1) / 2 in
      let here = under up (omega (arith, within)) in
      at_most-trans (at_place 0) (at_place up) (at_place place) (climb n up (omega (arith, below, low)) (omega (arith, within)))
      (⊎_elim
      (λ left. subst (λ s. AtMost (at_place up) (at_place s)) (sym left) here.1.0)
      (λ other. subst (λ s. AtMost (at_place up) (at_place s)) (let right : 2 * up + 2 ≡ place = omega (arith, other, low) in right) here.1.1)
      (cases_eq place (2 * up + 1))))
      (cases_eq place 0)

  -- no turn comes before the top
  pub top-least : (place : ℕ) → AtMost (at_place 0) (turns place)
  top-least place = ⊎_elim
      (λ within. at_most-trans (at_place 0) (at_place place) (turns place) (climb place place (omega arith) within) (under place within).0)
      (λ past. λ f is. absurd (none_some (tree.beyond place past) is))
      (cases_lt place (length firsts))

  descend : (n place : ℕ) → length firsts ≤ place + n → (g : Moment × ℕ) → at_place place ≡ Some g → (s : ℕ) × (turns s ≡ Some g)
  descend zero place past g is = absurd (none_some (past_end firsts place (omega (arith, past))) is)
  descend (suc n) place past g is = ⊎_elim
      (λ within. ⊎_elim
      (λ both. ⊎_elim
      (λ own. (place, own))
      (λ left. descend n (2 * place + 1) (omega (arith, past)) g left)
      (earlier-among (turns place) (at_place (2 * place + 1)) g both))
      (λ right. descend n (2 * place + 2) (omega (arith, past)) g right)
      (earlier-among (earlier (turns place) (at_place (2 * place + 1))) (at_place (2 * place + 2)) g (sym (tree.nodes place within) ∙ is)))
      (λ beyond. absurd (none_some (past_end firsts place beyond) is))
      (cases_lt place (length firsts))

  -- the top is the turn of some place
  pub top-turn : (g : Moment × ℕ) → at_place 0 ≡ Some g → (place : ℕ) × (turns place ≡ Some g)
  top-turn g is = descend (length firsts) 0 (omega arith) g is

use Rattle.std.proofs.Common.{rules, ◌≡◌, ℕ, List, None, Some, Option, get_or, sym, ap, subst, ◌∙◌}
use Rattle.zk_base.specs.declared.time.Moment.{Moment}
use Rattle.zk_table.specs.Dues.{Held, IsFirst, NoneIsFirst}
use Rattle.zk_table.proofs.DueLemmas.{first-nothing, first-top}
use Rattle.zk_table.proofs.heap.Heap.first_due.Goals as goal

pub returns-in-Some-clause-some : goal.returns-in-Some-clause-some
returns-in-Some-clause-some c =
    let s = c.self.inside in
    let held : Held = record { objects = s.watched.objects; unwatched = s.watched.unwatched.items } in
    let is : c.below.result ≡ Some (c.in-Some.at, c.in-Some.number) = search rules in
    let top : get_or s.firsts.items 0 None ≡ Some (c.in-Some.at, c.in-Some.number) =
    ap (λ (fs : List (Option (Moment × ℕ))). get_or fs 0 None) (sym c.deref.ensures.value) ∙ (sym c.below.ensures ∙ is) in
    subst (λ (held : Held). IsFirst held c.in-Some.at c.in-Some.number) c.self.view_is (first-top held s.firsts.items c.in-Some.at c.in-Some.number c.self.invariant top)

pub returns-in-None-clause-none : goal.returns-in-None-clause-none
returns-in-None-clause-none c =
    let s = c.self.inside in
    let held : Held = record { objects = s.watched.objects; unwatched = s.watched.unwatched.items } in
    let is : c.below.result ≡ None = search rules in
    let top : get_or s.firsts.items 0 None ≡ None = ap (λ (fs : List (Option (Moment × ℕ))). get_or fs 0 None) (sym c.deref.ensures.value) ∙ (sym c.below.ensures ∙ is) in
    subst (λ (held : Held). NoneIsFirst held) c.self.view_is (first-nothing held s.firsts.items c.self.invariant top)

use Rattle.std.proofs.Common.{rules, ◌≡◌, ◌+◌, ◌-◌, ◌^◌, ◌≤ℤ◌, ◌∷◌, ◌++◌, ℕ, [], true, Some, refl, sym, ap, subst, ◌∙◌}
use Rattle.std.specs.Prelude.{pos}
use Rattle.zk_base.specs.declared.time.Moment.{Moment}
use Rattle.zk_tree.specs.Table.{insert, moment_after}
use Rattle.zk_tree.specs.Value as plain
use Rattle.zk_machine.specs.declared.queued.Scheduled as rust
use Rattle.zk_machine.specs.Queued.{queued_of}
use Rattle.zk_machine.specs.Schedule.{AreLast, Slots, index_of, key_for, plan_of, with_event}
use Rattle.zk_machine.proofs.ScheduleLemmas.{kept-more, moment-least, plan-more}
use Rattle.zk_machine.proofs.schedule.Schedule.add.Goals as goal

pub invariant_of-self-2 : goal.invariant_of-self-2
invariant_of-self-2 c =
    let old = c.self.inside.slots.items in
    let count = c.self.inside.count in
    let due = c.moment_after-due.result in
    let one : rust.Scheduled = record { due = due; order = count; what = c.args.what } in
    let le : due.0 ≤ℤ pos (2 ^ 63 - 1) = subst (λ (at : Moment). at.0 ≤ℤ pos (2 ^ 63 - 1)) (sym c.moment_after-due.ensures) (moment-least c.args.now c.args.delay) in
    let slots : c.push_back_reserved.new.self.items ≡ old ++ Some one ∷ [] = c.push_back_reserved.ensures.items ∙ ap (λ (items : Slots). items ++ Some one ∷ []) c.reserve.ensures.items in
    let more : c.in-Some.count ≡ count + 1 = search rules in
    let now = c.insert.new.self in
    let is : now ≡ insert due (key_for count) (plain.Bool true) c.self.inside.dues = c.in_ok-insert.ensures.ok ∙ ap (λ key. insert due key (plain.Bool true) c.self.inside.dues) c.key_for.ensures in
    let P : ℕ → Type 0 = λ n. AreLast n (old ++ Some one ∷ []) × (now ≡ index_of (plan_of n (old ++ Some one ∷ []))) in
    let Q : Slots → Type 0 = λ items. AreLast c.in-Some.count items × (now ≡ index_of (plan_of c.in-Some.count items)) in
    subst Q (sym slots) (subst P (sym more) (kept-more count old one c.self.inside.dues now c.self.invariant refl le is))

pub returns-clause-ok : goal.returns-clause-ok
returns-clause-ok c =
    let old = c.self.inside.slots.items in
    let count = c.self.inside.count in
    let due = c.moment_after-due.result in
    let one : rust.Scheduled = record { due = due; order = count; what = c.args.what } in
    let slots : c.push_back_reserved.new.self.items ≡ old ++ Some one ∷ [] = c.push_back_reserved.ensures.items ∙ ap (λ (items : Slots). items ++ Some one ∷ []) c.reserve.ensures.items in
    let more : c.in-Some.count ≡ count + 1 = search rules in
    let view : c.args.self.now ≡ plan_of count old = search rules in
    ap (plan_of c.in-Some.count) slots
    ∙ (ap (λ n. plan_of n (old ++ Some one ∷ [])) more
    ∙ (plan-more count old one refl
    ∙ (ap (λ at. with_event at (queued_of c.args.what) (plan_of count old)) c.moment_after-due.ensures ∙ ap (with_event (moment_after c.args.now c.args.delay) (queued_of c.args.what)) (sym view))))

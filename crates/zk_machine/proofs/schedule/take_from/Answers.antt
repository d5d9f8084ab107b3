use Rattle.std.proofs.Common.{rules, ◌≡◌, ◌<◌, ◌+◌, ◌-◌, ℕ, None, length, slice_set, sym, ap, subst, ◌∙◌}
use Rattle.std.specs.Option.{option_map}
use Rattle.zk_machine.specs.Queued.{scheduled_of}
use Rattle.zk_machine.specs.Schedule.{AreLast, event_numbered, others, waiting}
use Rattle.zk_machine.proofs.ScheduleLemmas.{absent, found-slot, last-less, others-all, slot_at, slot_is, waiting-less}
use Rattle.zk_machine.proofs.schedule.take_from.Goals as goal

pub returns-in_err-place-clause-one : goal.returns-in_err-place-clause-one
returns-in_err-place-clause-one c = λ h.
    let slots = c.args.slots.now.items in
    let long : c.len.result ≡ length slots = search rules in
    let none : c.from_residual.result ≡ None = search rules in
    let gone = subst (λ n. (place : ℕ) → place < n → (c.args.count - n) + place ≡ c.args.order → ⊥) long c.in_err-place.ensures.none in
    ap (option_map scheduled_of) none ∙ sym (absent (c.args.count - length slots) c.args.order slots h.1 gone)

pub returns-in_err-place-clause-left : goal.returns-in_err-place-clause-left
returns-in_err-place-clause-left c = λ h.
    let slots = c.args.slots.now.items in
    let long : c.len.result ≡ length slots = search rules in
    let gone = subst (λ n. (place : ℕ) → place < n → (c.args.count - n) + place ≡ c.args.order → ⊥) long c.in_err-place.ensures.none in
    sym (others-all c.args.order (waiting slots) (absent (c.args.count - length slots) c.args.order slots h.1 gone))

pub returns-clause-one : goal.returns-clause-one
returns-clause-one c = λ h.
    let slots = c.args.slots.now.items in
    let place = c.in_ok-place.place in
    let n = c.args.count - length slots in
    let long : c.len.result ≡ length slots = search rules in
    let within : place < length slots = subst (λ n. place < n) long c.in_ok-place.ensures.some.0 in
    let sum : n + place ≡ c.args.order = subst (λ n. (c.args.count - n) + place ≡ c.args.order) long c.in_ok-place.ensures.some.1 in
    let slot : c.take-one.result ≡ slot_at slots place = c.take-one.ensures.value ∙ sym (slot_is slots place c.index_mut.result.now within c.index_mut.ensures.value) in
    ap (option_map scheduled_of) slot ∙ (sym (found-slot n place slots h.1) ∙ ap (λ m. event_numbered m (waiting slots)) sum)

pub returns-clause-left : goal.returns-clause-left
returns-clause-left c = λ h.
    let slots = c.args.slots.now.items in
    let place = c.in_ok-place.place in
    let n = c.args.count - length slots in
    let long : c.len.result ≡ length slots = search rules in
    let sum : n + place ≡ c.args.order = subst (λ n. (c.args.count - n) + place ≡ c.args.order) long c.in_ok-place.ensures.some.1 in
    c.trim.ensures.waiting
    ∙ (ap (λ one. waiting (slice_set slots place one)) c.take-one.ensures.after
    ∙ (waiting-less n place slots h.1 ∙ ap (λ m. others m (waiting slots)) sum))

pub returns-clause-last : goal.returns-clause-last
returns-clause-last c = λ h.
    let slots = c.args.slots.now.items in
    let place = c.in_ok-place.place in
    c.trim.ensures.last c.args.count (subst (λ one. AreLast c.args.count (slice_set slots place one)) (sym c.take-one.ensures.after) (last-less c.args.count place slots h))

use Rattle.std.proofs.Common.{◌≡◌, ◌∙◌, ◌&&◌, ◌<◌, ℕ, Option, Some, false, true, get_or, nat_le, slice_get, sym, ap, subst, arith}
use Rattle.zk_scope.specs.declared.ends.End.{End}
use Rattle.zk_scope.specs.Ends.{is_end, next_at}
use Rattle.zk_scope.proofs.GroupLaws.{up_to_end, up_to_next}
use Rattle.zk_scope.proofs.ends.are_ends.Goals as goal

pub loop-place-init : goal.loop-place-init
loop-place-init c = λ scripts are place end h found. absurd (omega (arith, h))

pub loop-place-preserved : goal.loop-place-preserved
loop-place-preserved c = λ scripts are.
    let none : End = record { place = 0; endless = false; steps = 0 } in
    let end = get_or c.args.ends.now c.loop-place.place none in
    up_to_next (λ (place : ℕ) (end : End). (nat_le end.steps c.args.most && is_end c.args.ends.now place (next_at scripts place) end) ≡ true) c.args.ends.now c.loop-place.place none c.loop-place-test.true
    (sym (ap (λ (n : Option ℕ). nat_le end.steps c.args.most && is_end c.args.ends.now c.loop-place.place n end) (are c.loop-place.place c.in-Some.next.now (sym c.in-Some.ensures))) ∙ sym c.is_told.ensures ∙ c.if-is_told.true)
    (c.loop-place.invariant scripts are)

pub returns : goal.returns
returns c = λ told scripts are long.
    subst (λ (n : ℕ). (place : ℕ) (end : End) → slice_get c.args.ends.now place ≡ Some end → (nat_le end.steps n && is_end c.args.ends.now place (next_at scripts place) end) ≡ true) (sym long)
    (up_to_end (λ (place : ℕ) (end : End). (nat_le end.steps c.args.most && is_end c.args.ends.now place (next_at scripts place) end) ≡ true) c.args.ends.now c.loop-place.place c.loop-place-test.false
    (c.loop-place.invariant scripts are))

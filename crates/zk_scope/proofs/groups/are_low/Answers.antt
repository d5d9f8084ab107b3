use Rattle.std.proofs.Common.{◌≡◌, ◌∙◌, ◌<◌, ℕ, List, true, get_or, slice_get, sym, ap, arith}
use Rattle.zk_scope.specs.declared.groups.Link.{Link}
use Rattle.zk_scope.specs.Grouping.{first_of, is_low}
use Rattle.zk_scope.proofs.GroupLaws.{up_to_end, up_to_next}
use Rattle.zk_scope.proofs.groups.are_low.Goals as goal

pub loop-place-init : goal.loop-place-init
loop-place-init c = λ names are place link h found. absurd (omega (arith, h))

pub loop-place-preserved : goal.loop-place-preserved
loop-place-preserved c = λ names are.
    let none : Link = record { root = 0; rank = 0; other = 0; which = 0; turn = 0 } in
    let link = get_or c.args.links.now c.loop-place.place none in
    up_to_next (λ (place : ℕ) (link : Link). is_low link.rank (slice_get c.args.lows.now (first_of names (slice_get names place))) ≡ true) c.args.links.now c.loop-place.place none c.loop-place-test.true
    (sym (ap (λ (n : ℕ). is_low link.rank (slice_get c.args.lows.now n)) (are c.loop-place.place c.in-Some.first.now (sym c.in-Some.ensures))) ∙ sym c.is_low.ensures ∙ c.if-is_low.true) (c.loop-place.invariant names are)

pub returns : goal.returns
returns c = λ told names are. up_to_end (λ (place : ℕ) (link : Link). is_low link.rank (slice_get c.args.lows.now (first_of names (slice_get names place))) ≡ true) c.args.links.now c.loop-place.place c.loop-place-test.false (c.loop-place.invariant names are)

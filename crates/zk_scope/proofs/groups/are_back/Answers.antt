use Rattle.std.proofs.Common.{◌≡◌, ◌∙◌, ◌<◌, ℕ, List, true, slice_get, sym, ap, arith}
use Rattle.zk_scope.specs.declared.groups.Link.{Link}
use Rattle.zk_scope.specs.Grouping.{is_back}
use Rattle.zk_scope.proofs.GroupLaws.{up_to_end, up_to_next}
use Rattle.zk_scope.proofs.groups.are_back.Goals as goal

pub loop-place-init : goal.loop-place-init
loop-place-init c = λ place link h found. absurd (omega (arith, h))

pub loop-place-preserved : goal.loop-place-preserved
loop-place-preserved c =
    up_to_next (λ (place : ℕ) (link : Link). is_back c.args.steps.now c.args.links.now place link ≡ true) c.args.links.now c.loop-place.place _ c.loop-place-test.true
    (sym c.is_back.ensures ∙ c.if-not-is_back.false) c.loop-place.invariant

pub returns : goal.returns
returns c = λ told. up_to_end (λ (place : ℕ) (link : Link). is_back c.args.steps.now c.args.links.now place link ≡ true) c.args.links.now c.loop-place.place c.loop-place-test.false c.loop-place.invariant

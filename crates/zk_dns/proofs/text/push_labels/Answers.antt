use Rattle.std.proofs.Common.{◌∙◌, inl, inr, arith}
use Rattle.zk_dns.proofs.TextLemmas.{label-passes, run-inside, run-stops}
use Rattle.zk_dns.proofs.text.push_labels.Goals as goal

pub bounds-bytes-place : goal.bounds-bytes-place
bounds-bytes-place c = run-inside _ _ c.loop-place.invariant.rest

pub slice_bounds-push_label-end : goal.slice_bounds-push_label-end
slice_bounds-push_label-end c =
    let inside = (label-passes c.args.bytes.now c.loop-place.place c.from.result c.loop-place.invariant.rest c.from.ensures (omega arith) (omega arith)).0 in
    omega (arith, inside)

pub loop-place-preserved : goal.loop-place-preserved
loop-place-preserved c =
    let p = label-passes c.args.bytes.now c.loop-place.place c.from.result c.loop-place.invariant.rest c.from.ensures (omega arith) (omega arith) in
    record { rest = p.1; text = rw c.in_ok-push_label.ensures (c.loop-place.invariant.text ∙ p.2 c.loop-place.text.items) }

pub returns-in_default : goal.returns-in_default
returns-in_default c =
    let stops = run-stops c.args.bytes.now c.loop-place.place c.loop-place.text.items c.loop-place.invariant.rest (inl (omega arith)) in
    record { text = c.loop-place.invariant.text ∙ stops.0; within = run-inside _ _ c.loop-place.invariant.rest }

pub returns-in_default-2 : goal.returns-in_default-2
returns-in_default-2 c =
    let stops = run-stops c.args.bytes.now c.loop-place.place c.loop-place.text.items c.loop-place.invariant.rest (inr (omega arith)) in
    record { text = c.loop-place.invariant.text ∙ stops.0; within = run-inside _ _ c.loop-place.invariant.rest }

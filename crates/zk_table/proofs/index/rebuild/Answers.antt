use Rattle.std.proofs.Common.{length, ◌-◌, ◌<◌, subst, arith}
use Rattle.zk_table.proofs.IndexLemmas.{refreshed_down, same_length}
use Rattle.zk_table.proofs.index.rebuild.Goals as goal

pub loop-place-preserved : goal.loop-place-preserved
loop-place-preserved g c =
    let turns = g.P.Places.turns c.args.places.now in
    let at = c.loop-place.place - 1 in
    let within : at < length c.loop-place.firsts = omega (arith, c.loop-place.invariant.0, c.loop-place-test.true) in
    let kept = same_length turns c.loop-place.firsts at within in (
      rw c.refresh.ensures.found (omega (arith, kept, within)),
      λ place from in_index. rw c.refresh.ensures.found
          (refreshed_down turns c.loop-place.firsts at within
          (λ other above inside. c.loop-place.invariant.1 other (omega (arith, above, c.loop-place-test.true)) inside)
          place from (subst (λ fs. place < length fs) c.refresh.ensures.found in_index)),
    )

use Rattle.std.proofs.Common.{length, ◌-◌, ◌/◌, ◌<◌, sym, ◌∙◌, arith}
use Rattle.zk_table.proofs.IndexLemmas.{refreshed_up, refreshed_top, refreshed_same, same_length}
use Rattle.zk_table.proofs.index.reorder.Goals as goal

pub up-preserved : goal.up-preserved
up-preserved g c =
    let turns = g.P.Places.turns c.args.places.now in
    let kept = same_length turns c.up.firsts c.up.at c.up.invariant.0 in
    let long : (c.up.at - 1) / 2 < length c.refresh.new.firsts = rw c.refresh.ensures.found (omega (arith, kept, c.up.invariant.0)) in (
      long,
      λ all. rw c.refresh.ensures.found (refreshed_up turns c.up.firsts c.up.at c.up.invariant.0 (omega arith) (c.up.invariant.1 all)),
    )

pub returns-then-at-eq0 : goal.returns-then-at-eq0
returns-then-at-eq0 g c = λ all.
    let turns = g.P.Places.turns c.args.places.now in
    rw c.refresh.ensures.found (refreshed_top turns c.up.firsts c.up.at c.up.invariant.0 (omega arith) (c.up.invariant.1 all))

pub returns : goal.returns
returns g c = λ all.
    let turns = g.P.Places.turns c.args.places.now in
    let same = c.refresh.ensures.same c.up-test.false in
    rw same (refreshed_same turns c.up.firsts c.up.at c.up.invariant.0 (sym c.refresh.ensures.found ∙ same) (c.up.invariant.1 all))

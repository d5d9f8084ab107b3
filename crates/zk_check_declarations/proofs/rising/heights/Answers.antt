use Rattle.std.proofs.Common.{◌<◌, arith}
use Rattle.zk_check_declarations.proofs.HeightLaws.{higher_measures, lowest_measures, measured}
use Rattle.zk_check_declarations.proofs.rising.heights.Goals as goal

pub loop-round-init : goal.loop-round-init
loop-round-init c = λ scripts fields. lowest_measures c.in_ok-heights.heights.heights.items scripts c.in_ok-heights.ensures

pub loop-round-preserved : goal.loop-round-preserved
loop-round-preserved c = λ scripts fields.
    let low : c.loop-round.round < 200 = omega arith in
    higher_measures c.loop-round.heights.heights.items c.in_ok-heights-2.heights.heights.items c.args.edges.now scripts c.loop-round.round low fields c.in_ok-heights-2.ensures (c.loop-round.invariant scripts fields)

pub returns : goal.returns
returns c = λ scripts fields. measured c.loop-round.heights scripts c.loop-round.round (omega arith) (c.loop-round.invariant scripts fields)

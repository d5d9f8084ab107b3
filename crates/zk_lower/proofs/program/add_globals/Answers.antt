use Rattle.std.proofs.Common.{rules, map, take}
use Rattle.zk_typed.specs.View.{global_of}
use Rattle.zk_lower.specs.View as view
use Rattle.zk_lower.proofs.Growing.{initials_grown, counted, taken, found_one}
use Rattle.zk_lower.proofs.program.add_globals.Goals as goal

pub loop-index-preserved : goal.loop-index-preserved
loop-index-preserved c =
    initials_grown (map global_of (take c.loop-index.index c.args.globals.now)) _ (global_of c.index-globals-index.result) c.in-Some.number c.args.ops.now c.loop-index.ops c.add_initial.new.ops (map view.global_of c.loop-index.list.items) _ c.loop-index.invariant
    (counted global_of c.args.globals.now c.loop-index.index c.in-Some.number c.loop-index-test.true (search rules))
    (taken global_of c.args.globals.now c.loop-index.index c.index-globals-index.result c.loop-index-test.true (search rules))
    c.in_ok-initial.ensures.ops
    (found_one view.global_of c.loop-index.list.items c.push.new.self.items _ _ c.in_ok-push.ensures.items (search rules))

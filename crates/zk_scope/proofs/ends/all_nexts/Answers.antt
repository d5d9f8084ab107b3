use Rattle.zk_scope.specs.Scripted.{scripts_in}
use Rattle.zk_scope.proofs.EndLaws.{first_nexts, more_nexts, next_told}
use Rattle.zk_scope.proofs.ends.all_nexts.Goals as goal

pub loop-place-init : goal.loop-place-init
loop-place-init c = first_nexts (scripts_in c.args.names.now) c.new-nexts.result.items c.new-nexts.ensures.items

pub loop-place-preserved : goal.loop-place-preserved
loop-place-preserved c =
    let scripts = scripts_in c.args.names.now in
    let found = c.next_place-next in
    more_nexts scripts c.loop-place.nexts.items c.push.new.self.items found.result c.loop-place.place c.loop-place.invariant
    (next_told scripts c.loop-place.place found.result found.ensures.is found.ensures.text found.ensures.first) c.in_ok-push.ensures.items

pub returns : goal.returns
returns c = c.loop-place.invariant.1

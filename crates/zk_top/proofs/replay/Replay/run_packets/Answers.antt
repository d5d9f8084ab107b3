use Rattle.std.proofs.Common.{subst}
use Rattle.std.proofs.lemmas.Result.{IfOk-weaker, IfErr-weaker}
use Rattle.zk_top.specs.Replay.{HasCome, IsFlooded}
use Rattle.zk_top.proofs.Replaying.{flooded_run, part_through, run_finished}
use Rattle.zk_top.proofs.replay.Replay.run_packets.Goals as goal

pub returns-in-Through-clause-ran : goal.returns-in-Through-clause-ran
returns-in-Through-clause-ran g c =
    let mid = g.S.Shelf.outside c.take_packets.new.shelf in
    let new = g.S.Shelf.outside c.finish.new.shelf in
    let reader = c.take_packets.new.reader in
    let before = c.take_packets.new.self in
    IfOk-weaker c.finish.result _ _ (λ end run first plan whole bytes played is.
    let come = c.in_ok-last.ensures.came first plan whole bytes played is in
    run first plan whole (subst (λ came. HasCome first plan whole came before reader mid) c.in-Through.is come))
    (run_finished c.finish.result before c.finish.new.self reader c.in-Through.last mid new c.finish.ensures.over c.finish.ensures.input)

pub returns-in-Through-clause-stopped : goal.returns-in-Through-clause-stopped
returns-in-Through-clause-stopped g c =
    let mid = g.S.Shelf.outside c.take_packets.new.shelf in
    let new = g.S.Shelf.outside c.finish.new.shelf in
    let reader = c.take_packets.new.reader in
    let before = c.take_packets.new.self in
    IfErr-weaker c.finish.result _ _ (λ stop stopped first plan whole bytes played is.
    let come = c.in_ok-last.ensures.came first plan whole bytes played is in
    part_through first plan whole c.in-Through.last before reader mid stop new (subst (λ came. HasCome first plan whole came before reader mid) c.in-Through.is come)
    (stopped first plan)) c.finish.ensures.stopped

pub returns-in-Flooded-clause-ran : goal.returns-in-Flooded-clause-ran
returns-in-Flooded-clause-ran g c first plan whole bytes played is =
    let new = g.S.Shelf.outside c.take_packets.new.shelf in
    let reader = c.take_packets.new.reader in
    let after = c.take_packets.new.self in
    let come : IsFlooded first plan whole c.in-Flooded.moment after new =
    subst (λ came. HasCome first plan whole came after reader new) c.in-Flooded.is (c.in_ok-last.ensures.came first plan whole bytes played is) in
    flooded_run first plan whole come.records come.ending c.in-Flooded.moment after reader new come.all come.flooded

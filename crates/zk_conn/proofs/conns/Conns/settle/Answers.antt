use Rattle.slab.specs.Slab.{get}
use Rattle.zk_conn.proofs.RemoveLemmas.{stands_filed, stale_there, stale_falls}
use Rattle.zk_conn.proofs.conns.Conns.settle.Goals as goal

pub loop-slot-smaller : goal.loop-slot-smaller
loop-slot-smaller c =
    let was = stale_there (get c.loop-slot.self.slots c.in-Some.slot) c.in-Some.ensures.stale in
    stale_falls c.loop-slot.self c.file.new.self c.in-Some.slot was.0 was.1 c.in-Some.ensures.stale (c.file.ensures was.0 was.1)

pub loop-slot-preserved : goal.loop-slot-preserved
loop-slot-preserved c = λ told stands.
    let was = stale_there (get c.loop-slot.self.slots c.in-Some.slot) c.in-Some.ensures.stale in
    stands_filed c.loop-slot.self c.file.new.self told c.in-Some.slot was.0 was.1 (c.file.ensures was.0 was.1) (c.loop-slot.invariant told stands)

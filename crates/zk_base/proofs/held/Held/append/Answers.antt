use Rattle.std.proofs.Common.{◌+◌, ◌≤◌, ◌++◌, length, refl, ap, ◌∙◌, arith, take_all}
use Rattle.zk_base.specs.Held.{bytes_of}
use Rattle.zk_base.proofs.HeldLemmas.{written_behind}
use Rattle.zk_base.proofs.held.Held.append.Goals as goal

pub returns-clause-ok : goal.returns-clause-ok
unfolding bytes_of
returns-clause-ok c =
    let room = c.make_room.new.self in
    let piece = c.args.piece.now in
    let all = c.deref_mut.result.now in
    let enough : room.end + length piece ≤ length all = omega (arith, c.in_ok-make_room.ensures.room, c.deref_mut.ensures.len) in
    written_behind room.bytes all c.copy_from_slice.new.self (bytes_of c.args.self.now) room.taken room.end (length piece) (room.end + length piece) (length piece)
    c.deref_mut.ensures.value c.in_ok-make_room.ensures.bytes room.order enough (ap length c.copy_from_slice.ensures.after) refl (omega arith)
    ∙ ap (λ bytes. bytes_of c.args.self.now ++ bytes) (take_all (length piece) c.copy_from_slice.new.self (omega (arith, ap length c.copy_from_slice.ensures.after)) ∙ c.copy_from_slice.ensures.after)

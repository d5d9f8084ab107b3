use Rattle.std.proofs.Common.{◌≡◌, ◌<◌, ◌≤◌, length, refl, sym, subst, ◌∙◌, arith}
use Rattle.zk_table.specs.Dues.{IsIndexed}
use Rattle.zk_table.proofs.DueLemmas.{indexed-longer, indexed-new, never-beyond}
use Rattle.zk_table.proofs.heap.Heap.add_table.Goals as goal

-- no room
pub invariant_of-self : goal.invariant_of-self
invariant_of-self c =
    let s = c.self.inside in
    let marks = s.watched.unwatched.items in
    indexed-longer marks marks s.watched.objects s.firsts.items c.make_room.new.firsts.items (λ number. refl) c.make_room.ensures.tree c.make_room.ensures.long c.self.invariant

-- no memory for the table
pub invariant_of-self-in_err-number : goal.invariant_of-self-in_err-number
invariant_of-self-in_err-number c =
    let s = c.self.inside in
    let marks = s.watched.unwatched.items in
    subst (λ os. IsIndexed os marks c.make_room.new.firsts.items) (sym c.in_err-number.ensures.err)
    (indexed-longer marks marks s.watched.objects s.firsts.items c.make_room.new.firsts.items (λ number. refl) c.make_room.ensures.tree c.make_room.ensures.long c.self.invariant)

pub invariant_of-self-2 : goal.invariant_of-self-2
invariant_of-self-2 c =
    let s = c.self.inside in
    let marks = s.watched.unwatched.items in
    let firsts = c.make_room.new.firsts in
    let longer = indexed-longer marks marks s.watched.objects s.firsts.items firsts.items (λ number. refl) c.make_room.ensures.tree c.make_room.ensures.long c.self.invariant in
    let last : c.in_ok-number.number.0 ≡ length s.watched.objects = c.in_ok-number.ensures.number in
    indexed-new marks marks s.watched.objects c.add_table.new.self c.args.table firsts c.deref_mut.result.now c.reorder.new.firsts c.in_ok-number.number.0 last
    (λ other differs. refl)
    (λ past. never-beyond c.args.table c.expiry.result (length firsts.items) (length s.watched.objects) c.expiry.ensures.expiry c.expiry.ensures.never
    (λ some. subst (λ n. n < length firsts.items) c.len.ensures (c.in_ok-make_room.ensures.room (c.is_some-expires.ensures ∙ some)))
    (subst (λ n. length firsts.items ≤ n) last past))
    c.in_ok-number.ensures.ok c.deref_mut.ensures.value (omega arith) c.reorder.ensures longer

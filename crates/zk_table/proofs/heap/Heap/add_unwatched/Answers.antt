use Rattle.std.proofs.Common.{◌≡◌, ◌<◌, ◌≤◌, ◌∙◌, ℕ, true, is_some, length, refl, sym, ap, subst, arith}
use Rattle.std.specs.Prelude.{is_none}
use Rattle.std.specs.Vec.{with_items}
use Rattle.zk_table.specs.Dues.{Held, IsIndexed, StaysWatchedBut, is_watched}
use Rattle.zk_table.proofs.DueLemmas.{indexed-longer, indexed-new, marked-new, marked-one, marked-others, never-beyond}
use Rattle.zk_table.proofs.heap.Heap.add_unwatched.Goals as goal

-- no room in the index
pub invariant_of-self : goal.invariant_of-self
invariant_of-self c =
    let s = c.self.inside in
    let marks = s.watched.unwatched.items in
    indexed-longer marks marks s.watched.objects s.firsts.items c.make_room.new.firsts.items (λ number. refl) c.make_room.ensures.tree c.make_room.ensures.long c.self.invariant

-- no room for a mark
pub invariant_of-self-in_err-make_mark : goal.invariant_of-self-in_err-make_mark
invariant_of-self-in_err-make_mark c =
    let s = c.self.inside in
    indexed-longer s.watched.unwatched.items c.make_mark.new.unwatched.items s.watched.objects s.firsts.items c.make_room.new.firsts.items
    c.make_mark.ensures.same c.make_room.ensures.tree c.make_room.ensures.long c.self.invariant

-- no memory for the table
pub invariant_of-self-in_err-number : goal.invariant_of-self-in_err-number
invariant_of-self-in_err-number c =
    let s = c.self.inside in
    subst (λ os. IsIndexed os c.make_mark.new.unwatched.items c.make_room.new.firsts.items) (sym c.in_err-number.ensures.err)
    (indexed-longer s.watched.unwatched.items c.make_mark.new.unwatched.items s.watched.objects s.firsts.items c.make_room.new.firsts.items
    c.make_mark.ensures.same c.make_room.ensures.tree c.make_room.ensures.long c.self.invariant)

-- the table is there
pub invariant_of-self-2 : goal.invariant_of-self-2
invariant_of-self-2 c =
    let s = c.self.inside in
    let was = s.watched.unwatched.items in
    let marks = c.make_mark.new.unwatched in
    let firsts = c.make_room.new.firsts in
    let place = c.len-place.result in
    let last : place ≡ length s.watched.objects = c.len-place.ensures in
    let longer = indexed-longer was was s.watched.objects s.firsts.items firsts.items (λ number. refl) c.make_room.ensures.tree c.make_room.ensures.long c.self.invariant in
    let others : (other : ℕ) → (other ≡ place → ⊥) → is_watched (with_items marks c.mark.new.unwatched).items other ≡ is_watched was other = λ other apart.
    marked-others marks c.deref_mut.result.now c.mark.new.unwatched place c.deref_mut.ensures.value (omega arith) c.mark.ensures.others other apart ∙ c.make_mark.ensures.same other in
    indexed-new was (with_items marks c.mark.new.unwatched).items s.watched.objects c.add_table.new.self c.args.table firsts c.deref_mut-2.result.now c.reorder.new.firsts place last others
    (λ past. never-beyond c.args.table c.expiry.result (length firsts.items) (length s.watched.objects) c.expiry.ensures.expiry c.expiry.ensures.never
    (λ some. subst (λ n. n < length firsts.items) last (c.in_ok-make_room.ensures.room (c.is_some-expires.ensures ∙ some)))
    (subst (λ n. length firsts.items ≤ n) last past))
    c.in_ok-number.ensures.ok c.deref_mut-2.ensures.value (omega arith) c.reorder.ensures longer

pub returns-clause-others : goal.returns-clause-others
returns-clause-others c =
    let s = c.self.inside in
    let marks = c.make_mark.new.unwatched in
    let place = c.len-place.result in
    let last : place ≡ length s.watched.objects = c.len-place.ensures in
    subst (λ (held : Held). StaysWatchedBut (length held.objects) held.unwatched (with_items marks c.mark.new.unwatched).items) c.self.view_is
    (λ other apart is. marked-others marks c.deref_mut.result.now c.mark.new.unwatched place c.deref_mut.ensures.value (omega arith) c.mark.ensures.others other (λ e. apart (e ∙ last))
    ∙ (c.make_mark.ensures.same other ∙ is))

pub returns-clause-unwatched : goal.returns-clause-unwatched
returns-clause-unwatched c =
    let s = c.self.inside in
    let marks = c.make_mark.new.unwatched in
    let place = c.len-place.result in
    let expires = c.is_some-expires.result in
    let last : place ≡ length s.watched.objects = c.len-place.ensures in
    let room : expires ≡ true → place < length c.deref_mut.result.now = λ is. subst (λ ms. place < length ms) (sym c.deref_mut.ensures.value) (c.in_ok-make_mark.ensures.room is) in
    let is : is_watched (with_items marks c.mark.new.unwatched).items place ≡ is_none c.args.table.expiry =
    marked-one marks c.mark.new.unwatched place (is_none c.args.table.expiry) (omega arith)
    (marked-new c.args.table.expiry expires (length c.deref_mut.result.now) place c.mark.new.unwatched (c.is_some-expires.ensures ∙ ap is_some c.expiry.ensures.expiry) room
    c.mark.ensures.clear c.mark.ensures.set) in
    subst (λ (held : Held). is_watched (with_items marks c.mark.new.unwatched).items (length held.objects) ≡ is_none c.args.table.expiry) c.self.view_is
    (subst (λ n. is_watched (with_items marks c.mark.new.unwatched).items n ≡ is_none c.args.table.expiry) last is)

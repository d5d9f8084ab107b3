-- The items of packets, one after another.
use Rattle.std.proofs.Common.{◌≡◌, ℕ, Bool, true, false, List, [], ◌∷◌, ◌++◌, length, slice_get, Some, refl, sym, ap, subst, ◌∙◌, append-nil, append_assoc, ◌^◌, pos, ◌≤ℤ◌, arith}
use Rattle.std.proofs.lemmas.Int.{ints}
use Rattle.zk_base.specs.declared.time.Moment.{Moment}
use Rattle.zk_base.specs.Captured.{Captured, IsBounded, captured}
use Rattle.zk_base.specs.declared.capture.PacketView.{PacketView}
use Rattle.zk_io.specs.declared.capture.CaptureReader.{CaptureReader}
use Rattle.zk_io.specs.Reading.{link_of, next_record}
use Rattle.zk_base.specs.NetworkTime.{later, now, now-append}
use Rattle.zk_outcome.specs.Prefix.{IsPrefix}
use Rattle.zk_top.specs.Listing.{ItemsStay}
use Rattle.zk_traffic.specs.declared.item.Item.{Item}
use Rattle.zk_traffic.specs.declared.options.Options.{Options}
use Rattle.zk_traffic.specs.Items.{items_of, items_so_far}

-- what stands behind the first items
get_behind : (given rest : List Item) → slice_get (given ++ rest) (length given) ≡ slice_get rest 0
get_behind [] rest = refl
get_behind (x ∷ given) rest = get_behind given rest

next_first : (item : Item) (rest : List Item) → Some item ≡ slice_get rest 0 → (others : List Item) × (rest ≡ item ∷ others)
next_first item [] is = absurd (let never : ⊥ = cc in never)
next_first item (first ∷ rest) is = let same : first ≡ item = cc in (rest, ap (λ (i : Item). i ∷ rest) same)

-- the item that is given next goes on with those that were given
pub prefix_next : (given all : List Item) (item : Item) → IsPrefix given all → Some item ≡ slice_get all (length given) → IsPrefix (given ++ item ∷ []) all
prefix_next given all item prefix next =
    let here : Some item ≡ slice_get prefix.rest 0 = next ∙ ap (λ (items : List Item). slice_get items (length given)) prefix.joined ∙ get_behind given prefix.rest in
    let found = next_first item prefix.rest here in
    record {
      rest = found.0;
      joined = prefix.joined ∙ ap (λ items. given ++ items) found.1 ∙ sym (append_assoc given (item ∷ []) found.0);
    }

-- the items of the packets so far are the first ones of more
pub items_begin : ItemsStay → (options : Options) (packets others : List Captured) (ended : Bool) → IsPrefix (items_of options packets false) (items_of options (packets ++ others) ended)
items_begin stay options packets others ended = let behind = stay options packets others ended in record { rest = behind.0; joined = behind.1 }

-- and so at the end
pub items_end : ItemsStay → (options : Options) (packets : List Captured) → IsPrefix (items_of options packets false) (items_of options packets true)
items_end stay options packets = subst (λ ps. IsPrefix (items_of options packets false) (items_of options ps true)) (append-nil packets) (items_begin stay options packets [] true)

-- no packet has no item
pub no_items : (options : Options) → items_of options [] false ≡ []
unfolding items_of items_so_far
no_items options = refl

-- what a bounded packet has
pub bounded_moment : (packet : Captured) → IsBounded packet → (pos 0 ≤ℤ packet.moment.0) × (packet.moment.0 ≤ℤ pos (2 ^ 62))
bounded_moment packet bounded =
    let (micros, small, is) = bounded.moment in
    subst (λ (m : Moment). (pos 0 ≤ℤ m.0) × (m.0 ≤ℤ pos (2 ^ 62))) (sym is) (omega (arith, ints), omega (arith, ints, small))

-- the packet that stands next, with its link type
pub next_at : (bytes : List ℕ) (reader : CaptureReader) (view : PacketView) (link : ℕ) → link ≡ link_of reader → next_record bytes reader ≡ Some (captured (link_of reader) view)
    → next_record bytes reader ≡ Some (captured link view)
next_at bytes reader view link is next = subst (λ l. next_record bytes reader ≡ Some (captured l view)) (sym is) next

-- network time at one more packet
pub next_now : (packets : List Captured) (time after : Moment) (packet : Captured) → time ≡ now packets → after ≡ later time packet.moment → after ≡ now (packets ++ packet ∷ [])
next_now packets time after packet is when = when ∙ ap (λ t. later t packet.moment) is ∙ sym (now-append packets packet)

-- The packets that are seen.
use Rattle.std.proofs.Common.{◌≡◌, ℕ, Bool, true, false, cond, List, [], ◌∷◌, ◌++◌, filter, length, map, Option, None, Some, refl, ap, ◌∙◌}
use Rattle.std.specs.List.{flat_map}
use Rattle.std.specs.Option.{option_map_or}
use Rattle.std.specs.Prelude.{is_none}
use Rattle.std.proofs.lemmas.List.{append-nil}
use Rattle.std.proofs.lemmas.List.Elements.{filter-append}
use Rattle.zk_conn.specs.Segment.{key_of}
use Rattle.zk_base.specs.Captured.{Captured}
use Rattle.zk_base.specs.NetworkTime.{now}
use Rattle.zk_traffic.specs.declared.item.Item.{Item}
use Rattle.zk_traffic.specs.declared.item.What.TheVariants as what
use Rattle.zk_traffic.specs.declared.options.Options.{Options}
use Rattle.zk_traffic.specs.Conversation.{with_segment}
use Rattle.zk_traffic.specs.Datagram.{time_at}
use Rattle.zk_traffic.specs.Instances.{begins, in_order, joined_by, latest, live_at, number_of, over_between}
use Rattle.zk_traffic.specs.Items.{facts, item, items_at, items_at_end, items_of, items_so_far, items_with, own_items, removed, removed_at, seen, segment_items, when}
use Rattle.zk_traffic.specs.Segments.{Segment, segment_at, segments}
use Rattle.zk_traffic.specs.Steps.{Step, steps}
use Rattle.zk_item_laws.specs.Own.{PacketsAreSeen, conn_of}
use Rattle.zk_item_laws.proofs.Each.{Each, IsOf, each-less, each-map, items_with-each}

abbrev packets : List Item → List Item
packets items = filter (λ i. is_none (conn_of i.what)) items

-- items that happen to a connection
abbrev Happens : Item → Type 0
Happens i = is_none (conn_of i.what) ≡ false

no-packets : (l : List Item) → Each Happens l → packets l ≡ []
no-packets [] each = refl
no-packets (i ∷ l) each = ap (λ b. cond b (i ∷ packets l) (packets l)) each.0 ∙ no-packets l each.1

segment-happens : (limit : ℕ) (before : List Segment) (s : Segment) → Each Happens (segment_items limit before s)
unfolding segment_items own_items
segment-happens limit before s =
    let o = latest limit (key_of s.view) before in
    let number = number_of limit (key_of s.view) (before ++ s ∷ []) in
    let c = joined_by o s in
    let known = facts (with_segment limit c s) in
    each-less (IsOf s.moment number) Happens (items_with limit number (begins o s) c s known) (λ i of. of.happens) (items_with-each limit number (begins o s) c s known)

brought-happens : (limit : ℕ) (before : List Segment) (o : Option Segment) → Each Happens (option_map_or (segment_items limit before) o [])
brought-happens limit before None = tt
brought-happens limit before (Some s) = segment-happens limit before s

seen-seen : (options : Options) (step : Step Captured) → packets (seen options step) ≡ seen options step
seen-seen options step = by_packets options.packets
  where
    by_packets : (b : Bool) → packets (when b (item (time_at step) (what.Seen step.last.moment (length step.last.bytes) step.last.orig_len)))
        ≡ when b (item (time_at step) (what.Seen step.last.moment (length step.last.bytes) step.last.orig_len))
    by_packets true = refl
    by_packets false = refl

-- of a record its packet alone
record-seen : (options : Options) (step : Step Captured) → packets (items_at options step) ≡ seen options step
unfolding items_at
record-seen options step =
    let before = segments options step.before in
    let gone = map removed (in_order (over_between options.buffer before (now step.before) (time_at step))) in
    let brought = option_map_or (segment_items options.buffer before) (segment_at options step) [] in
    let test : Item → Bool = λ (i : Item). is_none (conn_of i.what) in
    filter-append test (gone ++ seen options step) brought
    ∙ ap (λ l. packets (gone ++ seen options step) ++ l) (no-packets brought (brought-happens options.buffer before (segment_at options step)))
    ∙ append-nil (packets (gone ++ seen options step))
    ∙ filter-append test gone (seen options step)
    ∙ ap (λ l. l ++ packets (seen options step)) (no-packets gone (each-map Happens removed (in_order (over_between options.buffer before (now step.before) (time_at step))) (λ i. refl)))
    ∙ seen-seen options step

records-seen : (options : Options) (l : List (Step Captured)) → packets (flat_map (items_at options) l) ≡ flat_map (seen options) l
records-seen options [] = refl
records-seen options (step ∷ l) =
    filter-append (λ (i : Item). is_none (conn_of i.what)) (items_at options step) (flat_map (items_at options) l)
    ∙ ap (λ x. x ++ packets (flat_map (items_at options) l)) (record-seen options step)
    ∙ ap (λ x. seen options step ++ x) (records-seen options l)

pub packets_are_seen : PacketsAreSeen
unfolding items_of items_so_far items_at_end
packets_are_seen options records ended =
    filter-append (λ (i : Item). is_none (conn_of i.what)) (items_so_far options records) (cond ended (items_at_end options records) [])
    ∙ ap (λ l. packets (items_so_far options records) ++ l) (at_end ended)
    ∙ append-nil (packets (items_so_far options records))
    ∙ records-seen options (steps records)
  where
    at_end : (b : Bool) → packets (cond b (map (removed_at (now records)) (live_at options.buffer (segments options records) (now records))) []) ≡ []
    at_end true = no-packets _ (each-map Happens (removed_at (now records)) (live_at options.buffer (segments options records) (now records)) (λ i. refl))
    at_end false = refl

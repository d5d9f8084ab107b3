-- The moments of items rise.
use Rattle.std.proofs.Common.{◌≡◌, ◌≤ℤ◌, ℕ, ℤ, pos, Bool, true, false, cond, not, ◌&&◌, ◌||◌, List, [], ◌∷◌, ◌++◌, filter, map, length, Option, None, Some, refl, sym, ap, subst, ◌∙◌, arith, append_assoc}
use Rattle.std.specs.List.{flat_map}
use Rattle.std.specs.Option.{option_map_or}
use Rattle.std.specs.Prelude.{◌==◌, int_le, int_lt, is_none, nat_lt, option_and_then}
use Rattle.std.proofs.lemmas.Bool.Decides.{nat_tests}
use Rattle.std.proofs.lemmas.Int.{ints}
use Rattle.std.proofs.lemmas.List.{append-nil}
use Rattle.zk_base.specs.declared.time.Moment.{Moment}
use Rattle.zk_base.specs.Captured.{Captured}
use Rattle.zk_conn.specs.Segment.{key_of}
use Rattle.zk_l4.specs.Tcp as tcp
use Rattle.zk_l4.specs.Udp as udp
use Rattle.zk_base.specs.NetworkTime.{now}
use Rattle.zk_traffic.specs.declared.item.Item.{Item}
use Rattle.zk_traffic.specs.declared.item.What.TheVariants as what
use Rattle.zk_traffic.specs.declared.options.Options.{Options}
use Rattle.zk_traffic.specs.Conversation.{Conversation, with_segment}
use Rattle.zk_traffic.specs.Datagram.{Datagram, datagram_at, time_at}
use Rattle.zk_traffic.specs.Instances.{Instance, begins, in_order, insert, instances, is_first, is_over_by, joined_by, latest, live_at, number_of, over_between, removal}
use Rattle.zk_traffic.specs.Items.{facts, item, items_at, items_at_end, items_of, items_so_far, items_with, own_items, removed, removed_at, seen, segment_items}
use Rattle.zk_traffic.specs.Segments.{Segment, segment_at, segment_in, segments, tcp_segment, udp_segment}
use Rattle.zk_traffic.specs.Steps.{Step, steps_behind}
use Rattle.zk_traffic.proofs.RecordLemmas.{not_before}
use Rattle.zk_item_laws.specs.Moments.{AreInOrder, MomentsRise}
use Rattle.zk_item_laws.proofs.Each.{Each, IsOf, each-less, each-map, each-when, items_with-each}

le-refl : (a : ℤ) → a ≤ℤ a
le-refl a = grind (arith, ints)

le-through : (a b c : ℤ) → a ≤ℤ b → b ≤ℤ c → a ≤ℤ c
le-through a b c first second = grind (arith, ints)

-- the moments of items, up to one, and of items from there on
join : (a b c : Moment) (l m : List Item) → AreInOrder a l b → AreInOrder b m c → AreInOrder a (l ++ m) c
join a b c [] [] first second = le-through a.0 b.0 c.0 first second
join a b c [] (i ∷ m) first second = (le-through a.0 b.0 i.moment.0 first second.0, second.1)
join a b c (i ∷ l) m first second = (first.0, join i.moment b c l m first.1 second)

-- Items of one moment --------------------------------------------------------------------------------------------------

abbrev AllAt : Moment → List Item → Type 0
AllAt t l = Each (λ (i : Item). i.moment ≡ t) l

at-rises : (t : Moment) (l : List Item) → AllAt t l → AreInOrder t l t
at-rises t [] all = le-refl t.0
at-rises t (i ∷ l) all =
    (subst (λ (m : Moment). t.0 ≤ℤ m.0) (sym all.0) (le-refl t.0), subst (λ m. AreInOrder m l t) (sym all.0) (at-rises t l all.1))

-- all that a segment brings is at its moment
segment-at : (limit number : ℕ) (before : Option Conversation) (s : Segment) → AllAt s.moment (own_items limit number before s)
unfolding own_items
segment-at limit number before s =
    let c = joined_by before s in
    let known = facts (with_segment limit c s) in
    each-less (IsOf s.moment number) (λ (i : Item). i.moment ≡ s.moment) (items_with limit number (begins before s) c s known) (λ i of. of.at) (items_with-each limit number (begins before s) c s known)

-- Removals -------------------------------------------------------------------------------------------------------------

first-lower : (a b : ℤ) (n m : ℕ) → (int_lt a b || (int_le a b && nat_lt n m)) ≡ true → a ≤ℤ b
first-lower a b n m is = grind (arith, ints, nat_tests)

later-lower : (a b : ℤ) (n m : ℕ) → (int_lt a b || (int_le a b && nat_lt n m)) ≡ false → b ≤ℤ a
later-lower a b n m is = grind (arith, ints, nat_tests)

insert-rises : (from to : Moment) (i : Instance) (l : List Instance) → from.0 ≤ℤ (removal i.conversation).0 → (removal i.conversation).0 ≤ℤ to.0
    → AreInOrder from (map removed l) to → AreInOrder from (map removed (insert i l)) to
insert-rises from to i [] early late rise = (early, late)
insert-rises from to i (next ∷ rest) early late rise =
    by_first (is_first next i) refl (λ sooner. insert-rises (removal next.conversation) to i rest sooner late rise.1)
  where
    by_first : (b : Bool) → is_first next i ≡ b
        → ((removal next.conversation).0 ≤ℤ (removal i.conversation).0 → AreInOrder (removal next.conversation) (map removed (insert i rest)) to)
        → AreInOrder from (map removed (cond b (next ∷ insert i rest) (i ∷ next ∷ rest))) to
    by_first true is more = (rise.0, more (first-lower (removal next.conversation).0 (removal i.conversation).0 next.number i.number is))
    by_first false is more = (early, (later-lower (removal next.conversation).0 (removal i.conversation).0 next.number i.number is, rise.1))

-- instances that are over between two moments
abbrev AreBetween : Moment → Moment → List Instance → Type 0
AreBetween from to [] = Unit {0}
AreBetween from to (i ∷ rest) = (from.0 ≤ℤ (removal i.conversation).0) × ((removal i.conversation).0 ≤ℤ to.0) × AreBetween from to rest

in_order-rises : (from to : Moment) (l : List Instance) → from.0 ≤ℤ to.0 → AreBetween from to l → AreInOrder from (map removed (in_order l)) to
in_order-rises from to [] later between = later
in_order-rises from to (i ∷ rest) later between = insert-rises from to i (in_order rest) between.0 between.1 (in_order-rises from to rest later between.2)

over-lower : (a b : ℤ) → int_le a b ≡ true → a ≤ℤ b
over-lower a b is = grind (arith, ints)

live-lower : (a b : ℤ) → int_le b a ≡ false → a ≤ℤ b
live-lower a b is = grind (arith, ints)

between : (from to : Moment) (l : List Instance) → AreBetween from to (filter (λ i. is_over_by to i.conversation) (filter (λ i. not (is_over_by from i.conversation)) l))
between from to [] = tt
between from to (i ∷ rest) = by_live (is_over_by from i.conversation) refl (between from to rest)
  where
    more : List Instance
    more = filter (λ i. not (is_over_by from i.conversation)) rest

    by_over : (b : Bool) → is_over_by from i.conversation ≡ false → is_over_by to i.conversation ≡ b → AreBetween from to (filter (λ i. is_over_by to i.conversation) more)
        → AreBetween from to (cond b (i ∷ filter (λ i. is_over_by to i.conversation) more) (filter (λ i. is_over_by to i.conversation) more))
    by_over true live over rest_is = (live-lower from.0 (removal i.conversation).0 live, over-lower (removal i.conversation).0 to.0 over, rest_is)
    by_over false live over rest_is = rest_is

    by_live : (b : Bool) → is_over_by from i.conversation ≡ b → AreBetween from to (filter (λ i. is_over_by to i.conversation) more)
        → AreBetween from to (filter (λ i. is_over_by to i.conversation) (cond (not b) (i ∷ more) more))
    by_live true over rest_is = rest_is
    by_live false live rest_is = by_over (is_over_by to i.conversation) live refl rest_is

-- Records --------------------------------------------------------------------------------------------------------------

-- the segment that stands at a record is at its network time
in-moment : (t : Moment) (datagram : Datagram) (s : Segment) → segment_in t datagram ≡ Some s → s.moment ≡ t
in-moment t datagram s is =
    by_protocol (datagram.protocol == tcp.protocol) (datagram.protocol == udp.protocol)
    (is_none (tcp.tcp_fault datagram.source datagram.destination datagram.payload datagram.full_len datagram.judged))
    (is_none (udp.udp_fault datagram.source datagram.destination datagram.payload datagram.full_len datagram.judged)) is
  where
    same : (x : Segment) → x.moment ≡ t → Some x ≡ Some s → s.moment ≡ t
    same x at e = sym (ap (λ (o : Option Segment). option_map_or (λ (y : Segment). y.moment) o t) e) ∙ at

    none : None ≡ Some s → s.moment ≡ t
    none e = absurd (none_some e)
      where
        none_some : None ≡ Some s → ⊥
        none_some e = cc

    by_protocol : (a b c d : Bool) → cond a (cond c (Some (tcp_segment t datagram)) None) (cond b (cond d (Some (udp_segment t datagram)) None) None) ≡ Some s → s.moment ≡ t
    by_protocol true b true d is = same (tcp_segment t datagram) refl is
    by_protocol true b false d is = none is
    by_protocol false true c true is = same (udp_segment t datagram) refl is
    by_protocol false true c false is = none is
    by_protocol false false c d is = none is

pub segment-moment : (options : Options) (step : Step Captured) (s : Segment) → segment_at options step ≡ Some s → s.moment ≡ time_at step
unfolding segment_at
segment-moment options step s is = by_datagram (datagram_at options step) is
  where
    by_datagram : (o : Option Datagram) → option_and_then (segment_in (time_at step)) o ≡ Some s → s.moment ≡ time_at step
    by_datagram None is = absurd (none_some is)
      where
        none_some : None ≡ Some s → ⊥
        none_some e = cc
    by_datagram (Some datagram) is = in-moment (time_at step) datagram s is

seen-at : (options : Options) (step : Step Captured) → AllAt (time_at step) (seen options step)
seen-at options step =
    each-when (λ (i : Item). i.moment ≡ time_at step) options.packets (item (time_at step) (what.Seen step.last.moment (length step.last.bytes) step.last.orig_len)) refl

brought-at : (options : Options) (step : Step Captured) (o : Option Segment) → segment_at options step ≡ o
    → AllAt (time_at step) (option_map_or (segment_items options.buffer (segments options step.before)) o [])
unfolding segment_items
brought-at options step None is = tt
brought-at options step (Some s) is =
    let before = segments options step.before in
    subst (λ t. AllAt t (segment_items options.buffer before s)) (segment-moment options step s is)
    (segment-at options.buffer (number_of options.buffer (key_of s.view) (before ++ s ∷ [])) (latest options.buffer (key_of s.view) before) s)

record-rises : (options : Options) (step : Step Captured) → AreInOrder (now step.before) (items_at options step) (time_at step)
unfolding items_at
record-rises options step =
    let t = time_at step in
    let before = segments options step.before in
    let gone = over_between options.buffer before (now step.before) t in
    join (now step.before) t t (map removed (in_order gone) ++ seen options step) (option_map_or (segment_items options.buffer before) (segment_at options step) [])
    (join (now step.before) t t (map removed (in_order gone)) (seen options step)
    (in_order-rises (now step.before) t gone (not_before step.before step.last) (between (now step.before) t (instances options.buffer before)))
    (at-rises t (seen options step) (seen-at options step)))
    (at-rises t _ (brought-at options step (segment_at options step) refl))

-- records behind others
behind-rises : (options : Options) (before rest : List Captured) → AreInOrder (now before) (flat_map (items_at options) (steps_behind before rest)) (now (before ++ rest))
behind-rises options before [] = subst (λ l. (now before).0 ≤ℤ (now l).0) (sym (append-nil before)) (le-refl (now before).0)
behind-rises options before (p ∷ rest) =
    let step : Step Captured = record { before = before; last = p } in
    subst (λ l. AreInOrder (now before) (items_at options step ++ flat_map (items_at options) (steps_behind (before ++ p ∷ []) rest)) (now l)) (append_assoc before (p ∷ []) rest)
    (join (now before) (now (before ++ p ∷ [])) (now ((before ++ p ∷ []) ++ rest)) (items_at options step) (flat_map (items_at options) (steps_behind (before ++ p ∷ []) rest))
    (record-rises options step) (behind-rises options (before ++ p ∷ []) rest))

so_far-rises : (options : Options) (records : List Captured) → AreInOrder (record { 0 = pos 0 }) (items_so_far options records) (now records)
unfolding items_so_far
so_far-rises options records = behind-rises options [] records

end-rises : (options : Options) (records : List Captured) → AreInOrder (now records) (items_at_end options records) (now records)
unfolding items_at_end
end-rises options records =
    at-rises (now records) _ (each-map (λ (i : Item). i.moment ≡ now records) (removed_at (now records)) (live_at options.buffer (segments options records) (now records)) (λ i. refl))

-- an ended capture, or one that has come so far
by_end : (options : Options) (records : List Captured) (ended : Bool) → AreInOrder (record { 0 = pos 0 }) (items_of options records ended) (now records)
unfolding items_of
by_end options records true =
    join (record { 0 = pos 0 }) (now records) (now records) (items_so_far options records) (items_at_end options records)
    (so_far-rises options records) (end-rises options records)
by_end options records false =
    subst (λ l. AreInOrder (record { 0 = pos 0 }) l (now records)) (sym (append-nil (items_so_far options records))) (so_far-rises options records)

pub moments_rise : MomentsRise
moments_rise = by_end

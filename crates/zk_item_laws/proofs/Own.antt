-- The items of a connection, over the records of a capture.
use Rattle.std.proofs.Common.{◌≡◌, ℕ, ◌≤◌, ◌≤ℤ◌, Bool, true, false, cond, not, List, [], ◌∷◌, ◌++◌, length, map, Option, None, Some, refl, sym, ap, subst, ◌∙◌, arith, inl, inr, append_assoc}
use Rattle.std.specs.List.{flat_map, list_any}
use Rattle.std.specs.Option.{option_map_or}
use Rattle.std.proofs.lemmas.Bool.{true≢false}
use Rattle.std.proofs.lemmas.List.{append-nil}
use Rattle.std.proofs.lemmas.List.Elements.{filter-append}
use Rattle.zk_base.specs.declared.time.Moment.{Moment}
use Rattle.zk_conn.specs.declared.key.Key.{Key}
use Rattle.zk_conn.specs.Segment.{same_key}
use Rattle.zk_base.specs.Captured.{Captured}
use Rattle.zk_base.specs.NetworkTime.{now}
use Rattle.zk_traffic.specs.declared.item.Item.{Item}
use Rattle.zk_traffic.specs.declared.item.What.TheVariants as what
use Rattle.zk_traffic.specs.declared.options.Options.{Options}
use Rattle.zk_traffic.specs.Conversation.{Conversation}
use Rattle.zk_traffic.specs.Datagram.{time_at}
use Rattle.zk_traffic.specs.Instances.{Instance, in_order, is_over_by, live_at, over_between, removal}
use Rattle.zk_traffic.specs.Items.{facts, item, items_at, items_at_end, items_of, items_so_far, numbered, removed, removed_at, seen, segment_items, when}
use Rattle.zk_traffic.specs.Segments.{Segment, segment_at, segments}
use Rattle.zk_traffic.specs.Steps.{Step, so_far, steps_behind}
use Rattle.zk_traffic.specs.Taking.{list_of}
use Rattle.zk_traffic.proofs.RecordLemmas.{not_before, segments-more}
use Rattle.zk_item_laws.specs.Own.{ItemsAreOwn, conversation_of, end_of, is_about, items_about, items_alone, own_segments, removal_of}
use Rattle.zk_item_laws.proofs.Moments.{segment-moment}
use Rattle.zk_item_laws.proofs.Removals.{ended-about, live, over, removed-about}
use Rattle.zk_item_laws.proofs.Standing.{Stands, brought, conversation-none, gone, instance_of, over-later, stands-later, stands-none, told, unused-instance, used-instance}
use Rattle.zk_item_laws.proofs.Taking.{takes}

-- Removals --------------------------------------------------------------------------------------------------------------

-- what is over by a moment, and what is over between it and a later one, is over by the later one
gone-more : (number : ℕ) (key : Key) (c : Conversation) (from to : Moment) (again : Bool) → from.0 ≤ℤ to.0 → (again ≡ true → is_over_by from c ≡ true)
    → gone number from (Some c) ++ map removed (over to (live from (instance_of again number key c))) ≡ gone number to (Some c)
gone-more number key c from to true after past =
    append-nil (gone number from (Some c))
    ∙ ap (λ b. cond b (item (removal c) (what.Removed (numbered number) (facts c)) ∷ []) []) (past refl)
    ∙ sym (ap (λ b. cond b (item (removal c) (what.Removed (numbered number) (facts c)) ∷ []) []) (over-later (removal c).0 from.0 to.0 (past refl) after))
gone-more number key c from to false after past = by_from (is_over_by from c) refl
  where
    x : Item
    x = item (removal c) (what.Removed (numbered number) (facts c))

    i : Instance
    i = record { number = number; key = key; conversation = c }

    by_to : (b : Bool) → map removed (cond b (i ∷ []) []) ≡ cond b (x ∷ []) []
    by_to true = refl
    by_to false = refl

    by_from : (b : Bool) → is_over_by from c ≡ b
        → cond (is_over_by from c) (x ∷ []) [] ++ map removed (over to (cond (not (is_over_by from c)) (i ∷ []) [])) ≡ cond (is_over_by to c) (x ∷ []) []
    by_from true is =
        ap (λ y. cond y (x ∷ []) [] ++ map removed (over to (cond (not y) (i ∷ []) []))) is
        ∙ sym (ap (λ y. cond y (x ∷ []) []) (over-later (removal c).0 from.0 to.0 is after))
    by_from false is =
        ap (λ y. cond y (x ∷ []) [] ++ map removed (over to (cond (not y) (i ∷ []) []))) is ∙ by_to (is_over_by to c)

one-instance : (again : Bool) (number : ℕ) (key : Key) (c : Conversation) → length (instance_of again number key c) ≤ 1
one-instance true number key c = omega arith
one-instance false number key c = omega arith

removals : (limit : ℕ) (segments : List Segment) (from to : Moment) (number : ℕ) → from.0 ≤ℤ to.0 → Stands limit segments from number
    → gone number from (conversation_of limit (own_segments limit number segments)) ++ items_about number (map removed (in_order (over_between limit segments from to)))
    ≡ gone number to (conversation_of limit (own_segments limit number segments))
removals limit segments from to number after (inl unused) =
    let none = ap (conversation_of limit) unused.own_are ∙ conversation-none limit in
    ap (λ o. gone number from o ++ items_about number (map removed (in_order (over_between limit segments from to)))) none
    ∙ removed-about limit segments from to number [] (unused-instance limit segments number unused) (omega arith)
    ∙ ap (gone number to) (sym none)
removals limit segments from to number after (inr used) =
    let again = list_any (λ k. same_key k used.key) used.rest in
    ap (λ o. gone number from o ++ items_about number (map removed (in_order (over_between limit segments from to)))) used.is
    ∙ ap (λ l. gone number from (Some used.c) ++ l)
    (removed-about limit segments from to number (instance_of again number used.key used.c) (used-instance limit segments from number used) (one-instance again number used.key used.c))
    ∙ gone-more number used.key used.c from to again after used.past
    ∙ ap (gone number to) (sym used.is)

-- what isn't over at the end is removed then
gone-last : (number : ℕ) (key : Key) (c : Conversation) (last : Moment) (again : Bool) → (again ≡ true → is_over_by last c ≡ true)
    → gone number last (Some c) ++ map (removed_at last) (live last (instance_of again number key c)) ≡ removal_of number last (Some c)
gone-last number key c last again past = by_over (is_over_by last c) again refl past
  where
    at : Moment → Item
    at t = item t (what.Removed (numbered number) (facts c))

    i : Instance
    i = record { number = number; key = key; conversation = c }

    by_over : (b again : Bool) → is_over_by last c ≡ b → (again ≡ true → is_over_by last c ≡ true)
        → cond (is_over_by last c) (at (removal c) ∷ []) [] ++ map (removed_at last) (live last (instance_of again number key c)) ≡ at (end_of last c) ∷ []
    by_over true true is past = append-nil (cond (is_over_by last c) (at (removal c) ∷ []) []) ∙ ap (λ y. cond y (at (removal c) ∷ []) []) is ∙ sym (ap (λ y. at (cond y (removal c) last) ∷ []) is)
    by_over false true is past = absurd (true≢false (sym (past refl) ∙ is))
    by_over true false is past =
        ap (λ y. cond y (at (removal c) ∷ []) [] ++ map (removed_at last) (cond (not y) (i ∷ []) [])) is ∙ sym (ap (λ y. at (cond y (removal c) last) ∷ []) is)
    by_over false false is past =
        ap (λ y. cond y (at (removal c) ∷ []) [] ++ map (removed_at last) (cond (not y) (i ∷ []) [])) is ∙ sym (ap (λ y. at (cond y (removal c) last) ∷ []) is)

ending : (limit : ℕ) (segments : List Segment) (last : Moment) (number : ℕ) → Stands limit segments last number
    → gone number last (conversation_of limit (own_segments limit number segments)) ++ items_about number (map (removed_at last) (live_at limit segments last))
    ≡ removal_of number last (conversation_of limit (own_segments limit number segments))
ending limit segments last number (inl unused) =
    let none = ap (conversation_of limit) unused.own_are ∙ conversation-none limit in
    ap (λ o. gone number last o ++ items_about number (map (removed_at last) (live_at limit segments last))) none
    ∙ ended-about limit segments last number [] (unused-instance limit segments number unused)
    ∙ ap (removal_of number last) (sym none)
ending limit segments last number (inr used) =
    let again = list_any (λ k. same_key k used.key) used.rest in
    ap (λ o. gone number last o ++ items_about number (map (removed_at last) (live_at limit segments last))) used.is
    ∙ ap (λ l. gone number last (Some used.c) ++ l)
    (ended-about limit segments last number (instance_of again number used.key used.c) (used-instance limit segments last number used))
    ∙ gone-last number used.key used.c last again used.past
    ∙ ap (removal_of number last) (sym used.is)

-- Records ---------------------------------------------------------------------------------------------------------------

about-both : (number : ℕ) (l m : List Item) → items_about number (l ++ m) ≡ items_about number l ++ items_about number m
about-both number l m = filter-append (λ (i : Item). is_about number i.what) l m

about-seen : (options : Options) (step : Step Captured) (number : ℕ) → items_about number (seen options step) ≡ []
about-seen options step number = by_packets options.packets
  where
    by_packets : (b : Bool) → items_about number (when b (item (time_at step) (what.Seen step.last.moment (length step.last.bytes) step.last.orig_len))) ≡ []
    by_packets true = refl
    by_packets false = refl

-- what stands of a connection behind a record, and what that brings
record Goes (options : Options) (before after : List Captured) (number : ℕ) (more : List Item) : Type 0 where
  stands : Stands options.buffer (segments options after) (now after) number
  brings : brought options.buffer number (own_segments options.buffer number (segments options before)) (now before) ++ items_about number more
      ≡ brought options.buffer number (own_segments options.buffer number (segments options after)) (now after)

record-goes : (options : Options) (step : Step Captured) (number : ℕ) → Stands options.buffer (segments options step.before) (now step.before) number
    → Goes options step.before (so_far step) number (items_at options step)
unfolding items_at
record-goes options step number stands = by_segment (segment_at options step) refl
  where
    limit : ℕ
    limit = options.buffer

    before : List Segment
    before = segments options step.before

    own : List Segment
    own = own_segments options.buffer number (segments options step.before)

    t : Moment
    t = time_at step

    gone_now : List Item
    gone_now = map removed (in_order (over_between options.buffer (segments options step.before) (now step.before) (time_at step)))

    later : Stands options.buffer (segments options step.before) (time_at step) number
    later = stands-later options.buffer (segments options step.before) (now step.before) (time_at step) number (not_before step.before step.last) stands

    -- the removals of the record, and then what else it brings
    first : (l : List Item) → brought limit number own (now step.before) ++ items_about number ((gone_now ++ seen options step) ++ l) ≡ brought limit number own t ++ items_about number l
    first l =
        ap (λ x. brought limit number own (now step.before) ++ x)
        (about-both number (gone_now ++ seen options step) l
        ∙ ap (λ x. x ++ items_about number l) (about-both number gone_now (seen options step) ∙ ap (λ x. items_about number gone_now ++ x) (about-seen options step number) ∙ append-nil (items_about number gone_now)))
        ∙ sym (append_assoc (brought limit number own (now step.before)) (items_about number gone_now) (items_about number l))
        ∙ ap (λ x. x ++ items_about number l)
        (append_assoc (told limit number own) (gone number (now step.before) (conversation_of limit own)) (items_about number gone_now)
        ∙ ap (λ x. told limit number own ++ x) (removals limit before (now step.before) t number (not_before step.before step.last) stands))

    by_segment : (o : Option Segment) → segment_at options step ≡ o → Goes options step.before (so_far step) number ((gone_now ++ seen options step) ++ option_map_or (segment_items limit before) (segment_at options step) [])
    by_segment None is =
        let same : segments options (so_far step) ≡ before = segments-more options step ∙ ap (λ o. before ++ list_of o) is ∙ append-nil before in
        record {
          stands = subst (λ l. Stands limit l t number) (sym same) later;
          brings = first (option_map_or (segment_items limit before) (segment_at options step) [])
              ∙ ap (λ o. brought limit number own t ++ items_about number (option_map_or (segment_items limit before) o [])) is
              ∙ append-nil (brought limit number own t)
              ∙ ap (λ l. brought limit number (own_segments limit number l) t) (sym same);
        }
    by_segment (Some s) is =
        let more : segments options (so_far step) ≡ before ++ s ∷ [] = segments-more options step ∙ ap (λ o. before ++ list_of o) is in
        let moment = segment-moment options step s is in
        let taken = takes limit before s number (subst (λ m. Stands limit before m number) (sym moment) later) in
        record {
          stands = subst (λ l. Stands limit l t number) (sym more) (subst (λ m. Stands limit (before ++ s ∷ []) m number) moment taken.stands);
          brings = first (option_map_or (segment_items limit before) (segment_at options step) [])
              ∙ ap (λ o. brought limit number own t ++ items_about number (option_map_or (segment_items limit before) o [])) is
              ∙ subst (λ m. brought limit number own m ++ items_about number (segment_items limit before s) ≡ brought limit number (own_segments limit number (before ++ s ∷ [])) m) moment taken.brings
              ∙ ap (λ l. brought limit number (own_segments limit number l) t) (sym more);
        }

-- records behind others
records-go : (options : Options) (before rest : List Captured) (number : ℕ) → Stands options.buffer (segments options before) (now before) number
    → Goes options before (before ++ rest) number (flat_map (items_at options) (steps_behind before rest))
records-go options before [] number stands =
    subst (λ l. Goes options before l number []) (sym (append-nil before))
    (record { stands = stands; brings = append-nil (brought options.buffer number (own_segments options.buffer number (segments options before)) (now before)) })
records-go options before (p ∷ rest) number stands =
    let step : Step Captured = record { before = before; last = p } in
    let first = record-goes options step number stands in
    let more = records-go options (before ++ p ∷ []) rest number first.stands in
    let behind = flat_map (items_at options) (steps_behind (before ++ p ∷ []) rest) in
    let so_far_brought = brought options.buffer number (own_segments options.buffer number (segments options before)) (now before) in
    subst (λ l. Goes options before l number (items_at options step ++ behind)) (append_assoc before (p ∷ []) rest)
    (record {
      stands = more.stands;
      brings = ap (λ l. so_far_brought ++ l) (about-both number (items_at options step) behind)
          ∙ sym (append_assoc so_far_brought (items_about number (items_at options step)) (items_about number behind))
          ∙ ap (λ l. l ++ items_about number behind) first.brings
          ∙ more.brings;
    })

no-segments : (options : Options) → segments options [] ≡ []
unfolding segments
no-segments options = refl

none-brought : (options : Options) (number : ℕ) → brought options.buffer number (own_segments options.buffer number (segments options [])) (now []) ≡ []
unfolding segments own_segments conversation_of
none-brought options number = refl

all-go : (options : Options) (records : List Captured) (number : ℕ) → Goes options [] records number (items_so_far options records)
unfolding items_so_far
all-go options records number =
    records-go options [] records number
    (subst (λ l. Stands options.buffer l (now []) number) (sym (no-segments options)) (stands-none options.buffer (now []) number))

-- what stands of a connection behind the records of a capture
pub stands-behind : (options : Options) (records : List Captured) (number : ℕ) → Stands options.buffer (segments options records) (now records) number
stands-behind options records number = (all-go options records number).stands

pub items_are_own : ItemsAreOwn
unfolding items_of items_at_end items_alone
items_are_own options records number =
    let limit = options.buffer in
    let all = segments options records in
    let own = own_segments limit number all in
    let last = now records in
    let goes = all-go options records number in
    let ends = map (removed_at last) (live_at limit all last) in
    about-both number (items_so_far options records) ends
    ∙ ap (λ l. l ++ items_about number ends)
    (ap (λ l. l ++ items_about number (items_so_far options records)) (sym (none-brought options number)) ∙ goes.brings)
    ∙ append_assoc (told limit number own) (gone number last (conversation_of limit own)) (items_about number ends)
    ∙ ap (λ l. told limit number own ++ l) (ending limit all last number goes.stands)

-- One more record of a capture.
use Rattle.std.proofs.Common.{◌≡◌, ◌≤ℤ◌, ℕ, Bool, true, false, cond, not, List, [], ◌∷◌, ◌++◌, map, MatchOption, Option, None, Some, refl, sym, ap, subst, ◌∙◌, arith, append_assoc}
use Rattle.std.specs.List.{filter_map, flat_map}
use Rattle.std.specs.Option.{option_map, option_map_or}
use Rattle.std.specs.Prelude.{int_lt, option_and_then}
use Rattle.std.proofs.lemmas.Int.{ints}
use Rattle.std.proofs.lemmas.Grind.{common_steps, flat_map-append}
use Rattle.std.proofs.lemmas.List.{append-nil, same_from_push}
use Rattle.std.proofs.lemmas.List.Elements.{filter_map-append}
use Rattle.zk_base.specs.declared.time.Moment.{Moment}
use Rattle.zk_frag.specs.Ip4Fragments as frags
use Rattle.zk_frag.specs.declared.joined.Joined.{Joined}
use Rattle.zk_frag.specs.Ip4Fragments.{Ip4Fragment, datagram_of, fragment_of, joined_of}
use Rattle.zk_base.specs.Captured.{Captured}
use Rattle.zk_base.specs.NetworkTime.{later, now, now-append}
use Rattle.zk_traffic.specs.declared.connections.Connections.{Connections}
use Rattle.zk_traffic.specs.declared.item.Item.{Item}
use Rattle.zk_traffic.specs.declared.segment.Segment.{Segment as Code}
use Rattle.zk_traffic.specs.declared.options.Options.{Options}
use Rattle.zk_traffic.specs.declared.traffic.Traffic.{Traffic}
use Rattle.zk_traffic.specs.Datagram.{datagram_at, datagram_with, fragment_at, fragment_in, fragments, is_fragment, is_whole, packet_at, put_together, time_at, unfragmented}
use Rattle.zk_traffic.specs.History.{History}
use Rattle.zk_traffic.specs.Instances.{in_order, over_between}
use Rattle.zk_traffic.specs.Items.{fresh_at, items_at, items_at_end, items_of, items_so_far, removed, seen, segment_fresh, segment_items}
use Rattle.zk_traffic.specs.News.{runs_of}
use Rattle.zk_traffic.specs.Segments.{Segment, segment_at, segment_in, segments}
use Rattle.zk_traffic.specs.Standing.{IsTable, StandsFor}
use Rattle.zk_traffic.specs.Steps.{Step, so_far, steps, steps_behind}
use Rattle.zk_traffic.specs.Table.{IsCurrent}
use Rattle.zk_traffic.specs.Taken.{segment_of}
use Rattle.zk_traffic.specs.Taking.{HasTaken, IsReady, TakesSome, list_of}
use Rattle.zk_traffic.specs.Waiting.{items_in}

steps_behind-append : {A : Type 0} (before a b : List A) → steps_behind before (a ++ b) ≡ steps_behind before a ++ steps_behind (before ++ a) b
steps_behind-append before [] b = ap (λ l. steps_behind l b) (sym (append-nil before))
steps_behind-append before (x ∷ rest) b =
    ap (λ l. record { before = before; last = x } ∷ l)
    (steps_behind-append (before ++ x ∷ []) rest b ∙ ap (λ l. steps_behind (before ++ x ∷ []) rest ++ steps_behind l b) (append_assoc before (x ∷ []) rest))

one_filtered : {X A : Type 0} (h : X → Option A) (x : X) (o : Option A) → h x ≡ o → filter_map h (x ∷ []) ≡ list_of o
one_filtered {X} {A} h x None is = ap (λ (o : Option A). filter_map (λ (z : X). o) (x ∷ [])) is
one_filtered {X} {A} h x (Some a) is = ap (λ (o : Option A). filter_map (λ (z : X). o) (x ∷ [])) is

filtered : {X A : Type 0} (h : Step X → Option A) (step : Step X) → filter_map h (steps (so_far step)) ≡ filter_map h (steps step.before) ++ list_of (h step)
filtered h step =
    ap (filter_map h) (steps_behind-append [] step.before (step.last ∷ []))
    ∙ filter_map-append h (steps step.before) (step ∷ [])
    ∙ ap (λ l. filter_map h (steps step.before) ++ l) (one_filtered h step (h step) refl)

pub segments-more : (options : Options) (step : Step Captured) → segments options (so_far step) ≡ segments options step.before ++ list_of (segment_at options step)
unfolding segments
segments-more options step = filtered (segment_at options) step

pub fragments-more : (options : Options) (step : Step Captured) → fragments options (so_far step) ≡ fragments options step.before ++ list_of (fragment_at options step)
unfolding fragments
fragments-more options step = filtered (fragment_at options) step

items-more : (options : Options) (step : Step Captured) → items_so_far options (so_far step) ≡ items_so_far options step.before ++ items_at options step
unfolding items_so_far
items-more options step =
    ap (flat_map (items_at options)) (steps_behind-append [] step.before (step.last ∷ []))
    ∙ flat_map-append (items_at options) (steps step.before) (step ∷ [])
    ∙ ap (λ l. flat_map (items_at options) (steps step.before) ++ l) (append-nil (items_at options step))

pub items_open : (options : Options) (records : List Captured) → items_of options records false ≡ items_so_far options records
unfolding items_of
items_open options records = append-nil (items_so_far options records)

pub items_ended : (options : Options) (records : List Captured) → items_of options records true ≡ items_of options records false ++ items_at_end options records
unfolding items_of
items_ended options records = ap (λ l. l ++ items_at_end options records) (sym (append-nil (items_so_far options records)))

pub items_longer : (options : Options) (records more : List Captured) (ended : Bool)
    → (rest : List Item) × (items_of options (records ++ more) ended ≡ items_of options records false ++ rest)
unfolding items_of items_so_far
items_longer options records more ended = (
  flat_map (items_at options) (steps_behind records more) ++ cond ended (items_at_end options (records ++ more)) [],
  ap (λ l. flat_map (items_at options) l ++ cond ended (items_at_end options (records ++ more)) []) (steps_behind-append [] records more)
      ∙ ap (λ l. l ++ cond ended (items_at_end options (records ++ more)) []) (flat_map-append (items_at options) (steps records) (steps_behind records more))
      ∙ append_assoc (flat_map (items_at options) (steps records)) (flat_map (items_at options) (steps_behind records more)) (cond ended (items_at_end options (records ++ more)) [])
      ∙ ap (λ l. l ++ (flat_map (items_at options) (steps_behind records more) ++ cond ended (items_at_end options (records ++ more)) [])) (sym (append-nil (flat_map (items_at options) (steps records)))),
)

-- a frame without an IPv4 packet
pub at_none : (options : Options) (step : Step Captured) → packet_at options step ≡ None → (segment_at options step ≡ None) × (fragment_at options step ≡ None)
unfolding segment_at datagram_at
at_none options step none = (
  ap (λ o. option_and_then (segment_in (time_at step)) (option_and_then (datagram_with options (fragments options step.before) (time_at step)) o)) none,
  ap (option_and_then (fragment_in (time_at step))) none,
)

-- a packet that is no fragment
pub at_packet : (options : Options) (step : Step Captured) (packet : List ℕ) → packet_at options step ≡ Some packet → is_fragment packet ≡ false
    → (segment_at options step ≡ segment_in (time_at step) (unfragmented options packet)) × (fragment_at options step ≡ None)
unfolding segment_at datagram_at
at_packet options step packet is whole =
    let t = time_at step in
    let frs = fragments options step.before in (
      ap (λ o. option_and_then (segment_in t) (option_and_then (datagram_with options frs t) o)) is
          ∙ ap (λ b. option_and_then (segment_in t) (cond (not b) (Some (unfragmented options packet))
          (cond (is_whole (joined_of frs (fragment_of t packet))) (Some (put_together options packet (datagram_of frs (fragment_of t packet)))) None))) whole,
      ap (option_and_then (fragment_in t)) is ∙ ap (λ b. cond b (Some (fragment_of t packet)) None) whole,
    )

-- a fragment
pub at_fragment : (options : Options) (step : Step Captured) (packet : List ℕ) (joined : Joined) → packet_at options step ≡ Some packet → is_fragment packet ≡ true
    → joined ≡ joined_of (fragments options step.before) (fragment_of (time_at step) packet)
    → (segment_at options step ≡ cond (is_whole joined) (segment_in (time_at step) (put_together options packet (datagram_of (fragments options step.before) (fragment_of (time_at step) packet)))) None)
    × (fragment_at options step ≡ Some (fragment_of (time_at step) packet))
unfolding segment_at datagram_at
at_fragment options step packet joined is part joined_is =
    let t = time_at step in
    let frs = fragments options step.before in (
      ap (λ o. option_and_then (segment_in t) (option_and_then (datagram_with options frs t) o)) is
          ∙ ap (λ b. option_and_then (segment_in t) (cond (not b) (Some (unfragmented options packet))
          (cond (is_whole (joined_of frs (fragment_of t packet))) (Some (put_together options packet (datagram_of frs (fragment_of t packet)))) None))) part
          ∙ ap (λ j. option_and_then (segment_in t) (cond (is_whole j) (Some (put_together options packet (datagram_of frs (fragment_of t packet)))) None)) (sym joined_is)
          ∙ by_whole (is_whole joined),
      ap (option_and_then (fragment_in t)) is ∙ ap (λ b. cond b (Some (fragment_of t packet)) None) part,
    )
  where
    by_whole : (b : Bool) → option_and_then (segment_in (time_at step)) (cond b (Some (put_together options packet (datagram_of (fragments options step.before) (fragment_of (time_at step) packet)))) None)
        ≡ cond b (segment_in (time_at step) (put_together options packet (datagram_of (fragments options step.before) (fragment_of (time_at step) packet)))) None
    by_whole true = refl
    by_whole false = refl

-- an answer, by its cases
pub answered : {A B : Type 0} (f : A → B) (r : Option A) (o : Option B) → MatchOption r (o ≡ None) (λ a. o ≡ Some (f a)) → o ≡ option_map f r
answered f None o is = is
answered f (Some a) o is = is

pub takes_none : (limit : ℕ) (segments : List Segment) (t : Moment) (c : Connections) → IsCurrent c.table limit segments t → runs_of c.news ≡ [] → TakesSome limit segments None t c c
takes_none limit segments t c current no_runs = record {
  current = subst (λ l. IsCurrent c.table limit l t) (sym (append-nil segments)) current;
  items_are = sym (append-nil (items_in c.items));
  runs_are = no_runs;
}

pub has_taken : (old new : Traffic) (options : Options) (step : Step Captured) (o : Option Segment) → IsReady old options step → segment_at options step ≡ o
    → new.options ≡ old.options → new.link ≡ old.link → new.time ≡ old.time → frags.StandsFor new.frags (fragments options step.before ++ list_of (fragment_at options step))
    → TakesSome options.buffer (segments options step.before) o (time_at step) old.connections new.connections → HasTaken old new options step
unfolding fresh_at
has_taken old new options step o ready is options_are link_is time_is frags_are takes =
    let buffer = options.buffer in
    let before = segments options step.before in
    record {
      options_are = options_are ∙ ready.options_are;
      link_is = link_is ∙ ready.link_is;
      time_is = time_is ∙ ready.time_is;
      frags_are = subst (frags.StandsFor new.frags) (sym (fragments-more options step)) frags_are;
      current = subst (λ l. IsCurrent new.connections.table buffer l (time_at step)) (ap (λ x. before ++ list_of x) (sym is) ∙ sym (segments-more options step)) takes.current;
      items_are = takes.items_are ∙ ap (λ x. items_in old.connections.items ++ option_map_or (segment_items buffer before) x []) (sym is);
      runs_are = takes.runs_are ∙ ap (λ x. option_map_or (segment_fresh buffer before) x []) (sym is);
    }

-- the connections took what is a segment at the network time
pub took_some : (old : Traffic) (new : Connections) (options : Options) (step : Step Captured) (code : Option Code) → IsReady old options step
    → ((limit : ℕ) (before : List Segment) → IsCurrent old.connections.table limit before old.time → runs_of old.connections.news ≡ [] → old.connections.news.gaps.items ≡ [] → old.connections.news.«units».items ≡ []
    → TakesSome limit before (option_map (segment_of old.time) code) old.time old.connections new)
    → TakesSome options.buffer (segments options step.before) (option_map (segment_of (time_at step)) code) (time_at step) old.connections new
took_some old new options step code ready takes =
    let before = segments options step.before in
    subst (λ m. TakesSome options.buffer before (option_map (segment_of m) code) m old.connections new) ready.time_is
    (takes options.buffer before (subst (IsCurrent old.connections.table options.buffer before) (sym ready.time_is) ready.current) ready.no_runs ready.no_gaps ready.no_units)

-- a fragment was taken, and the segment in what it made whole
pub took_fragment : (old new : Traffic) (options : Options) (step : Step Captured) (packet : List ℕ) (joined : Joined) (o : Option Segment) → IsReady old options step
    → packet_at options step ≡ Some packet → is_fragment packet ≡ true → new.options ≡ old.options → new.link ≡ old.link → new.time ≡ old.time
    → ((given : List Ip4Fragment) → frags.StandsFor old.frags given → joined ≡ joined_of given (fragment_of old.time packet))
    → ((given : List Ip4Fragment) → frags.StandsFor old.frags given → frags.StandsFor new.frags (given ++ fragment_of old.time packet ∷ []))
    → cond (is_whole joined) (segment_in (time_at step) (put_together options packet (datagram_of (fragments options step.before) (fragment_of (time_at step) packet)))) None ≡ o
    → TakesSome options.buffer (segments options step.before) o (time_at step) old.connections new.connections → HasTaken old new options step
took_fragment old new options step packet joined o ready is part options_are link_is time_is answer taken o_is takes =
    let frs = fragments options step.before in
    let joined_is = answer frs ready.frags_are ∙ ap (λ m. joined_of frs (fragment_of m packet)) ready.time_is in
    let at = at_fragment options step packet joined is part joined_is in
    has_taken old new options step o ready (at.0 ∙ o_is) options_are link_is time_is
    (subst (λ f. frags.StandsFor new.frags (frs ++ list_of f)) (sym at.1)
    (subst (λ m. frags.StandsFor new.frags (frs ++ fragment_of m packet ∷ [])) ready.time_is (taken frs ready.frags_are)))
    takes

pub not_nil : (l : List Captured) (p : Captured) → l ++ p ∷ [] ≡ [] → ⊥
not_nil [] p e = cc
not_nil (x ∷ l) p e = cc

-- behind one more packet
pub stands_with : (old ready new : Traffic) (h : History) (last : Captured) → StandsFor old h → h.ended ≡ false → last.link ≡ h.link
    → HasTaken ready new h.options (record { before = h.records; last = last }) → new.has_failed ≡ false
    → items_in ready.connections.items ≡ (items_in old.connections.items)
    ++ map removed (in_order (over_between h.options.buffer (segments h.options h.records) (now h.records) (now (h.records ++ last ∷ []))))
    ++ seen h.options (record { before = h.records; last = last })
    → StandsFor new (record h { records = h.records ++ last ∷ [] })
unfolding items_at
stands_with old ready new h last stands goes_on link_is taken works ready_items = record {
  works = works;
  options_are = taken.options_are;
  link_is = taken.link_is ∙ link_is;
  time_is = taken.time_is;
  frags_are = taken.frags_are;
  table_is = subst (IsTable new.connections.table options.buffer (segments options (so_far step)) (time_at step)) (sym goes_on) taken.current;
  items_are = let a = map removed (in_order (over_between options.buffer (segments options h.records) (now h.records) (time_at step))) in
      let b = seen options step in
      let c = option_map_or (segment_items options.buffer (segments options h.records)) (segment_at options step) [] in
      let l = items_in old.connections.items in
      ap (λ x. h.given ++ x) (taken.items_are ∙ ap (λ x. x ++ c) ready_items) ∙ same h.given l a b c
      ∙ ap (λ x. x ++ ((a ++ b) ++ c)) (stands.items_are ∙ ap (items_of options h.records) goes_on ∙ items_open options h.records)
      ∙ sym (items-more options step) ∙ sym (items_open options (so_far step)) ∙ ap (items_of options (so_far step)) (sym goes_on);
  none_fresh = λ none. absurd (not_nil h.records last none);
  fresh_is = λ other is. taken.runs_are
      ∙ (let parts = same_from_push h.records other.before last other.last is in
      ap (λ l. fresh_at options (record { before = l; last = last })) parts.0 ∙ ap (λ p. fresh_at options (record { before = other.before; last = p })) parts.1);
}
  where
    options : Options
    options = h.options

    step : Step Captured
    step = record { before = h.records; last = last }

    same : (given l a b c : List Item) → given ++ (((l ++ a) ++ b) ++ c) ≡ (given ++ l) ++ ((a ++ b) ++ c)
    same given l a b c = grind (arith, common_steps)

-- network time is not before what it was
pub not_before : (records : List Captured) (packet : Captured) → (now records).0 ≤ℤ (now (records ++ packet ∷ [])).0
not_before records packet = subst (λ (m : Moment). (now records).0 ≤ℤ m.0) (sym (now-append records packet)) (by_later (now records) packet.moment)
  where
    by_later : (a b : Moment) → a.0 ≤ℤ (later a b).0
    by_later a b = by_cases (int_lt a.0 b.0) refl
      where
        by_cases : (x : Bool) → int_lt a.0 b.0 ≡ x → a.0 ≤ℤ (let m : Moment = cond x b a in m).0
        by_cases true is = grind (arith, ints, is)
        by_cases false is = grind (arith, ints)

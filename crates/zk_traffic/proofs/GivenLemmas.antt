-- The items of a segment, as they are added.
use Rattle.std.proofs.Common.{◌≡◌, ℕ, List, [], ◌∷◌, ◌++◌, map, OnOk, Result, Ok, Err, refl, ap, ◌∙◌, arith}
use Rattle.std.proofs.lemmas.Grind.{common_steps}
use Rattle.std.proofs.lemmas.List.{map-append}
use Rattle.zk_base.specs.declared.network.Side.{Side}
use Rattle.zk_base.specs.declared.numbers.ConnNo.{ConnNo}
use Rattle.zk_base.specs.declared.time.Moment.{Moment}
use Rattle.zk_base.specs.Sides.{other}
use Rattle.zk_conn.specs.declared.facts.Facts.{Facts}
use Rattle.zk_conn.specs.Segment.{key_of}
use Rattle.zk_traffic.specs.declared.item.Item.{Item}
use Rattle.zk_traffic.specs.declared.item.What.TheVariants as what
use Rattle.zk_traffic.specs.declared.table.Done.{Done}
use Rattle.zk_traffic.specs.declared.table.Table.{Table}
use Rattle.zk_traffic.specs.declared.news.News.{News}
use Rattle.zk_traffic.specs.declared.news.Gap.{Gap as Code}
use Rattle.zk_traffic.specs.Conversation.{gives_up, resets, sender_in, with_segment}
use Rattle.zk_traffic.specs.Instances.{begins, joined_by, latest, number_of}
use Rattle.zk_traffic.specs.Items.{ends, establishes, facts, gaps, item, own_items, segment_items, unit_item, units_with, when}
use Rattle.zk_traffic.specs.Moves.{gap_in, segment_gaps}
use Rattle.zk_traffic.specs.Places.{Gap}
use Rattle.zk_traffic.specs.Queue.{Knows, ending_items, gap_item, opening_items}
use Rattle.zk_traffic.specs.Segments.{Segment}
use Rattle.zk_traffic.specs.Table.{TakesSegment}
use Rattle.zk_units.specs.declared.stream_unit.Freed.{Freed}

gaps_in : (t : Moment) (conn : ConnNo) (known : Facts) (side : Side) (l : List Gap)
    → map (gap_item t conn known) (map (gap_in side) l) ≡ map (λ (g : Gap). item t (what.Gap conn known side g.from g.length)) l
gaps_in t conn known side [] = refl
gaps_in t conn known side (g ∷ rest) = ap (λ l. item t (what.Gap conn known side g.from g.length) ∷ l) (gaps_in t conn known side rest)

-- what is known of the segment's connection
pub knows : (table : Table) (limit : ℕ) (before : List Segment) (s : Segment) (done : Done) (old new : News) → (taken : TakesSegment limit before s done table old new)
    → Knows table done.conn (facts (with_segment limit (joined_by (latest limit (key_of s.view) before) s) s))
knows table limit before s done old new taken = record {
  limit = limit;
  segments = before ++ s ∷ [];
  gone = _;
  told = taken.current.told;
  key = key_of s.view;
  c = with_segment limit (joined_by (latest limit (key_of s.view) before) s) s;
  holds = taken.current.holds;
  live = taken.live;
  facts_are = refl;
}

done_same : (done new : Done) → done.conn ≡ new.conn → done.side ≡ new.side → done.opened ≡ new.opened → done.established ≡ new.established → done.sender_ended ≡ new.sender_ended → done.receiver_ended ≡ new.receiver_ended → done.gave_up ≡ new.gave_up → done.reset ≡ new.reset → done ≡ new
done_same done new conn_is side_is opened_is established_is sender_ended_is receiver_ended_is gave_up_is reset_is = ap (λ x. let r : Done = record { conn = x; side = done.side; opened = done.opened; established = done.established; sender_ended = done.sender_ended; receiver_ended = done.receiver_ended; gave_up = done.gave_up; reset = done.reset } in r) conn_is
    ∙ ap (λ x. let r : Done = record { conn = new.conn; side = x; opened = done.opened; established = done.established; sender_ended = done.sender_ended; receiver_ended = done.receiver_ended; gave_up = done.gave_up; reset = done.reset } in r) side_is
    ∙ ap (λ x. let r : Done = record { conn = new.conn; side = new.side; opened = x; established = done.established; sender_ended = done.sender_ended; receiver_ended = done.receiver_ended; gave_up = done.gave_up; reset = done.reset } in r) opened_is
    ∙ ap (λ x. let r : Done = record { conn = new.conn; side = new.side; opened = new.opened; established = x; sender_ended = done.sender_ended; receiver_ended = done.receiver_ended; gave_up = done.gave_up; reset = done.reset } in r) established_is
    ∙ ap (λ x. let r : Done = record { conn = new.conn; side = new.side; opened = new.opened; established = new.established; sender_ended = x; receiver_ended = done.receiver_ended; gave_up = done.gave_up; reset = done.reset } in r) sender_ended_is
    ∙ ap (λ x. let r : Done = record { conn = new.conn; side = new.side; opened = new.opened; established = new.established; sender_ended = new.sender_ended; receiver_ended = x; gave_up = done.gave_up; reset = done.reset } in r) receiver_ended_is
    ∙ ap (λ x. let r : Done = record { conn = new.conn; side = new.side; opened = new.opened; established = new.established; sender_ended = new.sender_ended; receiver_ended = new.receiver_ended; gave_up = x; reset = done.reset } in r) gave_up_is
    ∙ ap (λ x. let r : Done = record { conn = new.conn; side = new.side; opened = new.opened; established = new.established; sender_ended = new.sender_ended; receiver_ended = new.receiver_ended; gave_up = new.gave_up; reset = x } in r) reset_is

all_items : Moment → Done → Facts → List Code → List Freed → List Item
all_items t done known gaps units = opening_items t done known ++ map (gap_item t done.conn known) gaps ++ map (unit_item t done.conn known) units ++ ending_items t done known

all_same : (t : Moment) (done done' : Done) (known known' : Facts) (gaps gaps' : List Code) (units units' : List Freed) → done ≡ done' → known ≡ known' → gaps ≡ gaps' → units ≡ units'
    → all_items t done known gaps units ≡ all_items t done' known' gaps' units'
all_same t done done' known known' gaps gaps' units units' done_is known_is gaps_are units_are = cc

-- a segment's items are those ahead of its gaps, the gaps, and those behind them
pub items_given : (table : Table) (limit : ℕ) (before : List Segment) (s : Segment) (done : Done) (old new : News) → (taken : TakesSegment limit before s done table old new) → old.gaps.items ≡ [] → old.«units».items ≡ []
    → (known : Facts) → known ≡ facts (with_segment limit (joined_by (latest limit (key_of s.view) before) s) s)
    → opening_items s.moment done known ++ map (gap_item s.moment done.conn known) new.gaps.items ++ map (unit_item s.moment done.conn known) new.«units».items ++ ending_items s.moment done known ≡ segment_items limit before s
unfolding segment_items own_items all_items
items_given table limit before s done old new taken none none_said known known_is =
    let o = latest limit (key_of s.view) before in
    let c = joined_by o s in
    let is = taken.done_is in
    let done' : Done = record {
      conn = record { 0 = number_of limit (key_of s.view) (before ++ s ∷ []) };
      side = sender_in c s;
      opened = begins o s;
      established = establishes c s;
      sender_ended = ends limit c s (sender_in c s);
      receiver_ended = ends limit c s (other (sender_in c s));
      gave_up = gives_up limit c s;
      reset = resets c s;
    } in
    let known' : Facts = facts (with_segment limit c s) in
    let done_is : done ≡ done' = done_same done done' (ap (λ n. record { 0 = n }) is.conn_is) is.side_is is.opened is.established is.sender_ended is.receiver_ended is.gave_up is.reset in
    let gaps_are : new.gaps.items ≡ segment_gaps limit c s = taken.gaps_are ∙ ap (λ l. l ++ segment_gaps limit c s) none in
    let units_are : new.«units».items ≡ units_with limit c s = taken.units_are ∙ ap (λ l. l ++ units_with limit c s) none_said in
    all_same s.moment done done' known known' new.gaps.items (segment_gaps limit c s) new.«units».items (units_with limit c s) done_is known_is gaps_are units_are
    ∙ in_line s.moment done' known' (gaps limit c s (sender_in c s)) (gaps limit c s (other (sender_in c s))) (units_with limit c s)
  where
    all_assoc : (a b m n u e r g z : List Item) → (((a ++ b) ++ (m ++ n)) ++ u) ++ (((e ++ r) ++ g) ++ z) ≡ a ++ b ++ m ++ n ++ u ++ e ++ r ++ g ++ z
    all_assoc a b m n u e r g z = grind (arith, common_steps)

    in_line : (t : Moment) (d : Done) (k : Facts) (first second : List Gap) (units : List Freed)
        → all_items t d k (map (gap_in d.side) first ++ map (gap_in (other d.side)) second) units
        ≡ when d.opened (item t (what.Opened d.conn k)) ++ when d.established (item t (what.Established d.conn k))
        ++ map (λ (g : Gap). item t (what.Gap d.conn k d.side g.from g.length)) first
        ++ map (λ (g : Gap). item t (what.Gap d.conn k (other d.side) g.from g.length)) second
        ++ map (unit_item t d.conn k) units
        ++ when d.sender_ended (item t (what.Ended d.conn k d.side))
        ++ when d.receiver_ended (item t (what.Ended d.conn k (other d.side)))
        ++ when d.gave_up (item t (what.GaveUp d.conn k d.side))
        ++ when d.reset (item t (what.Reset d.conn k))
    in_line t d k first second units =
        let a = when d.opened (item t (what.Opened d.conn k)) in
        let b = when d.established (item t (what.Established d.conn k)) in
        let f = gap_item t d.conn k in
        let m = map (λ (g : Gap). item t (what.Gap d.conn k d.side g.from g.length)) first in
        let n = map (λ (g : Gap). item t (what.Gap d.conn k (other d.side) g.from g.length)) second in
        let u = map (unit_item t d.conn k) units in
        let e = when d.sender_ended (item t (what.Ended d.conn k d.side)) in
        let r = when d.receiver_ended (item t (what.Ended d.conn k (other d.side))) in
        let g = when d.gave_up (item t (what.GaveUp d.conn k d.side)) in
        let z = when d.reset (item t (what.Reset d.conn k)) in
        ap (λ l. (((a ++ b) ++ l) ++ u) ++ (((e ++ r) ++ g) ++ z))
        (map-append f (map (gap_in d.side) first) (map (gap_in (other d.side)) second)
        ∙ ap (λ l. l ++ map f (map (gap_in (other d.side)) second)) (gaps_in t d.conn k d.side first)
        ∙ ap (λ l. m ++ l) (gaps_in t d.conn k (other d.side) second))
        ∙ all_assoc a b m n u e r g z

-- one list after another is added
pub together : (old one two three four a b c d : List Item) → one ≡ old ++ a → two ≡ one ++ b → three ≡ two ++ c → four ≡ three ++ d → four ≡ old ++ (a ++ b ++ c ++ d)
together old one two three four a b c d first second third fourth =
    fourth ∙ ap (λ l. l ++ d) (third ∙ ap (λ l. l ++ c) (second ∙ ap (λ l. l ++ b) first)) ∙ same old a b c d
  where
    same : (old a b c d : List Item) → (((old ++ a) ++ b) ++ c) ++ d ≡ old ++ (a ++ b ++ c ++ d)
    same old a b c d = grind (arith, common_steps)

pub on_ok : {A E : Type 0} {P Q : Type 0} (r : Result A E) → OnOk r P → (P → Q) → OnOk r Q
on_ok (Ok a) p then = then p
on_ok (Err e) p then = tt

-- A connection's items, by its own segments alone.
use Rattle.std.proofs.Common.{◌≡◌, ℕ, Bool, true, false, cond, List, [], ◌∷◌, ◌++◌, map, fold, Option, Some, None, refl, sym, ap, ◌∙◌}
use Rattle.std.proofs.lemmas.List.{map-append}
use Rattle.zk_base.specs.declared.network.Side.{Side}
use Rattle.zk_base.specs.declared.time.Moment.{Moment}
use Rattle.zk_base.specs.Sides.{other}
use Rattle.zk_conn.specs.declared.facts.Facts.{Facts}
use Rattle.zk_conn.specs.declared.key.Key.{Key}
use Rattle.zk_conn.specs.Segment.{key_of}
use Rattle.zk_traffic.specs.declared.item.Item.{Item}
use Rattle.zk_traffic.specs.declared.item.What.{What}
use Rattle.zk_traffic.specs.declared.item.What.TheVariants as what
use Rattle.zk_traffic.specs.Conversation.{Conversation, gives_up, resets, sender_in, unbegun, with_segment}
use Rattle.zk_traffic.specs.Instances.{begins, goes_on, is_over_by, joined_by, latest, number_of, segments_of}
use Rattle.zk_traffic.specs.Items.{ends, establishes, facts, gaps, item, items_with, numbered, own_items, segment_items, unit_item, units_with, when}
use Rattle.zk_traffic.specs.Own.{item_of, told_of, with_number}
use Rattle.zk_traffic.specs.Places.{Gap}
use Rattle.zk_traffic.specs.Segments.{Segment}
use Rattle.zk_units.specs.declared.stream_unit.Freed.{Freed}
use Rattle.zk_units.specs.declared.stream_unit.StreamUnit.{StreamUnit}
use Rattle.zk_units.specs.declared.stream_unit.StreamUnit.TheVariants as says

same_when : (number : ℕ) (b : Bool) (t : Moment) (x y : What) → told_of (numbered number) x ≡ y → with_number number (when b (item t x)) ≡ when b (item t y)
same_when number true t x y same = ap (λ w. item t w ∷ []) same
same_when number false t x y same = refl

same_gaps : (number old : ℕ) (t : Moment) (known : Facts) (side : Side) (l : List Gap)
    → with_number number (map (λ (g : Gap). item t (what.Gap (numbered old) known side g.from g.length)) l) ≡ map (λ (g : Gap). item t (what.Gap (numbered number) known side g.from g.length)) l
same_gaps number old t known side [] = refl
same_gaps number old t known side (g ∷ l) = ap (λ rest. item t (what.Gap (numbered number) known side g.from g.length) ∷ rest) (same_gaps number old t known side l)

same_unit : (number old : ℕ) (t : Moment) (known : Facts) (side : Side) (found : StreamUnit)
    → item_of number (unit_item t (numbered old) known (record { side = side; «unit» = found })) ≡ unit_item t (numbered number) known (record { side = side; «unit» = found })
same_unit number old t known side (says.Http one) = refl
same_unit number old t known side (says.Dns len message) = refl
same_unit number old t known side (says.DnsBad fault len) = refl

same_units : (number old : ℕ) (t : Moment) (known : Facts) (l : List Freed) → with_number number (map (unit_item t (numbered old) known) l) ≡ map (unit_item t (numbered number) known) l
same_units number old t known [] = refl
same_units number old t known (f ∷ l) =
    ap (λ first. first ∷ with_number number (map (unit_item t (numbered old) known) l)) (same_unit number old t known f.side f.«unit»)
    ∙ ap (λ rest. unit_item t (numbered number) known f ∷ rest) (same_units number old t known l)

both : (number : ℕ) (a b a' b' : List Item) → with_number number a ≡ a' → with_number number b ≡ b' → with_number number (a ++ b) ≡ a' ++ b'
both number a b a' b' first second = map-append (item_of number) a b ∙ ap (λ l. l ++ with_number number b) first ∙ ap (λ l. a' ++ l) second

items_renumbered : (limit number old : ℕ) (opens : Bool) (c : Conversation) (s : Segment) (known : Facts)
    → with_number number (items_with limit old opens c s known) ≡ items_with limit number opens c s known
items_renumbered limit number old opens c s known =
    let t = s.moment in
    both number _ _ _ _
    (both number _ _ _ _
    (both number _ _ _ _
    (both number _ _ _ _
    (both number _ _ _ _
    (both number _ _ _ _
    (both number _ _ _ _
    (both number _ _ _ _
    (same_when number opens t (what.Opened (numbered old) known) (what.Opened (numbered number) known) refl)
    (same_when number (establishes c s) t (what.Established (numbered old) known) (what.Established (numbered number) known) refl))
    (same_gaps number old t known (sender_in c s) (gaps limit c s (sender_in c s))))
    (same_gaps number old t known (other (sender_in c s)) (gaps limit c s (other (sender_in c s)))))
    (same_units number old t known (units_with limit c s)))
    (same_when number (ends limit c s (sender_in c s)) t (what.Ended (numbered old) known (sender_in c s)) (what.Ended (numbered number) known (sender_in c s)) refl))
    (same_when number (ends limit c s (other (sender_in c s))) t (what.Ended (numbered old) known (other (sender_in c s))) (what.Ended (numbered number) known (other (sender_in c s))) refl))
    (same_when number (gives_up limit c s) t (what.GaveUp (numbered old) known (sender_in c s)) (what.GaveUp (numbered number) known (sender_in c s)) refl))
    (same_when number (resets c s) t (what.Reset (numbered old) known) (what.Reset (numbered number) known) refl)

pub own_renumbered : (limit number old : ℕ) (before : Option Conversation) (s : Segment) → with_number number (own_items limit old before s) ≡ own_items limit number before s
unfolding own_items
own_renumbered limit number old before s = items_renumbered limit number old (begins before s) (joined_by before s) s (facts (with_segment limit (joined_by before s) s))

pub latest_alone : (limit : ℕ) (key : Key) (before alone : List Segment) → segments_of key before ≡ segments_of key alone → latest limit key before ≡ latest limit key alone
unfolding latest
latest_alone limit key before alone same = ap (fold (goes_on limit) None) same

pub items_alone : (limit number : ℕ) (before alone : List Segment) (s : Segment) → segments_of (key_of s.view) before ≡ segments_of (key_of s.view) alone
    → with_number number (segment_items limit before s) ≡ with_number number (segment_items limit alone s)
unfolding segment_items
items_alone limit number before alone s same =
    own_renumbered limit number (number_of limit (key_of s.view) (before ++ s ∷ [])) (latest limit (key_of s.view) before) s
    ∙ ap (λ o. own_items limit number o s) (latest_alone limit (key_of s.view) before alone same)
    ∙ sym (own_renumbered limit number (number_of limit (key_of s.view) (alone ++ s ∷ [])) (latest limit (key_of s.view) alone) s)

pub begins_anew : (limit number : ℕ) (c : Conversation) (s : Segment) → is_over_by s.moment c ≡ true → own_items limit number (Some c) s ≡ own_items limit number None s
unfolding own_items
begins_anew limit number c s over =
    ap (λ b. items_with limit number b (cond b (unbegun s) c) s (facts (with_segment limit (cond b (unbegun s) c) s))) over

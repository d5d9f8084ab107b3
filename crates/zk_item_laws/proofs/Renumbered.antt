-- The items of a connection, but for its number.
use Rattle.std.proofs.Common.{◌≡◌, ℕ, Bool, true, false, List, [], ◌∷◌, ◌++◌, map, Option, None, Some, refl, sym, ap, ◌∙◌}
use Rattle.std.specs.List.{flat_map}
use Rattle.std.specs.Prelude.{is_none}
use Rattle.std.proofs.lemmas.List.{map-append}
use Rattle.zk_base.specs.declared.network.Side.{Side}
use Rattle.zk_base.specs.declared.numbers.ConnNo.{ConnNo}
use Rattle.zk_base.specs.declared.time.Moment.{Moment}
use Rattle.zk_base.specs.Sides.{other}
use Rattle.zk_conn.specs.declared.facts.Facts.{Facts}
use Rattle.zk_base.specs.NetworkTime.{now}
use Rattle.zk_traffic.specs.declared.item.Item.{Item}
use Rattle.zk_traffic.specs.declared.item.What.{What}
use Rattle.zk_traffic.specs.declared.item.What.TheVariants as what
use Rattle.zk_traffic.specs.Conversation.{Conversation, gives_up, resets, sender_in, with_segment}
use Rattle.zk_traffic.specs.Items.{ends, establishes, facts, gaps, item, items_with, numbered, unit_item, units_with, when}
use Rattle.zk_traffic.specs.Own.{item_of, with_number}
use Rattle.zk_traffic.specs.Places.{Gap}
use Rattle.zk_traffic.specs.Segments.{Segment, segments}
use Rattle.zk_traffic.specs.Steps.{Step, steps}
use Rattle.zk_units.specs.declared.stream_unit.StreamUnit.{StreamUnit}
use Rattle.zk_units.specs.declared.stream_unit.StreamUnit.TheVariants as says
use Rattle.zk_item_laws.specs.Own.{ItemsAreTheSame, conversation_of, going_on, items_alone, items_behind, own_items_with, own_segments, removal_of}
use Rattle.zk_item_laws.proofs.Own.{items_are_own}

each-renamed : {A : Type 0} (any : ℕ) (f g : A → Item) (l : List A) → ((a : A) → item_of any (f a) ≡ g a) → with_number any (map f l) ≡ map g l
each-renamed any f g [] same = refl
each-renamed any f g (a ∷ l) same = ap (λ i. i ∷ with_number any (map f l)) (same a) ∙ ap (λ rest. g a ∷ rest) (each-renamed any f g l same)

when-renamed : (any : ℕ) (b : Bool) (i : Item) → with_number any (when b i) ≡ when b (item_of any i)
when-renamed any true i = refl
when-renamed any false i = refl

unit-renamed : (any number : ℕ) (t : Moment) (known : Facts) (side : Side) (found : StreamUnit)
    → item_of any (unit_item t (numbered number) known (record { side = side; «unit» = found })) ≡ unit_item t (numbered any) known (record { side = side; «unit» = found })
unit-renamed any number t known side (says.Http one) = refl
unit-renamed any number t known side (says.Dns len message) = refl
unit-renamed any number t known side (says.DnsBad fault len) = refl

behind : (any : ℕ) (l m l' m' : List Item) → with_number any l ≡ l' → with_number any m ≡ m' → with_number any (l ++ m) ≡ l' ++ m'
behind any l m l' m' first second = map-append (item_of any) l m ∙ ap (λ x. x ++ with_number any m) first ∙ ap (λ x. l' ++ x) second

-- the items of a segment
segment-renamed : (any limit number : ℕ) (opens : Bool) (c : Conversation) (s : Segment) (known : Facts) → with_number any (items_with limit number opens c s known) ≡ items_with limit any opens c s known
segment-renamed any limit number opens c s known =
    behind any _ _ _ _ (behind any _ _ _ _ (behind any _ _ _ _ (behind any _ _ _ _ (behind any _ _ _ _ (behind any _ _ _ _ (behind any _ _ _ _ (behind any _ _ _ _
    (when-renamed any opens (at (what.Opened conn known)))
    (when-renamed any (establishes c s) (at (what.Established conn known))))
    (gaps-renamed mine))
    (gaps-renamed its))
    (each-renamed any (unit_item t conn known) (unit_item t (numbered any) known) (units_with limit c s) (λ f. unit-renamed any number t known f.side f.«unit»)))
    (when-renamed any (ends limit c s mine) (at (what.Ended conn known mine))))
    (when-renamed any (ends limit c s its) (at (what.Ended conn known its))))
    (when-renamed any (gives_up limit c s) (at (what.GaveUp conn known mine))))
    (when-renamed any (resets c s) (at (what.Reset conn known)))
  where
    t : Moment
    t = s.moment

    conn : ConnNo
    conn = numbered number

    mine : Side
    mine = sender_in c s

    its : Side
    its = other (sender_in c s)

    at : What → Item
    at w = item s.moment w

    gaps-renamed : (side : Side) → with_number any (map (λ (g : Gap). item s.moment (what.Gap (numbered number) known side g.from g.length)) (gaps limit c s side))
        ≡ map (λ (g : Gap). item s.moment (what.Gap (numbered any) known side g.from g.length)) (gaps limit c s side)
    gaps-renamed side =
        each-renamed any (λ (g : Gap). item s.moment (what.Gap (numbered number) known side g.from g.length)) (λ (g : Gap). item s.moment (what.Gap (numbered any) known side g.from g.length))
        (gaps limit c s side) (λ g. refl)

segments-renamed : (any limit number : ℕ) (l : List (Step Segment)) → with_number any (flat_map (items_behind limit number) l) ≡ flat_map (items_behind limit any) l
segments-renamed any limit number [] = refl
segments-renamed any limit number (step ∷ l) =
    behind any (items_behind limit number step) (flat_map (items_behind limit number) l) (items_behind limit any step) (flat_map (items_behind limit any) l)
    (step-renamed (conversation_of limit step.before)) (segments-renamed any limit number l)
  where
    step-renamed : (o : Option Conversation) → with_number any (own_items_with limit number o step.last) ≡ own_items_with limit any o step.last
    step-renamed o = segment-renamed any limit number (is_none o) (going_on o step.last) step.last (facts (with_segment limit (going_on o step.last) step.last))

removal-renamed : (any number : ℕ) (last : Moment) (o : Option Conversation) → with_number any (removal_of number last o) ≡ removal_of any last o
removal-renamed any number last None = refl
removal-renamed any number last (Some c) = refl

alone-renamed : (any limit number : ℕ) (own : List Segment) (last : Moment) → with_number any (items_alone limit number own last) ≡ items_alone limit any own last
unfolding items_alone
alone-renamed any limit number own last =
    behind any (flat_map (items_behind limit number) (steps own)) (removal_of number last (conversation_of limit own)) (flat_map (items_behind limit any) (steps own)) (removal_of any last (conversation_of limit own))
    (segments-renamed any limit number (steps own)) (removal-renamed any number last (conversation_of limit own))

pub items_are_the_same : ItemsAreTheSame
items_are_the_same options other_options records other_records number other_number any buffers own lasts =
    ap (with_number any) (items_are_own options records number)
    ∙ alone-renamed any options.buffer number (own_segments options.buffer number (segments options records)) (now records)
    ∙ ap (λ limit. items_alone limit any (own_segments options.buffer number (segments options records)) (now records)) buffers
    ∙ ap (λ l. items_alone other_options.buffer any l (now records)) own
    ∙ ap (items_alone other_options.buffer any (own_segments other_options.buffer other_number (segments other_options other_records))) lasts
    ∙ sym (alone-renamed any other_options.buffer other_number (own_segments other_options.buffer other_number (segments other_options other_records)) (now other_records))
    ∙ sym (ap (with_number any) (items_are_own other_options other_records other_number))

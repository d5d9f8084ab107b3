-- The conversations that are over by a moment, and those that are left at the end.
use Rattle.std.proofs.Common.{◌≡◌, ◌≢◌, ℕ, ◌+◌, ◌≤◌, ◌≤ℤ◌, ℤ, Bool, true, false, cond, not, ◌&&◌, ◌||◌, List, [], ◌∷◌, ◌++◌, filter, map, get_or, Option, None, Some, refl, sym, ap, subst, ◌∙◌, arith, append_assoc}
use Rattle.std.specs.List.{list_any}
use Rattle.std.specs.Prelude.{All, int_le, int_lt, nat_lt}
use Rattle.std.proofs.lemmas.Bool.{true≢false}
use Rattle.std.proofs.lemmas.Bool.Decides.{nat_tests}
use Rattle.std.proofs.lemmas.Int.{ints}
use Rattle.std.proofs.lemmas.List.{append-nil}
use Rattle.std.proofs.lemmas.List.Elements.{All-append, All-cons}
use Rattle.zk_base.specs.declared.time.Moment.{Moment}
use Rattle.zk_conn.specs.declared.conns.Removed.{Removed}
use Rattle.zk_conn.specs.declared.key.Key.{Key}
use Rattle.zk_conn.specs.Histories as conn
use Rattle.zk_conn.specs.Segment.{same_key}
use Rattle.zk_conn.specs.Told.{Told, Packet, Front, Reached, Removal, Ending}
use Rattle.zk_conn.proofs.KeyLemmas.{same_key_is, same_key-refl}
use Rattle.zk_traffic.specs.declared.item.Item.{Item}
use Rattle.zk_traffic.specs.declared.item.What.TheVariants as what
use Rattle.zk_traffic.specs.declared.table.Table.{Table}
use Rattle.zk_traffic.specs.Conversation.{Conversation}
use Rattle.zk_traffic.specs.Instances.{Instance, begun, in_order, instances, instances_from, is_first, is_over_by, latest, live_at, number_of, over_between, removal, with_number}
use Rattle.zk_traffic.specs.Items.{facts, item, numbered, removed, removed_at}
use Rattle.zk_traffic.specs.Kept.{held_in_all}
use Rattle.zk_traffic.specs.Segments.{Segment}
use Rattle.zk_traffic.specs.StreamTable.{entry_at}
use Rattle.zk_traffic.specs.Table.{HasEntry, HasLive, Holds, IsCurrent, IsFirst, IsKnown, IsLeast, Removes, also, gone_by, is_over_at, left}
use Rattle.zk_traffic.proofs.HoldsLemmas.{has_number, instance_of, is_live, one_live, removal_known}
use Rattle.zk_traffic.proofs.InstanceLemmas.{EachIs, IsInstance, each_is, one_of}
use Rattle.zk_traffic.proofs.LeftLemmas.{Ascend, Each, IsAhead, ascend_less, due, due_each, due_none, first_in_order, least_ahead, left_each, left_same, none_before-each}

ascend_from : (limit : ℕ) (segments : List Segment) (n : ℕ) (keys : List Key) → Ascend n (instances_from limit segments n keys)
ascend_from limit segments n [] = tt
ascend_from limit segments n (k ∷ keys) = by_again (list_any (λ other. same_key other k) keys) (latest limit k segments) (ascend_from limit segments (n + 1) keys)
  where
    by_again : (b : Bool) (o : Option Conversation) → Ascend (n + 1) (instances_from limit segments (n + 1) keys) → Ascend n (cond b [] (with_number n k o) ++ instances_from limit segments (n + 1) keys)
    by_again true o more = ascend_less n (n + 1) (instances_from limit segments (n + 1) keys) (omega arith) more
    by_again false None more = ascend_less n (n + 1) (instances_from limit segments (n + 1) keys) (omega arith) more
    by_again false (Some c) more = (omega arith, more)

ascends : (limit : ℕ) (segments : List Segment) → Ascend 1 (instances limit segments)
unfolding instances
ascends limit segments = ascend_from limit segments 1 (begun limit segments)

each_of : (limit : ℕ) (segments : List Segment) (l : List Instance) → EachIs limit segments l → Each (IsInstance limit segments) l
each_of limit segments [] each = tt
each_of limit segments (i ∷ rest) each = (each.0, each_of limit segments rest each.1)

pub all_are : (limit : ℕ) (segments : List Segment) → Each (IsInstance limit segments) (instances limit segments)
all_are limit segments = each_of limit segments (instances limit segments) (each_is limit segments)

-- what is live at a moment is what is left without the keys that are gone by then
pub live_left : (limit : ℕ) (segments : List Segment) (t : Moment) (l : List Instance) → Each (IsInstance limit segments) l
    → filter (λ i. not (is_over_by t i.conversation)) l ≡ left (gone_by limit segments t) l
unfolding gone_by
live_left limit segments t [] each = refl
live_left limit segments t (i ∷ rest) each =
    ap (λ r. cond (not (is_over_by t i.conversation)) (i ∷ r) r) (live_left limit segments t rest each.1)
    ∙ sym (ap (λ o. cond (not (is_over_at t o)) (i ∷ left (gone_by limit segments t) rest) (left (gone_by limit segments t) rest)) each.0.0)

over_later : (a b c : ℤ) → int_le a b ≡ true → b ≤ℤ c → int_le a c ≡ true
over_later a b c first second = grind (arith, ints, first, second)

over_at_later : (o : Option Conversation) (before t : Moment) → before.0 ≤ℤ t.0 → is_over_at before o ≡ true → is_over_at t o ≡ true
over_at_later None before t later over = over
over_at_later (Some c) before t later over = over_later (removal c).0 before.0 t.0 over later

precedes_later : (event : Told) (before t : Moment) → before.0 ≤ℤ t.0 → conn.Precedes before event → conn.Precedes t event
precedes_later (Packet moment p) before t later precedes = grind (arith, ints, later, precedes)
precedes_later (Front key side front) before t later precedes = tt
precedes_later (Reached key side) before t later precedes = tt
precedes_later (Removal key at) before t later precedes = grind (arith, ints, later, precedes)
precedes_later (Ending key last) before t later precedes = precedes

-- of two with different numbers, one is before the other
one_earlier : (a b : ℤ) (m n : ℕ) → m ≢ n → (int_lt a b || (int_le a b && nat_lt m n)) ≡ false → (int_lt b a || (int_le b a && nat_lt n m)) ≡ true
one_earlier a b m n apart not_first = grind (arith, ints, nat_tests, apart, not_first)

-- a table from which what is over by a moment is removed: with the items that are still to be given, these are all
pub record Removing (table : Table) (limit : ℕ) (segments : List Segment) (t : Moment) (items all : List Item) : Type 0 where
  pub gone : Key → Bool
  pub told : List Told
  pub holds : Holds table limit segments gone told
  pub precede : All (conn.Precedes t) told
  pub over : (key : Key) → gone key ≡ true → is_over_at t (latest limit key segments) ≡ true
  pub items_are : items ++ map removed (in_order (due t (left gone (instances limit segments)))) ≡ all

pub removing : (table : Table) (limit : ℕ) (segments : List Segment) (before t : Moment) (items : List Item) → IsCurrent table limit segments before → before.0 ≤ℤ t.0
    → Removing table limit segments t items (items ++ map removed (in_order (over_between limit segments before t)))
unfolding gone_by
removing table limit segments before t items current later = record {
  gone = gone_by limit segments before;
  told = current.told;
  holds = current.holds;
  precede = λ k d within. precedes_later (get_or current.told k d) before t later (current.in_order k d within);
  over = λ key gone. over_at_later (latest limit key segments) before t later gone;
  items_are = ap (λ l. items ++ map removed (in_order (due t l))) (sym (live_left limit segments before (instances limit segments) (all_are limit segments)));
}

also_over : (limit : ℕ) (segments : List Segment) (t : Moment) (gone : Key → Bool) (key other : Key) → ((k : Key) → gone k ≡ true → is_over_at t (latest limit k segments) ≡ true)
    → is_over_at t (latest limit key segments) ≡ true → also gone key other ≡ true → is_over_at t (latest limit other segments) ≡ true
also_over limit segments t gone key other over now is = by_gone (gone other) (same_key other key) refl refl is
  where
    by_gone : (a b : Bool) → gone other ≡ a → same_key other key ≡ b → (a || b) ≡ true → is_over_at t (latest limit other segments) ≡ true
    by_gone true b gone_is same_is some = over other gone_is
    by_gone false true gone_is same_is some = ap (λ k. is_over_at t (latest limit k segments)) (same_key_is other key same_is) ∙ now
    by_gone false false gone_is same_is none = absurd (true≢false (sym none))

-- the first that is due stands before each other
ahead : (table : Table) (limit : ℕ) (segments : List Segment) (gone : Key → Bool) (told : List Told) (t : Moment) (removed : Removed) (key : Key) (c : Conversation) → Holds table limit segments gone told
    → HasLive limit segments gone key removed.conn.0 c → IsFirst limit segments gone removed t c
    → (i : Instance) → gone i.key ≡ false → IsInstance limit segments i → IsAhead key (instance_of limit segments key c) i
ahead table limit segments gone told t removed key c holds live first i live_key is =
    let other : HasLive limit segments gone i.key i.number i.conversation = record { latest_is = is.0; not_gone = live_key; number_is = is.1 } in
    let not_first : is_first i (instance_of limit segments key c) ≡ false =
    subst (λ (m : Moment). conn.is_earlier (removal i.conversation) i.number m (number_of limit key segments) ≡ false) (sym first.at_is)
    (subst (λ n. conn.is_earlier (removal i.conversation) i.number removed.at n ≡ false) (sym live.number_is) (first.first i.key i.number i.conversation other)) in (
      not_first,
      λ apart. one_earlier (removal i.conversation).0 (removal c).0 i.number (number_of limit key segments)
          (λ same.
          let other_live : HasLive limit segments gone i.key removed.conn.0 i.conversation = record { latest_is = is.0; not_gone = live_key; number_is = is.1 ∙ same ∙ live.number_is } in
          true≢false (sym (same_key-refl key) ∙ ap (λ k. same_key k key) (one_live table limit segments gone told key i.key removed.conn.0 c i.conversation holds live other_live) ∙ apart))
          not_first,
    )

-- the first that is due is removed
pub removing-one : (old new : Table) (limit : ℕ) (segments : List Segment) (t : Moment) (items all : List Item) (gone_one : Removed) → (was : Removing old limit segments t items all)
    → (found : Removes limit segments was.gone gone_one (λ key. Removal key gone_one.at) was.told new) → IsFirst limit segments was.gone gone_one t found.c
    → Removing new limit segments t (items ++ item gone_one.at (what.Removed gone_one.conn gone_one.facts) ∷ []) all
removing-one old new limit segments t items all gone_one was found first =
    let x = instance_of limit segments found.key found.c in
    let over_now : is_over_by t found.c ≡ true = ap (λ (m : Moment). int_le m.0 t.0) first.at_is ∙ first.due in
    let one = one_of limit segments found.key found.c found.live.latest_is (has_number limit found.key found.c segments found.live.latest_is) in
    let none = none_before-each found.key x (due t (left was.gone (instances limit segments)))
    (due_each (IsAhead found.key x) (IsAhead found.key x) t (left was.gone (instances limit segments)) (λ i over is. is)
    (left_each (IsInstance limit segments) (IsAhead found.key x) was.gone (instances limit segments)
    (ahead old limit segments was.gone was.told t gone_one found.key found.c was.holds found.live first) (all_are limit segments))) in
    let order = first_in_order was.gone t found.key x (instances limit segments) refl found.live.not_gone over_now one none in
    let given : removed x ≡ item gone_one.at (what.Removed gone_one.conn gone_one.facts) =
    ap (λ (m : Moment). item m (what.Removed (numbered (number_of limit found.key segments)) (facts found.c))) first.at_is
    ∙ ap (λ n. item gone_one.at (what.Removed (numbered n) (facts found.c))) found.live.number_is
    ∙ ap (λ f. item gone_one.at (what.Removed gone_one.conn f)) (sym found.facts_are) in
    record {
      gone = also was.gone found.key;
      told = was.told ++ Removal found.key gone_one.at ∷ [];
      holds = found.holds;
      precede = All-append (conn.Precedes t) was.told (Removal found.key gone_one.at ∷ []) was.precede
          (All-cons (conn.Precedes t) (Removal found.key gone_one.at) [] (at_most gone_one.at.0 t.0 first.due) (λ k d within. absurd (omega (arith, within))));
      over = λ key is. also_over limit segments t was.gone found.key key was.over (ap (is_over_at t) found.live.latest_is ∙ over_now) is;
      items_are = append_assoc items (item gone_one.at (what.Removed gone_one.conn gone_one.facts) ∷ []) (map removed (in_order (due t (left (also was.gone found.key) (instances limit segments)))))
          ∙ ap (λ z. items ++ z ∷ map removed (in_order (due t (left (also was.gone found.key) (instances limit segments))))) (sym given)
          ∙ sym (ap (λ l. items ++ map removed l) order) ∙ was.items_are;
    }
  where
    at_most : (a b : ℤ) → int_le a b ≡ true → a ≤ℤ b
    at_most a b is = grind (arith, ints, is)

-- a test that leaves the same keys
holds_same : (table : Table) (limit : ℕ) (segments : List Segment) (gone gone' : Key → Bool) (told : List Told) → ((key : Key) → gone' key ≡ gone key) → Holds table limit segments gone told
    → Holds table limit segments gone' told
holds_same table limit segments gone gone' told same holds = record {
  limit_is = holds.limit_is;
  stands = holds.stands;
  begun_is = holds.begun_is;
  known = λ key. subst (λ b. IsKnown told key b (latest limit key segments)) (sym (same key)) (holds.known key);
  entries = λ key. subst (λ b. HasEntry limit (entry_at table.streams (number_of limit key segments)) b (latest limit key segments)) (sym (same key)) (holds.entries key);
  unused = holds.unused;
  kept_is = holds.kept_is ∙ ap (held_in_all limit) (sym (left_same gone gone' (instances limit segments) (all_same (instances limit segments))));
}
  where
    all_same : (l : List Instance) → Each (λ i. gone' i.key ≡ gone i.key) l
    all_same [] = tt
    all_same (i ∷ rest) = (same i.key, all_same rest)

-- a live conversation is not over where none is due
not_due : (table : Table) (limit : ℕ) (segments : List Segment) (gone : Key → Bool) (told : List Told) (t : Moment) (key : Key) (number : ℕ) (c : Conversation) → Holds table limit segments gone told
    → conn.NoneDue told t → HasLive limit segments gone key number c → is_over_by t c ≡ false
not_due table limit segments gone told t key number c holds none live =
    none key number (removal c) (record {
      live = is_live table limit segments gone told key number c holds live;
      at_is = removal_known table limit segments gone told key number c holds live;
    })

-- nothing is due any more
pub removing-done : (old table : Table) (limit : ℕ) (segments : List Segment) (t : Moment) (items all : List Item) → (was : Removing old limit segments t items all)
    → conn.NoneDue was.told t → Holds table limit segments was.gone was.told → IsCurrent table limit segments t × (items ≡ all)
unfolding gone_by
removing-done old table limit segments t items all was none holds = (
  record {
    told = was.told;
    holds = holds_same table limit segments was.gone (gone_by limit segments t) was.told same holds;
    in_order = was.precede;
  },
  sym (append-nil items) ∙ ap (λ l. items ++ map removed (in_order l)) (sym no_more) ∙ was.items_are,
)
  where
    by_latest : (key : Key) (o : Option Conversation) (b : Bool) → latest limit key segments ≡ o → was.gone key ≡ b → is_over_at t o ≡ b
    by_latest key o true latest_is gone_is = ap (is_over_at t) (sym latest_is) ∙ was.over key gone_is
    by_latest key None false latest_is gone_is = refl
    by_latest key (Some c) false latest_is gone_is =
        not_due table limit segments was.gone was.told t key (number_of limit key segments) c holds none (record { latest_is = latest_is; not_gone = gone_is; number_is = refl })

    same : (key : Key) → is_over_at t (latest limit key segments) ≡ was.gone key
    same key = by_latest key (latest limit key segments) (was.gone key) refl refl

    no_more : due t (left was.gone (instances limit segments)) ≡ []
    no_more = due_none t (left was.gone (instances limit segments))
        (left_each (IsInstance limit segments) (λ i. is_over_by t i.conversation ≡ false) was.gone (instances limit segments)
        (λ i live_key is. not_due table limit segments was.gone was.told t i.key i.number i.conversation holds none (record { latest_is = is.0; not_gone = live_key; number_is = is.1 }))
        (all_are limit segments))

-- a table from which all is removed at the end
pub record EndingAll (table : Table) (limit : ℕ) (segments : List Segment) (last : Moment) (items all : List Item) : Type 0 where
  pub gone : Key → Bool
  pub told : List Told
  pub holds : Holds table limit segments gone told
  pub items_are : items ++ map (removed_at last) (left gone (instances limit segments)) ≡ all

pub ending : (table : Table) (limit : ℕ) (segments : List Segment) (last : Moment) (items : List Item) → IsCurrent table limit segments last
    → EndingAll table limit segments last items (items ++ map (removed_at last) (live_at limit segments last))
ending table limit segments last items current = record {
  gone = gone_by limit segments last;
  told = current.told;
  holds = current.holds;
  items_are = ap (λ l. items ++ map (removed_at last) l) (sym (live_left limit segments last (instances limit segments) (all_are limit segments)));
}

pub ending-one : (old new : Table) (limit : ℕ) (segments : List Segment) (last : Moment) (items all : List Item) (gone_one : Removed) → (was : EndingAll old limit segments last items all)
    → Removes limit segments was.gone gone_one (λ key. Ending key last) was.told new → IsLeast limit segments was.gone gone_one last
    → EndingAll new limit segments last (items ++ item gone_one.at (what.Removed gone_one.conn gone_one.facts) ∷ []) all
ending-one old new limit segments last items all gone_one was found least =
    let x = instance_of limit segments found.key found.c in
    let one = one_of limit segments found.key found.c found.live.latest_is (has_number limit found.key found.c segments found.live.latest_is) in
    let first = left_each (IsInstance limit segments) (λ i. x.number ≤ i.number) was.gone (instances limit segments)
    (λ i live_key is. subst (λ n. n ≤ i.number) (sym found.live.number_is) (least.least i.key i.number i.conversation (record { latest_is = is.0; not_gone = live_key; number_is = is.1 })))
    (all_are limit segments) in
    let order = least_ahead was.gone 1 found.key x (instances limit segments) refl found.live.not_gone one (ascends limit segments) first in
    let given : removed_at last x ≡ item gone_one.at (what.Removed gone_one.conn gone_one.facts) =
    ap (λ (m : Moment). item m (what.Removed (numbered (number_of limit found.key segments)) (facts found.c))) (sym least.at_is)
    ∙ ap (λ n. item gone_one.at (what.Removed (numbered n) (facts found.c))) found.live.number_is
    ∙ ap (λ f. item gone_one.at (what.Removed gone_one.conn f)) (sym found.facts_are) in
    record {
      gone = also was.gone found.key;
      told = was.told ++ Ending found.key last ∷ [];
      holds = found.holds;
      items_are = append_assoc items (item gone_one.at (what.Removed gone_one.conn gone_one.facts) ∷ []) (map (removed_at last) (left (also was.gone found.key) (instances limit segments)))
          ∙ ap (λ z. items ++ z ∷ map (removed_at last) (left (also was.gone found.key) (instances limit segments))) (sym given)
          ∙ sym (ap (λ l. items ++ map (removed_at last) l) order) ∙ was.items_are;
    }

none_left : (l : List Instance) → Each (λ i. ⊥) l → l ≡ []
none_left [] each = refl
none_left (i ∷ rest) each = absurd each.0

-- nothing is left
pub ending-done : (old table : Table) (limit : ℕ) (segments : List Segment) (last : Moment) (items all : List Item) → (was : EndingAll old limit segments last items all)
    → conn.NoneLive was.told → Holds table limit segments was.gone was.told → (table.streams.kept ≡ 0) × (items ≡ all)
ending-done old table limit segments last items all was none holds =
    let nothing = none_left (left was.gone (instances limit segments))
    (left_each (IsInstance limit segments) (λ i. ⊥) was.gone (instances limit segments)
    (λ i live_key is. true≢false (sym (is_live table limit segments was.gone was.told i.key i.number i.conversation holds (record { latest_is = is.0; not_gone = live_key; number_is = is.1 })).live ∙ none i.key))
    (all_are limit segments)) in
    (holds.kept_is ∙ ap (held_in_all limit) nothing, sym (append-nil items) ∙ ap (λ l. items ++ map (removed_at last) l) (sym nothing) ∙ was.items_are)

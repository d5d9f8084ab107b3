-- What a connection that begins in a capture is.
use Rattle.std.proofs.Common.{◌≡◌, ◌≢◌, ◌⊎◌, ℕ, suc, ◌+◌, ◌<◌, true, false, cond, List, [], ◌∷◌, ◌++◌, length, Option, None, Some, refl, sym, ap, ◌∙◌, arith, inl, inr, length-append, Bool}
use Rattle.std.specs.List.{flat_map, list_all, list_any}
use Rattle.std.specs.Prelude.{is_none}
use Rattle.std.proofs.lemmas.List.Elements.{filter-append}
use Rattle.zk_base.specs.declared.time.Moment.{Moment}
use Rattle.zk_conn.specs.declared.key.Key.{Key}
use Rattle.zk_conn.specs.Segment.{key_of, same_key}
use Rattle.zk_base.specs.NetworkTime.{now}
use Rattle.zk_traffic.specs.declared.item.Item.{Item}
use Rattle.zk_traffic.specs.declared.item.What.TheVariants as what
use Rattle.zk_traffic.specs.Conversation.{Conversation, with_segment}
use Rattle.zk_traffic.specs.Instances.{begun}
use Rattle.zk_traffic.specs.Items.{facts, item, items_of, numbered}
use Rattle.zk_traffic.specs.Segments.{Segment, segments}
use Rattle.zk_traffic.specs.Steps.{Step, steps}
use Rattle.zk_item_laws.specs.Own.{EachIsConnection, IsConnection, NoOthers, comes_after, conversation_of, end_of, going_on, is_removal, items_about, items_alone, items_behind, own_items_with, own_segments, removal_of, removals}
use Rattle.zk_item_laws.proofs.Behind.{after-none}
use Rattle.zk_item_laws.proofs.Each.{Each, IsOf, each-flat, each-less, items_with-each}
use Rattle.zk_item_laws.proofs.Own.{items_are_own, stands-behind}
use Rattle.zk_item_laws.proofs.Standing.{Stands, Used, conversation-none}

none-removed : (l : List Item) → Each (λ (i : Item). is_removal i.what ≡ false) l → removals l ≡ []
none-removed [] each = refl
none-removed (i ∷ l) each = ap (λ b. cond b (i ∷ removals l) (removals l)) each.0 ∙ none-removed l each.1

behind-stays : (limit number : ℕ) (step : Step Segment) → Each (λ (i : Item). is_removal i.what ≡ false) (items_behind limit number step)
behind-stays limit number step = with_own-stays (conversation_of limit step.before)
  where
    with_own-stays : (o : Option Conversation) → Each (λ (i : Item). is_removal i.what ≡ false) (own_items_with limit number o step.last)
    with_own-stays o =
        let s = step.last in
        let c = going_on o s in
        let known = facts (with_segment limit c s) in
        each-less (IsOf s.moment number) (λ (i : Item). is_removal i.what ≡ false) (own_items_with limit number o s) (λ i of. of.stays) (items_with-each limit number (is_none o) c s known)

-- the removals among the items of own segments
alone-removed : (limit number : ℕ) (own : List Segment) (last : Moment) (c : Conversation) → conversation_of limit own ≡ Some c
    → removals (items_alone limit number own last) ≡ item (end_of last c) (what.Removed (numbered number) (facts c)) ∷ []
unfolding items_alone
alone-removed limit number own last c is =
    filter-append (λ (i : Item). is_removal i.what) (flat_map (items_behind limit number) (steps own)) (removal_of number last (conversation_of limit own))
    ∙ ap (λ l. l ++ removals (removal_of number last (conversation_of limit own)))
    (none-removed (flat_map (items_behind limit number) (steps own))
    (each-flat (λ (i : Item). is_removal i.what ≡ false) (items_behind limit number) (steps own) (behind-stays limit number)))
    ∙ ap (λ o. removals (removal_of number last o)) is

some-own : (limit : ℕ) (own : List Segment) (c : Conversation) → conversation_of limit own ≡ Some c → own ≢ []
some-own limit own c is none = none_some (sym (conversation-none limit) ∙ ap (conversation_of limit) (sym none) ∙ is)
  where
    none_some : None ≡ Some c → ⊥
    none_some e = cc

-- the key at a place
same-place : (a b : List Key) (k l : Key) (c d : List Key) → a ++ k ∷ c ≡ b ++ l ∷ d → length a ≡ length b → k ≡ l
same-place [] [] k l c d same place = head same
  where
    head : k ∷ c ≡ l ∷ d → k ≡ l
    head e = cc
same-place [] (y ∷ b) k l c d same place = absurd (let more : length (y ∷ b) ≡ suc (length b) = refl in let none : length {A = Key} [] ≡ 0 = refl in omega (arith, place, more, none))
same-place (x ∷ a) [] k l c d same place = absurd (let more : length (x ∷ a) ≡ suc (length a) = refl in let none : length {A = Key} [] ≡ 0 = refl in omega (arith, place, more, none))
same-place (x ∷ a) (y ∷ b) k l c d same place = same-place a b k l c d (tail same) (let one : length (x ∷ a) ≡ suc (length a) = refl in let two : length (y ∷ b) ≡ suc (length b) = refl in omega (arith, place, one, two))
  where
    tail : x ∷ (a ++ k ∷ c) ≡ y ∷ (b ++ l ∷ d) → a ++ k ∷ c ≡ b ++ l ∷ d
    tail e = cc

pub each_is_connection : EachIsConnection
each_is_connection options records before key rest keys = by_stands (stands-behind options records number)
  where
    limit : ℕ
    limit = options.buffer

    all : List Segment
    all = segments options records

    number : ℕ
    number = length before + 1

    begun-more : length (begun limit all) ≡ length before + suc (length rest)
    begun-more = ap length keys ∙ length-append before (key ∷ rest)

    all_cut : (used : Used limit all (now records) number) (b : Bool) → list_any (λ k. same_key k used.key) used.rest ≡ b → list_all (comes_after limit number used.key used.c) (steps all) ≡ true
    all_cut used true again = used.all_after again
    all_cut used false last = after-none limit number used.key used.c (steps all) (used.none_behind last)

    by_stands : Stands limit all (now records) number → IsConnection options records number key (own_segments limit number all)
    by_stands (inl unused) = absurd (by_beyond unused.beyond)
      where
        by_beyond : (length before + 1 ≡ 0) ⊎ (length (begun limit all) < length before + 1) → ⊥
        by_beyond (inl zero) = omega (arith, zero)
        by_beyond (inr beyond) = omega (arith, beyond, begun-more)
    by_stands (inr used) =
        let placed = used.place in
        let key_is : used.key ≡ key = same-place used.before before used.key key used.rest rest (sym used.keys ∙ keys) (omega (arith, placed)) in
        record {
          c = used.c;
          comes_to = used.is;
          some = some-own limit (own_segments limit number all) used.c used.is;
          of_key = ap (λ k. list_all (λ (s : Segment). same_key (key_of s.view) k) (own_segments limit number all)) (sym key_is) ∙ used.of_key;
          in_time = used.in_time;
          cut = ap (λ k. list_all (comes_after limit number k used.c) (steps all)) (sym key_is) ∙ all_cut used (list_any (λ k. same_key k used.key) used.rest) refl;
          removed = ap removals (items_are_own options records number) ∙ alone-removed limit number (own_segments limit number all) (now records) used.c used.is;
        }

none-alone : (limit number : ℕ) (last : Moment) → items_alone limit number [] last ≡ []
unfolding items_alone conversation_of
none-alone limit number last = refl

pub no_others : NoOthers
no_others options records number beyond = by_stands (stands-behind options records number)
  where
    limit : ℕ
    limit = options.buffer

    all : List Segment
    all = segments options records

    by_stands : Stands limit all (now records) number → items_about number (items_of options records true) ≡ []
    by_stands (inl unused) =
        items_are_own options records number ∙ ap (λ own. items_alone limit number own (now records)) unused.own_are ∙ none-alone limit number (now records)
    by_stands (inr used) = absurd (by_beyond beyond)
      where
        by_beyond : (number ≡ 0) ⊎ (length (begun limit all) < number) → ⊥
        by_beyond (inl zero) = let placed = used.place in omega (arith, zero, placed)
        by_beyond (inr past) =
            let placed = used.place in
            let more = ap length used.keys ∙ length-append used.before (used.key ∷ used.rest) in
            omega (arith, past, placed, more)

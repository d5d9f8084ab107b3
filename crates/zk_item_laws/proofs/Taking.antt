-- One more segment of a capture, and what stands of a connection behind it.
use Rattle.std.proofs.Common.{◌≡◌, ◌⊎◌, ℕ, suc, ◌+◌, ◌≤◌, ◌<◌, Bool, true, false, cond, not, ◌&&◌, ◌||◌, List, [], ◌∷◌, ◌++◌, length, Option, None, Some, refl, sym, ap, ◌∙◌, arith, inl, inr, append_assoc, length-append}
use Rattle.std.specs.List.{list_all, list_any}
use Rattle.std.specs.Prelude.{◌==◌}
use Rattle.std.proofs.lemmas.Bool.{eqb-true, true≢false}
use Rattle.std.proofs.lemmas.Bool.Decides.{nat_tests}
use Rattle.std.proofs.lemmas.List.{append-nil}
use Rattle.std.proofs.lemmas.List.Folds.{list_any-append}
use Rattle.zk_base.specs.declared.time.Moment.{Moment}
use Rattle.zk_conn.specs.declared.key.Key.{Key}
use Rattle.zk_conn.specs.Histories.{last_place}
use Rattle.zk_conn.specs.Segment.{key_of, same_key}
use Rattle.zk_conn.proofs.KeyLemmas.{same_key_is, same_key-refl}
use Rattle.zk_traffic.specs.declared.item.What.TheVariants as what
use Rattle.zk_traffic.specs.Conversation.{Conversation, unbegun, with_segment}
use Rattle.zk_traffic.specs.Instances.{begins, begun, goes_on, is_over_by, joined_by, latest, number_of, removal}
use Rattle.zk_traffic.specs.Items.{facts, item, numbered, own_items, segment_items}
use Rattle.zk_traffic.specs.Segments.{Segment}
use Rattle.zk_traffic.specs.Steps.{Step, steps}
use Rattle.zk_traffic.proofs.EndLemmas.{not_over}
use Rattle.zk_traffic.proofs.HoldsLemmas.{has_number}
use Rattle.zk_traffic.proofs.SegmentLemmas.{begun-append, latest-append}
use Rattle.zk_traffic.proofs.SumLemmas.{last_place-push, last_place-within}
use Rattle.zk_item_laws.specs.Own.{comes_after, comes_in_time, conversation_of, going_on, is_behind, items_about, own_items_with, own_segments, with_own}
use Rattle.zk_item_laws.proofs.Behind.{after-none, both-hold, mine-not-behind, none-greater, other-not-behind, over-after, steps-hold}
use Rattle.zk_item_laws.proofs.Numbers.{place-is}
use Rattle.zk_item_laws.proofs.Standing.{Stands, Unused, Used, brought, conversation-none, conversation-push, gone, items-going_on, items-opening, joined-new, own-push, segment-about, told, told-push}

-- what stands behind a segment, and what that brings
pub record Takes (limit : ℕ) (segments : List Segment) (s : Segment) (number : ℕ) : Type 0 where
  pub stands : Stands limit (segments ++ s ∷ []) s.moment number
  pub brings : brought limit number (own_segments limit number segments) s.moment ++ items_about number (segment_items limit segments s)
      ≡ brought limit number (own_segments limit number (segments ++ s ∷ [])) s.moment

less-apart : (m n : ℕ) → m < n → (m == n) ≡ false
less-apart m n less = grind (arith, nat_tests, less)

beyond-more : (l l' m n : ℕ) → l < n → l' ≡ l + 1 → m ≡ l + 1 → (m == n) ≡ false → l' < n
beyond-more l l' m n less more place other = grind (arith, nat_tests, less, more, place, other)

behind-apart : (m n a b : ℕ) → m ≡ a + suc b + 1 → a + 1 ≡ n → (m == n) ≡ false
behind-apart m n a b place own = grind (arith, nat_tests, place, own)

neither : (a b : Bool) → (a || (b || false)) ≡ false → (a ≡ false) × (b ≡ false)
neither true b none = absurd (true≢false none)
neither false true none = absurd (true≢false none)
neither false false none = (refl, refl)

-- a live connection isn't removed
gone-live : (number : ℕ) (t : Moment) (c : Conversation) → is_over_by t c ≡ false → gone number t (Some c) ≡ []
gone-live number t c live = ap (λ b. cond b (item (removal c) (what.Removed (numbered number) (facts c)) ∷ []) []) live

abbrev of : Key → Segment → Bool
of key s = same_key (key_of s.view) key

abbrev in-time : ℕ → Step Segment → Bool
in-time limit step = comes_in_time (conversation_of limit step.before) step.last

-- A segment of another ---------------------------------------------------------------------------------------------------

other-own : (limit : ℕ) (segments : List Segment) (s : Segment) (number : ℕ) → (number_of limit (key_of s.view) (segments ++ s ∷ []) == number) ≡ false
    → own_segments limit number (segments ++ s ∷ []) ≡ own_segments limit number segments
other-own limit segments s number other = own-push limit number segments s false other ∙ append-nil (own_segments limit number segments)

other-brings : (limit : ℕ) (segments : List Segment) (s : Segment) (number : ℕ) → (number_of limit (key_of s.view) (segments ++ s ∷ []) == number) ≡ false
    → brought limit number (own_segments limit number segments) s.moment ++ items_about number (segment_items limit segments s)
    ≡ brought limit number (own_segments limit number (segments ++ s ∷ [])) s.moment
other-brings limit segments s number other =
    ap (λ l. brought limit number (own_segments limit number segments) s.moment ++ l) (segment-about limit number segments s false other)
    ∙ append-nil (brought limit number (own_segments limit number segments) s.moment)
    ∙ ap (λ own. brought limit number own s.moment) (sym (other-own limit segments s number other))

-- A segment of its own ---------------------------------------------------------------------------------------------------

mine-own : (limit : ℕ) (segments : List Segment) (s : Segment) (number : ℕ) → (number_of limit (key_of s.view) (segments ++ s ∷ []) == number) ≡ true
    → own_segments limit number (segments ++ s ∷ []) ≡ own_segments limit number segments ++ s ∷ []
mine-own limit segments s number mine = own-push limit number segments s true mine

mine-conversation : (limit : ℕ) (segments : List Segment) (s : Segment) (number : ℕ) (o : Option Conversation) → (number_of limit (key_of s.view) (segments ++ s ∷ []) == number) ≡ true
    → conversation_of limit (own_segments limit number segments) ≡ o → conversation_of limit (own_segments limit number (segments ++ s ∷ [])) ≡ Some (with_segment limit (going_on o s) s)
mine-conversation limit segments s number o mine is =
    ap (conversation_of limit) (mine-own limit segments s number mine)
    ∙ conversation-push limit (own_segments limit number segments) s
    ∙ ap (λ x. with_own limit x s) is

mine-brings : (limit : ℕ) (segments : List Segment) (s : Segment) (number : ℕ) (o : Option Conversation) → (number_of limit (key_of s.view) (segments ++ s ∷ []) == number) ≡ true
    → conversation_of limit (own_segments limit number segments) ≡ o → gone number s.moment o ≡ []
    → own_items limit number (latest limit (key_of s.view) segments) s ≡ own_items_with limit number o s
    → brought limit number (own_segments limit number segments) s.moment ++ items_about number (segment_items limit segments s)
    ≡ brought limit number (own_segments limit number (segments ++ s ∷ [])) s.moment
mine-brings limit segments s number o mine is none_gone items =
    let own = own_segments limit number segments in
    let c = going_on o s in
    ap (λ l. brought limit number own s.moment ++ l) (segment-about limit number segments s true mine ∙ items)
    ∙ ap (λ x. (told limit number own ++ gone number s.moment x) ++ own_items_with limit number o s) is
    ∙ ap (λ l. (told limit number own ++ l) ++ own_items_with limit number o s) none_gone
    ∙ ap (λ l. l ++ own_items_with limit number o s) (append-nil (told limit number own))
    ∙ ap (λ x. told limit number own ++ own_items_with limit number x s) (sym is)
    ∙ sym (told-push limit number own s)
    ∙ sym (append-nil (told limit number (own ++ s ∷ [])))
    ∙ ap (λ l. told limit number (own ++ s ∷ []) ++ l) (sym (gone-live number s.moment (with_segment limit c s) (not_over limit c s)))
    ∙ ap (λ x. told limit number (own ++ s ∷ []) ++ gone number s.moment x) (sym (mine-conversation limit segments s number o mine is) ∙ ap (conversation_of limit) (mine-own limit segments s number mine))
    ∙ ap (λ l. brought limit number l s.moment) (sym (mine-own limit segments s number mine))

-- A segment that begins a connection -------------------------------------------------------------------------------------

begun-opening : (limit : ℕ) (segments : List Segment) (s : Segment) → begins (latest limit (key_of s.view) segments) s ≡ true → begun limit (segments ++ s ∷ []) ≡ begun limit segments ++ key_of s.view ∷ []
begun-opening limit segments s new = begun-append limit segments s ∙ ap (λ b. begun limit segments ++ cond b (key_of s.view ∷ []) []) new

number-opening : (limit : ℕ) (segments : List Segment) (s : Segment) → begins (latest limit (key_of s.view) segments) s ≡ true → number_of limit (key_of s.view) (segments ++ s ∷ []) ≡ length (begun limit segments) + 1
number-opening limit segments s new =
    ap (last_place (key_of s.view)) (begun-opening limit segments s new) ∙ last_place-push (key_of s.view) (begun limit segments) (key_of s.view) true (same_key-refl (key_of s.view))

latest-mine : (limit : ℕ) (segments : List Segment) (s : Segment) → latest limit (key_of s.view) (segments ++ s ∷ []) ≡ goes_on limit (latest limit (key_of s.view) segments) s
latest-mine limit segments s = latest-append limit (key_of s.view) segments s true (same_key-refl (key_of s.view))

opens-unused : (limit : ℕ) (segments : List Segment) (s : Segment) (number : ℕ) → begins (latest limit (key_of s.view) segments) s ≡ true → Unused limit segments number → Takes limit segments s number
opens-unused limit segments s number new unused = by_number (number_of limit (key_of s.view) (segments ++ s ∷ []) == number) refl
  where
    none : conversation_of limit (own_segments limit number segments) ≡ None
    none = ap (conversation_of limit) unused.own_are ∙ conversation-none limit

    more : length (begun limit (segments ++ s ∷ [])) ≡ length (begun limit segments) + 1
    more = ap length (begun-opening limit segments s new) ∙ length-append (begun limit segments) (key_of s.view ∷ [])

    still : (number_of limit (key_of s.view) (segments ++ s ∷ []) == number) ≡ false → (number ≡ 0) ⊎ (length (begun limit segments) < number)
        → (number ≡ 0) ⊎ (length (begun limit (segments ++ s ∷ [])) < number)
    still other (inl zero) = inl zero
    still other (inr beyond) = inr (beyond-more (length (begun limit segments)) (length (begun limit (segments ++ s ∷ []))) (number_of limit (key_of s.view) (segments ++ s ∷ [])) number
        beyond more (number-opening limit segments s new) other)

    first_own : (number_of limit (key_of s.view) (segments ++ s ∷ []) == number) ≡ true → own_segments limit number (segments ++ s ∷ []) ≡ s ∷ []
    first_own mine = mine-own limit segments s number mine ∙ ap (λ l. l ++ s ∷ []) unused.own_are

    by_number : (b : Bool) → (number_of limit (key_of s.view) (segments ++ s ∷ []) == number) ≡ b → Takes limit segments s number
    by_number true mine = record {
      stands = inr (record {
        before = begun limit segments;
        key = key_of s.view;
        rest = [];
        c = with_segment limit (unbegun s) s;
        keys = begun-opening limit segments s new;
        place = sym (number-opening limit segments s new) ∙ eqb-true (number_of limit (key_of s.view) (segments ++ s ∷ [])) number mine;
        is = mine-conversation limit segments s number None mine none;
        of_key = ap (list_all (of (key_of s.view))) (first_own mine) ∙ ap (λ b. b && true) (same_key-refl (key_of s.view));
        in_time = ap (λ l. list_all (in-time limit) (steps l)) (first_own mine) ∙ ap (λ o. comes_in_time o s && true) (conversation-none limit);
        current = λ last. latest-mine limit segments s ∙ ap (λ (c : Conversation). Some (with_segment limit c s)) (joined-new (latest limit (key_of s.view) segments) s new);
        past = λ again. absurd (true≢false (sym again));
        none_behind = λ last. none-greater limit number (key_of s.view) (segments ++ s ∷ []) (let place = number-opening limit segments s new in
            let mine_is = eqb-true (number_of limit (key_of s.view) (segments ++ s ∷ [])) number mine in omega (arith, more, place, mine_is));
        all_after = λ again. absurd (true≢false (sym again));
      });
      brings = mine-brings limit segments s number None mine none refl (items-opening limit number (latest limit (key_of s.view) segments) s new);
    }
    by_number false other = record {
      stands = inl (record { own_are = other-own limit segments s number other ∙ unused.own_are; beyond = still other unused.beyond });
      brings = other-brings limit segments s number other;
    }

opens-used : (limit : ℕ) (segments : List Segment) (s : Segment) (number : ℕ) → begins (latest limit (key_of s.view) segments) s ≡ true → Used limit segments s.moment number → Takes limit segments s number
opens-used limit segments s number new used = record {
  stands = inr (record {
    before = used.before;
    key = used.key;
    rest = used.rest ++ key_of s.view ∷ [];
    c = used.c;
    keys = begun-opening limit segments s new ∙ ap (λ l. l ++ key_of s.view ∷ []) used.keys ∙ append_assoc used.before (used.key ∷ used.rest) (key_of s.view ∷ []);
    place = used.place;
    is = ap (conversation_of limit) (other-own limit segments s number other) ∙ used.is;
    of_key = ap (list_all (of used.key)) (other-own limit segments s number other) ∙ used.of_key;
    in_time = ap (λ l. list_all (in-time limit) (steps l)) (other-own limit segments s number other) ∙ used.in_time;
    current = λ last. let parts = neither (list_any (λ k. same_key k used.key) used.rest) (same_key (key_of s.view) used.key) (sym any ∙ last) in
        latest-append limit used.key segments s false parts.1 ∙ used.current parts.0;
    past = now_over;
    none_behind = λ last. let parts = neither (list_any (λ k. same_key k used.key) used.rest) (same_key (key_of s.view) used.key) (sym any ∙ last) in
        steps-hold (λ (step : Step Segment). not (is_behind limit number used.key step)) segments s (used.none_behind parts.0) (other-not-behind limit number used.key (record { before = segments; last = s }) parts.1);
    all_after = λ again. steps-hold (comes_after limit number used.key used.c) segments s (so_far_after (list_any (λ k. same_key k used.key) used.rest) refl)
        (over-after limit number used.key used.c (record { before = segments; last = s }) (now_over again));
  });
  brings = other-brings limit segments s number other;
}
  where
    placed : number_of limit (key_of s.view) (segments ++ s ∷ []) ≡ length used.before + suc (length used.rest) + 1
    placed = number-opening limit segments s new ∙ ap (λ l. length l + 1) used.keys ∙ ap (λ n. n + 1) (length-append used.before (used.key ∷ used.rest))

    other : (number_of limit (key_of s.view) (segments ++ s ∷ []) == number) ≡ false
    other = behind-apart (number_of limit (key_of s.view) (segments ++ s ∷ [])) number (length used.before) (length used.rest) placed used.place

    any : list_any (λ k. same_key k used.key) (used.rest ++ key_of s.view ∷ []) ≡ (list_any (λ k. same_key k used.key) used.rest || (same_key (key_of s.view) used.key || false))
    any = list_any-append (λ k. same_key k used.key) used.rest (key_of s.view ∷ [])

    by_rest : (x y : Bool) → list_any (λ k. same_key k used.key) used.rest ≡ x → same_key (key_of s.view) used.key ≡ y
        → (list_any (λ k. same_key k used.key) used.rest || (same_key (key_of s.view) used.key || false)) ≡ true → is_over_by s.moment used.c ≡ true
    by_rest true y again same some = used.past again
    by_rest false true last same some =
        sym (ap (λ o. begins o s) (ap (λ k. latest limit k segments) (same_key_is (key_of s.view) used.key same) ∙ used.current last)) ∙ new
    by_rest false false last same some = absurd (true≢false (sym some ∙ ap (λ b. b || (same_key (key_of s.view) used.key || false)) last ∙ ap (λ b. b || false) same))

    now_over : list_any (λ k. same_key k used.key) (used.rest ++ key_of s.view ∷ []) ≡ true → is_over_by s.moment used.c ≡ true
    now_over again = by_rest (list_any (λ k. same_key k used.key) used.rest) (same_key (key_of s.view) used.key) refl refl (sym any ∙ again)

    so_far_after : (b : Bool) → list_any (λ k. same_key k used.key) used.rest ≡ b → list_all (comes_after limit number used.key used.c) (steps segments) ≡ true
    so_far_after true again = used.all_after again
    so_far_after false last = after-none limit number used.key used.c (steps segments) (used.none_behind last)

-- A segment that goes on with one ----------------------------------------------------------------------------------------

begun-going_on : (limit : ℕ) (segments : List Segment) (s : Segment) → begins (latest limit (key_of s.view) segments) s ≡ false → begun limit (segments ++ s ∷ []) ≡ begun limit segments
begun-going_on limit segments s old =
    begun-append limit segments s ∙ ap (λ b. begun limit segments ++ cond b (key_of s.view ∷ []) []) old ∙ append-nil (begun limit segments)

goes_on-unused : (limit : ℕ) (segments : List Segment) (s : Segment) (number : ℕ) → begins (latest limit (key_of s.view) segments) s ≡ false → Unused limit segments number → Takes limit segments s number
goes_on-unused limit segments s number old unused = record {
  stands = inl (record { own_are = other-own limit segments s number other ∙ unused.own_are; beyond = still unused.beyond });
  brings = other-brings limit segments s number other;
}
  where
    same : length (begun limit (segments ++ s ∷ [])) ≡ length (begun limit segments)
    same = ap length (begun-going_on limit segments s old)

    still : (number ≡ 0) ⊎ (length (begun limit segments) < number) → (number ≡ 0) ⊎ (length (begun limit (segments ++ s ∷ [])) < number)
    still (inl zero) = inl zero
    still (inr beyond) = inr (omega (arith, beyond, same))

    by_beyond : (number ≡ 0) ⊎ (length (begun limit segments) < number) → (number_of limit (key_of s.view) (segments ++ s ∷ []) == 0) ≡ false
        → number_of limit (key_of s.view) (segments ++ s ∷ []) ≤ length (begun limit (segments ++ s ∷ [])) → (number_of limit (key_of s.view) (segments ++ s ∷ []) == number) ≡ false
    by_beyond (inl zero) some within = ap (λ n. number_of limit (key_of s.view) (segments ++ s ∷ []) == n) zero ∙ some
    by_beyond (inr beyond) some within =
        less-apart (number_of limit (key_of s.view) (segments ++ s ∷ [])) number (omega (arith, within, beyond, same))

    other : (number_of limit (key_of s.view) (segments ++ s ∷ []) == number) ≡ false
    other = by_beyond unused.beyond
        (has_number limit (key_of s.view) (with_segment limit (joined_by (latest limit (key_of s.view) segments) s) s) (segments ++ s ∷ []) (latest-mine limit segments s))
        (last_place-within (key_of s.view) (begun limit (segments ++ s ∷ [])))

goes_on-mine : (limit : ℕ) (segments : List Segment) (s : Segment) (number : ℕ) → begins (latest limit (key_of s.view) segments) s ≡ false → (used : Used limit segments s.moment number)
    → (number_of limit (key_of s.view) (segments ++ s ∷ []) == number) ≡ true → same_key used.key (key_of s.view) ≡ true → list_any (λ k. same_key k used.key) used.rest ≡ false → Takes limit segments s number
goes_on-mine limit segments s number old used mine same last = record {
  stands = inr (record {
    before = used.before;
    key = used.key;
    rest = used.rest;
    c = with_segment limit used.c s;
    keys = begun-going_on limit segments s old ∙ used.keys;
    place = used.place;
    is = mine-conversation limit segments s number (Some used.c) mine used.is;
    of_key = ap (list_all (of used.key)) (mine-own limit segments s number mine)
        ∙ both-hold (of used.key) (own_segments limit number segments) s used.of_key (ap (λ k. same_key k used.key) (sym key_is) ∙ same_key-refl used.key);
    in_time = ap (λ l. list_all (in-time limit) (steps l)) (mine-own limit segments s number mine)
        ∙ steps-hold (in-time limit) (own_segments limit number segments) s used.in_time (ap (λ o. comes_in_time o s) used.is ∙ ap not live);
    current = λ last. ap (λ k. latest limit k (segments ++ s ∷ [])) key_is ∙ latest-mine limit segments s
        ∙ ap (λ o. goes_on limit o s) latest_is
        ∙ ap (λ b. Some (with_segment limit (cond b (unbegun s) used.c) s)) live;
    past = λ again. absurd (true≢false (sym again ∙ last));
    none_behind = λ last. steps-hold (λ (step : Step Segment). not (is_behind limit number used.key step)) segments s (used.none_behind last)
        (mine-not-behind limit number used.key (record { before = segments; last = s }) (let mine_is = eqb-true (number_of limit (key_of s.view) (segments ++ s ∷ [])) number mine in omega (arith, mine_is)));
    all_after = λ again. absurd (true≢false (sym again ∙ last));
  });
  brings = mine-brings limit segments s number (Some used.c) mine used.is (gone-live number s.moment used.c live)
      (ap (λ o. own_items limit number o s) latest_is ∙ items-going_on limit number used.c s live);
}
  where
    key_is : used.key ≡ key_of s.view
    key_is = same_key_is used.key (key_of s.view) same

    latest_is : latest limit (key_of s.view) segments ≡ Some used.c
    latest_is = ap (λ k. latest limit k segments) (sym key_is) ∙ used.current last

    live : is_over_by s.moment used.c ≡ false
    live = sym (ap (λ o. begins o s) latest_is) ∙ old

goes_on-other : (limit : ℕ) (segments : List Segment) (s : Segment) (number : ℕ) → begins (latest limit (key_of s.view) segments) s ≡ false → (used : Used limit segments s.moment number)
    → (number_of limit (key_of s.view) (segments ++ s ∷ []) == number) ≡ false → (list_any (λ k. same_key k used.key) used.rest ≡ false → same_key (key_of s.view) used.key ≡ false) → Takes limit segments s number
goes_on-other limit segments s number old used other apart = record {
  stands = inr (record {
    before = used.before;
    key = used.key;
    rest = used.rest;
    c = used.c;
    keys = begun-going_on limit segments s old ∙ used.keys;
    place = used.place;
    is = ap (conversation_of limit) (other-own limit segments s number other) ∙ used.is;
    of_key = ap (list_all (of used.key)) (other-own limit segments s number other) ∙ used.of_key;
    in_time = ap (λ l. list_all (in-time limit) (steps l)) (other-own limit segments s number other) ∙ used.in_time;
    current = λ last. latest-append limit used.key segments s false (apart last) ∙ used.current last;
    past = used.past;
    none_behind = λ last. steps-hold (λ (step : Step Segment). not (is_behind limit number used.key step)) segments s (used.none_behind last) (other-not-behind limit number used.key (record { before = segments; last = s }) (apart last));
    all_after = λ again. steps-hold (comes_after limit number used.key used.c) segments s (used.all_after again) (over-after limit number used.key used.c (record { before = segments; last = s }) (used.past again));
  });
  brings = other-brings limit segments s number other;
}

goes_on-used : (limit : ℕ) (segments : List Segment) (s : Segment) (number : ℕ) → begins (latest limit (key_of s.view) segments) s ≡ false → Used limit segments s.moment number → Takes limit segments s number
goes_on-used limit segments s number old used =
    by_key (same_key used.key (key_of s.view)) (list_any (λ k. same_key k (key_of s.view)) used.rest) refl refl
  where
    test_is : (number_of limit (key_of s.view) (segments ++ s ∷ []) == number) ≡ (same_key used.key (key_of s.view) && not (list_any (λ k. same_key k (key_of s.view)) used.rest))
    test_is =
        ap (λ l. last_place (key_of s.view) l == number) (begun-going_on limit segments s old ∙ used.keys)
        ∙ ap (λ n. last_place (key_of s.view) (used.before ++ used.key ∷ used.rest) == n) (sym used.place)
        ∙ place-is (key_of s.view) used.key used.before used.rest

    by_key : (x y : Bool) → same_key used.key (key_of s.view) ≡ x → list_any (λ k. same_key k (key_of s.view)) used.rest ≡ y → Takes limit segments s number
    by_key true false same last =
        goes_on-mine limit segments s number old used
        (test_is ∙ ap (λ b. b && not (list_any (λ k. same_key k (key_of s.view)) used.rest)) same ∙ ap not last)
        same
        (ap (λ key. list_any (λ k. same_key k key) used.rest) (same_key_is used.key (key_of s.view) same) ∙ last)
    by_key true true same again =
        goes_on-other limit segments s number old used
        (test_is ∙ ap (λ b. b && not (list_any (λ k. same_key k (key_of s.view)) used.rest)) same ∙ ap not again)
        (λ last. absurd (true≢false (sym again ∙ ap (λ key. list_any (λ k. same_key k key) used.rest) (sym (same_key_is used.key (key_of s.view) same)) ∙ last)))
    by_key false y apart rest_is =
        goes_on-other limit segments s number old used
        (test_is ∙ ap (λ b. b && not (list_any (λ k. same_key k (key_of s.view)) used.rest)) apart)
        (λ last. other-way (same_key (key_of s.view) used.key) refl)
      where
        other-way : (b : Bool) → same_key (key_of s.view) used.key ≡ b → same_key (key_of s.view) used.key ≡ false
        other-way false is = is
        other-way true is = absurd (true≢false (sym (same_key-refl used.key) ∙ ap (same_key used.key) (sym (same_key_is (key_of s.view) used.key is)) ∙ apart))

-- what stands of a connection behind one more segment
pub takes : (limit : ℕ) (segments : List Segment) (s : Segment) (number : ℕ) → Stands limit segments s.moment number → Takes limit segments s number
takes limit segments s number stands = by_begins (begins (latest limit (key_of s.view) segments) s) refl stands
  where
    by_begins : (b : Bool) → begins (latest limit (key_of s.view) segments) s ≡ b → Stands limit segments s.moment number → Takes limit segments s number
    by_begins true new (inl unused) = opens-unused limit segments s number new unused
    by_begins true new (inr used) = opens-used limit segments s number new used
    by_begins false old (inl unused) = goes_on-unused limit segments s number old unused
    by_begins false old (inr used) = goes_on-used limit segments s number old used

-- Groups of names that lead to each other, as their links tell them.
use Rattle.std.proofs.Common.{◌≡◌, ℕ, zero, suc, ◌+◌, ◌<◌, ◌≤◌, ◌⊎◌, inl, inr, Bool, true, false, ◌&&◌, ◌||◌, List, [], ◌∷◌, length, get_or, nat_eq, nat_le, nat_lt, Option, Some, None, slice_get, refl, ap, sym, ◌∙◌, subst, arith}
use Rattle.std.proofs.lemmas.Bool.{leb-true, lt-ltb, ltb-true}
use Rattle.std.proofs.lemmas.Bool.Decides.{Decides-eqb}
use Rattle.std.specs.declared.alloc.Global.{Global}
use Rattle.std.specs.declared.vec.Vec.{Vec}
use Rattle.std.specs.List.{list_all, list_any}
use Rattle.std.specs.Str.{bytes_eq}
use Rattle.zk_typed.specs.Names.{Declared}
use Rattle.zk_typed.specs.Resolving.{Scripts, leads_by, leads_to}
use Rattle.zk_scope.specs.declared.groups.Groups.{Groups}
use Rattle.zk_scope.specs.declared.groups.Link.{Link}
use Rattle.zk_scope.specs.declared.ways.Ways.{Ways}
use Rattle.zk_scope.specs.Grouping.{AreAhead, AreBack, AreLow, AreRanked, are_below, are_no_higher, are_together, first_of, first_or_end, has_step, is_ahead, is_back, is_below, is_just, is_low, is_nearer, is_no_higher, is_together}
use Rattle.zk_scope.specs.Indexing.{items_at}
use Rattle.zk_scope.specs.Leading.{HasWays, has_name, is_target, led, steps}
use Rattle.zk_scope.specs.Same.{same_bytes}
use Rattle.zk_scope.proofs.CountLaws.{soon}
use Rattle.zk_scope.proofs.LeadLaws.{at_place, laws_of}
use Rattle.zk_scope.proofs.SearchLaws.{Leading, any_more, mem, step_led, target_led}
use Rattle.zk_scope.proofs.WayLaws.{none_past}

first_of_both : (a b : Bool) → (a && b) ≡ true → a ≡ true
first_of_both true b h = refl
first_of_both false b h = h

second_of_both : (a b : Bool) → (a && b) ≡ true → b ≡ true
second_of_both true b h = h
second_of_both false b h = cc

one_of_two : (a b : Bool) → (a || b) ≡ true → (a ≡ true) ⊎ (b ≡ true)
one_of_two true b h = inl refl
one_of_two false b h = inr h

same : (a b : ℕ) → nat_eq a b ≡ true → a ≡ b
same a b = (Decides-eqb a b).0

-- What is looked at one by one -----------------------------------------------------------------------------------------

pub up_to : {A : Type 0} (P : ℕ → A → Type 0) (items : List A) (at : ℕ) (one : A) → slice_get items at ≡ Some one → P at one → ((v : ℕ) (x : A) → v < at → slice_get items v ≡ Some x → P v x) →
    (v : ℕ) (x : A) → v < at + 1 → slice_get items v ≡ Some x → P v x
up_to P items at one is here before v x h found = elim (cases v at h) [
  | inl e ↦ before v x e found
  | inr e ↦ let both : Some one ≡ Some x = sym is ∙ ap (slice_get items) (sym e) ∙ found in
      let equal : one ≡ x = cc in
      subst (P v) equal (subst (λ (n : ℕ). P n one) (sym e) here)
]
  where
    cases : (a b : ℕ) → a < b + 1 → (a < b) ⊎ (a ≡ b)
    cases a b h = grind arith

pub up_to_end : {A : Type 0} (P : ℕ → A → Type 0) (items : List A) (at : ℕ) → length items ≤ at → ((v : ℕ) (x : A) → v < at → slice_get items v ≡ Some x → P v x) → (v : ℕ) (x : A) → slice_get items v ≡ Some x → P v x
up_to_end P items at past before v x found = elim (cases v at) [ inl e ↦ before v x e found | inr e ↦ let none : None ≡ Some x = sym (none_past items v (omega (arith, past, e))) ∙ found in cc ]
  where
    cases : (a b : ℕ) → (a < b) ⊎ (b ≤ a)
    cases a b = grind arith

pub up_to_next : {A : Type 0} (P : ℕ → A → Type 0) (items : List A) (at : ℕ) (d : A) → at < length items → P at (get_or items at d) → ((v : ℕ) (x : A) → v < at → slice_get items v ≡ Some x → P v x) →
    (v : ℕ) (x : A) → v < at + 1 → slice_get items v ≡ Some x → P v x
up_to_next {A = A} P items at d within here before = up_to P items at (get_or items at d) (got items at within) here before
  where
    got : (xs : List A) (n : ℕ) → n < length xs → slice_get xs n ≡ Some (get_or xs n d)
    got [] n within = absurd (omega (arith, within))
    got (x ∷ xs) zero within = refl
    got (x ∷ xs) (suc n) within = got xs n (omega (arith, within))

-- Ranks ----------------------------------------------------------------------------------------------------------------

below_by : (low : ℕ) (found : Option Link) → is_below low found ≡ true → (link : Link) × (found ≡ Some link) × (link.rank < low)
below_by low None h = cc
below_by low (Some link) h = (link, refl, ltb-true link.rank low h)

lower_on : (rank low : ℕ) → rank < low → (found : Option Link) → is_no_higher rank found ≡ true → is_below low found ≡ true
lower_on rank low h None e = e
lower_on rank low h (Some link) e = lt-ltb link.rank low (omega (arith, h, leb-true link.rank rank e))

none_of : (p q : ℕ → Bool) → ((w : ℕ) → p w ≡ true → q w ≡ false) → (ws : List ℕ) → list_all p ws ≡ true → list_any q ws ≡ false
none_of p q e [] h = refl
none_of p q e (w ∷ ws) h = neither (q w) (list_any q ws) (e w (first_of_both (p w) (list_all p ws) h)) (none_of p q e ws (second_of_both (p w) (list_all p ws) h))
  where
    neither : (a b : Bool) → a ≡ false → b ≡ false → (a || b) ≡ false
    neither a b h k = rw h k

not_low : (rank low : ℕ) (found : Option ℕ) → found ≡ Some low → is_low rank found ≡ true → low ≤ rank
not_low rank low None e h = cc
not_low rank low (Some other) e h = let equal : other ≡ low = cc in subst (λ (n : ℕ). n ≤ rank) equal (leb-true other rank h)

-- what is of a lower rank than all that have a name has another name
not_named : (names : List Declared) (links : List Link) (lows : List ℕ) (target : List ℕ) (low : ℕ) → AreLow links lows names → slice_get lows (first_or_end names target) ≡ Some low →
    (v : ℕ) → is_below low (slice_get links v) ≡ true → is_target names target v ≡ false
not_named names links lows target low are at v h = by_name (slice_get names v) refl
  where
    by_bytes : (one : Declared) (b : Bool) → bytes_eq one.name target ≡ b → slice_get names v ≡ Some one → b ≡ false
    by_bytes one false e is = refl
    by_bytes one true e is =
        let found = below_by low (slice_get links v) h in
        let there : slice_get lows (first_of names (slice_get names v)) ≡ Some low = ap (λ (x : Option Declared). slice_get lows (first_of names x)) is ∙ ap (λ (x : List ℕ). slice_get lows (first_or_end names x)) (same_bytes one.name target e) ∙ at in
        let under : low ≤ found.0.rank = not_low found.0.rank low (slice_get lows (first_of names (slice_get names v))) there (are v found.0 found.1) in
        absurd (omega (arith, under, found.2))

    by_name : (one : Option Declared) → slice_get names v ≡ one → has_name target (slice_get names v) ≡ false
    by_name None is = ap (has_name target) is
    by_name (Some one) is = ap (has_name target) is ∙ by_bytes one (bytes_eq one.name target) refl is

module _ (led : ℕ → ℕ → Bool) (is_target : ℕ → Bool) (steps : ℕ → List ℕ) (laws : Leading led is_target steps) where
  -- places of lower ranks than all targets lead to none
  module _ (links : List Link) (low : ℕ) (ranked : (v : ℕ) (link : Link) → slice_get links v ≡ Some link → are_no_higher links link.rank (steps v) ≡ true)
      (apart : (v : ℕ) → is_below low (slice_get links v) ≡ true → is_target v ≡ false) where
    never_led : (m v : ℕ) → is_below low (slice_get links v) ≡ true → led m v ≡ false
    never_led zero v h = laws.at_once v ∙ apart v h
    never_led (suc m) v h =
        let found = below_by low (slice_get links v) h in
        let behind : list_any (led m) (steps v) ≡ false =
        none_of (λ w. is_no_higher found.0.rank (slice_get links w)) (led m) (λ w e. never_led m w (lower_on found.0.rank low found.2 (slice_get links w) e)) (steps v) (ranked v found.0 found.1) in
        laws.by_step m v ∙ ap (λ (x : Bool). x || list_any (led m) (steps v)) (apart v h) ∙ behind

    none_led : (m : ℕ) (starts : List ℕ) → list_all (λ w. is_below low (slice_get links w)) starts ≡ true → list_any (led m) starts ≡ false
    none_led m starts h = none_of (λ w. is_below low (slice_get links w)) (led m) (never_led m) starts h

  -- places of one group lead to each other
  module _ (most : ℕ) (far : (w m : ℕ) → most ≤ w → led m w ≡ false) (lists : List (Vec ℕ Global)) (are : (v : ℕ) → items_at lists v ≡ steps v) where
    led_back : (v w : ℕ) → mem w (steps v) ≡ true → led most w ≡ true → led most v ≡ true
    led_back v w h e = soon led is_target steps laws most far (suc most) v (step_led led is_target steps laws most v w h e)

    is_mem : (from which to : ℕ) → has_step lists from which to ≡ true → mem to (steps from) ≡ true
    is_mem from which to h = subst (λ (x : List ℕ). mem to x ≡ true) (are from) (by_found (slice_get (items_at lists from) which) refl h)
      where
        by_found : (found : Option ℕ) → slice_get (items_at lists from) which ≡ found → is_just to found ≡ true → mem to (items_at lists from) ≡ true
        by_found None e k = cc
        by_found (Some place) e k = (at_place (items_at lists from) which to (e ∙ ap Some (same place to k))).2

    nearer_by : (link : Link) (found : Option Link) → is_nearer link found ≡ true → (other : Link) × (found ≡ Some other) × (other.root ≡ link.root) × (other.turn < link.turn)
    nearer_by link None h = cc
    nearer_by link (Some other) h = (other, refl, same other.root link.root (first_of_both (nat_eq other.root link.root) (nat_lt other.turn link.turn) h), ltb-true other.turn link.turn (second_of_both (nat_eq other.root link.root) (nat_lt other.turn link.turn) h))

    root_led : (links : List Link) → AreAhead links lists → (k v : ℕ) (link : Link) → slice_get links v ≡ Some link → link.turn < k → led most v ≡ true → led most link.root ≡ true
    root_led links ahead zero v link is h there = absurd (omega (arith, h))
    root_led links ahead (suc k) v link is h there = elim (one_of_two (nat_eq v link.root) (has_step lists link.other link.which v && is_nearer link (slice_get links link.other)) (ahead v link is)) [
      | inl e ↦ subst (λ (x : ℕ). led most x ≡ true) (same v link.root e) there
      | inr e ↦
          let near = nearer_by link (slice_get links link.other) (second_of_both (has_step lists link.other link.which v) (is_nearer link (slice_get links link.other)) e) in
          let step = is_mem link.other link.which v (first_of_both (has_step lists link.other link.which v) (is_nearer link (slice_get links link.other)) e) in
          subst (λ (x : ℕ). led most x ≡ true) near.2 (root_led links ahead k link.other near.0 near.1 (omega (arith, near.3, h)) (led_back link.other v step there))
    ]

    led_by_root : (links : List Link) → AreBack links lists → (k v : ℕ) (link : Link) → slice_get links v ≡ Some link → link.turn < k → led most link.root ≡ true → led most v ≡ true
    led_by_root links back zero v link is h there = absurd (omega (arith, h))
    led_by_root links back (suc k) v link is h there = elim (one_of_two (nat_eq v link.root) (has_step lists v link.which link.other && is_nearer link (slice_get links link.other)) (back v link is)) [
      | inl e ↦ subst (λ (x : ℕ). led most x ≡ true) (sym (same v link.root e)) there
      | inr e ↦
          let near = nearer_by link (slice_get links link.other) (second_of_both (has_step lists v link.which link.other) (is_nearer link (slice_get links link.other)) e) in
          let step = is_mem v link.which link.other (first_of_both (has_step lists v link.which link.other) (is_nearer link (slice_get links link.other)) e) in
          led_back v link.other step (led_by_root links back k link.other near.0 near.1 (omega (arith, near.3, h)) (subst (λ (x : ℕ). led most x ≡ true) (sym near.2) there))
    ]

    led_together : (ahead back : List Link) → AreAhead ahead lists → AreBack back lists → (to w : ℕ) → is_target to ≡ true → is_together (slice_get back w) (slice_get ahead to) ≡ true → led most w ≡ true
    led_together ahead back are_ahead are_back to w target h = by_links (slice_get back w) (slice_get ahead to) refl refl h
      where
        by_links : (one other : Option Link) → slice_get back w ≡ one → slice_get ahead to ≡ other → is_together one other ≡ true → led most w ≡ true
        by_links None other e k h = cc
        by_links (Some one) None e k h = cc
        by_links (Some one) (Some other) e k h =
            let root : led most other.root ≡ true = root_led ahead are_ahead (suc other.turn) to other k (omega arith) (target_led led is_target steps laws most to target) in
            led_by_root back are_back (suc one.turn) w one e (omega arith) (subst (λ (x : ℕ). led most x ≡ true) (sym (same one.root other.root h)) root)

-- Of names -------------------------------------------------------------------------------------------------------------

-- names of lower ranks than all that have a name don't lead to it
pub below_apart : (scripts : Scripts) (names : List Declared) (ways : Ways) (target starts : List ℕ) → scripts.names ≡ names → HasWays ways names →
    are_below ways.groups.ahead.items (slice_get ways.groups.lows.items (first_or_end names target)) starts ≡ true → false ≡ list_any (led scripts target (length scripts.names)) starts
below_apart scripts names ways target starts e has h = by_low (slice_get ways.groups.lows.items (first_or_end names target)) refl h
  where
    by_low : (found : Option ℕ) → slice_get ways.groups.lows.items (first_or_end names target) ≡ found → are_below ways.groups.ahead.items found starts ≡ true → false ≡ list_any (led scripts target (length scripts.names)) starts
    by_low None is h = cc
    by_low (Some low) is h =
        sym (none_led (λ m v. led scripts target m v) (is_target names target) (steps names) (laws_of scripts names target e) ways.groups.ahead.items low
        (λ v link found. ap (are_no_higher ways.groups.ahead.items link.rank) (sym (has.0 v)) ∙ has.1.2 v link found) (not_named names ways.groups.ahead.items ways.groups.lows.items target low has.1.3 is) (length scripts.names) starts h)

far_none : (scripts : Scripts) (target : List ℕ) (w m : ℕ) → length scripts.names ≤ w → led scripts target m w ≡ false
far_none scripts target w m past = ap (leads_by (leads_to m scripts target) target) (none_past scripts.names w past)

-- a name leads to those of its group
pub together_led : (scripts : Scripts) (names : List Declared) (ways : Ways) (target starts : List ℕ) (to : ℕ) → scripts.names ≡ names → HasWays ways names →
    is_target names target to ≡ true → are_together ways.groups to starts ≡ true → true ≡ list_any (led scripts target (length scripts.names)) starts
together_led scripts names ways target starts to e has target_at h =
    sym (any_more (λ w. is_together (slice_get ways.groups.back.items w) (slice_get ways.groups.ahead.items to)) (led scripts target (length scripts.names))
    (λ w here. led_together (λ m v. led scripts target m v) (is_target names target) (steps names) (laws_of scripts names target e) (length scripts.names) (far_none scripts target) ways.steps.items has.0
    ways.groups.ahead.items ways.groups.back.items has.1.0 has.1.1 to w target_at here) starts h)

-- A stable sort by falling priority gives the bodies of a hook in their order.
use Rattle.std.proofs.Common.{◌≡◌, ℕ, zero, suc, ◌<◌, ◌≤◌, Bool, true, false, cond, List, [], ◌∷◌, length, map, get_or, filter, is_lt, refl, sym, ap, subst, ◌∙◌, inl, inr, suc-le-suc, zero-le}
use Rattle.std.specs.Prelude.{ℤ, int_lt, not, ◌&&◌}
use Rattle.std.specs.declared.cmp.Ordering.TheVariants.{Less, Equal, Greater}
use Rattle.std.specs.Cmp.{IsStrictWeakOrder, int_cmp_total}
use Rattle.std.specs.Ordering.{int_cmp}
use Rattle.std.specs.List.Sorted.{ties, IsSortedBy, IsStableBy}
use Rattle.std.proofs.lemmas.Bool.{cond-true, cond-false, cases_Bool, and_parts, not-true}
use Rattle.std.proofs.lemmas.List.Sorted.{ranks_by, IsStrictWeakOrder-flip, sorted_far}
use Rattle.zk_typed.specs.Meaning.{placed, in_order}

tested_as : (a b : ℤ) → int_lt a b ≡ is_lt (int_cmp a b)
tested_as a b = elim (int_lt a b) as (λ t. t ≡ is_lt (cond t Less (cond (int_lt b a) Greater Equal))) [
  | true ↦ refl
  | false ↦ elim (int_lt b a) as (λ t. false ≡ is_lt (cond t Greater Equal)) [ true ↦ refl | false ↦ refl ]
]

-- one after another
abbrev pub Each : {X : Type 0} → (X → Type 0) → List X → Type 0
Each P [] = Unit {0}
Each P (x ∷ xs) = P x × Each P xs

module _ {X : Type 0} (key : X → ℤ) where
  -- a greater priority comes first
  abbrev pub before : X → X → Bool
  before x y = is_lt (int_cmp (key y) (key x))

  pub ordered : IsStrictWeakOrder before
  ordered = IsStrictWeakOrder-flip (λ x y. is_lt (int_cmp (key x) (key y))) (ranks_by int_cmp_total key)

  placed_past : (c d : X) (ds : List X) → before d c ≡ true → placed key c (d ∷ ds) ≡ d ∷ placed key c ds
  placed_past c d ds h = ap (λ (b : Bool). elim b [ true ↦ d ∷ placed key c ds | false ↦ c ∷ d ∷ ds ]) (tested_as (key c) (key d) ∙ h)

  placed_stays : (c d : X) (ds : List X) → before d c ≡ false → placed key c (d ∷ ds) ≡ c ∷ d ∷ ds
  placed_stays c d ds h = ap (λ (b : Bool). elim b [ true ↦ d ∷ placed key c ds | false ↦ c ∷ d ∷ ds ]) (tested_as (key c) (key d) ∙ h)

  -- of the same priority
  abbrev level : X → X → Bool
  level = ties before

  level_first : (x y : X) → level x y ≡ true → before x y ≡ false
  level_first x y h = not-true (before x y) (and_parts (not (before x y)) (not (before y x)) h).0

  level_second : (x y : X) → level x y ≡ true → before y x ≡ false
  level_second x y h = not-true (before y x) (and_parts (not (before x y)) (not (before y x)) h).1

  level_from : (x y : X) → before x y ≡ false → before y x ≡ false → level x y ≡ true
  level_from x y a b = ap (λ t. not t && not (before y x)) a ∙ ap (λ t. not false && not t) b

  itself : (x : X) → before x x ≡ false
  itself x = elim (cases_Bool (before x x)) [ inl h ↦ ordered.one_way x x h | inr h ↦ h ]

  kept : (p : X → Bool) (y : X) (ys : List X) → p y ≡ true → filter p (y ∷ ys) ≡ y ∷ filter p ys
  kept p y ys h = cond-true _ _ _ h

  dropped : (p : X → Bool) (y : X) (ys : List X) → p y ≡ false → filter p (y ∷ ys) ≡ filter p ys
  dropped p y ys h = cond-false _ _ _ h

  -- those of one priority stay as they are
  past_others : (x c d : X) → before d c ≡ true → level x c ≡ true → level x d ≡ true → ⊥
  past_others x c d past at_c at_d =
      let no : before d c ≡ false = ordered.chain d x c (level_second x d at_d) (level_first x c at_c) in cc

  filter_placed : (x c : X) (ds : List X) → filter (level x) (placed key c ds) ≡ filter (level x) (c ∷ ds)
  filter_placed x c [] = refl
  filter_placed x c (d ∷ ds) =
      elim (cases_Bool (before d c)) [
        | inr stays ↦ ap (filter (level x)) (placed_stays c d ds stays)
        | inl past ↦ ap (filter (level x)) (placed_past c d ds past) ∙ elim (cases_Bool (level x d)) [
          | inr without ↦ dropped (level x) d (placed key c ds) without ∙ (filter_placed x c ds ∙ ap (λ l. cond (level x c) (c ∷ l) l) (sym (dropped (level x) d ds without)))
          | inl with ↦ elim (cases_Bool (level x c)) [
            | inl both ↦ absurd (past_others x c d past both with)
            | inr only ↦ kept (level x) d (placed key c ds) with ∙ (ap (λ l. d ∷ l) (filter_placed x c ds ∙ dropped (level x) c ds only) ∙ sym (dropped (level x) c (d ∷ ds) only ∙ kept (level x) d ds with))
          ]
        ]
      ]

  filter_order : (x : X) (cs : List X) → filter (level x) (in_order key cs) ≡ filter (level x) cs
  filter_order x [] = refl
  filter_order x (c ∷ cs) = filter_placed x c (in_order key cs) ∙ ap (λ l. cond (level x c) (c ∷ l) l) (filter_order x cs)

  -- none of these comes before one
  abbrev Behind : X → List X → Type 0
  Behind n [] = Unit {0}
  Behind n (y ∷ ys) = (before y n ≡ false) × Behind n ys

  abbrev Falls : List X → Type 0
  Falls [] = Unit {0}
  Falls (y ∷ ys) = Behind y ys × Falls ys

  behind_through : (n m : X) (ys : List X) → before m n ≡ false → Behind m ys → Behind n ys
  behind_through n m [] le h = tt
  behind_through n m (y ∷ ys) le h = (ordered.chain y m n h.0 le, behind_through n m ys le h.1)

  behind_placed : (n c : X) (ds : List X) → before c n ≡ false → Behind n ds → Behind n (placed key c ds)
  behind_placed n c [] le h = (le, tt)
  behind_placed n c (d ∷ ds) le h = elim (cases_Bool (before d c)) [
    | inr stays ↦ let P : List X → Type 0 = Behind n in subst P (sym (placed_stays c d ds stays)) (le, h)
    | inl past ↦ let P : List X → Type 0 = Behind n in subst P (sym (placed_past c d ds past)) (h.0, behind_placed n c ds le h.1)
  ]

  falls_placed : (c : X) (ds : List X) → Falls ds → Falls (placed key c ds)
  falls_placed c [] h = (tt, tt)
  falls_placed c (d ∷ ds) h = elim (cases_Bool (before d c)) [
    | inr stays ↦ let P : List X → Type 0 = Falls in subst P (sym (placed_stays c d ds stays)) ((stays, behind_through c d ds stays h.0), h)
    | inl past ↦ let P : List X → Type 0 = Falls in subst P (sym (placed_past c d ds past)) (behind_placed d c ds (ordered.one_way d c past) h.0, falls_placed c ds h.1)
  ]

  falls_order : (cs : List X) → Falls (in_order key cs)
  falls_order [] = tt
  falls_order (c ∷ cs) = falls_placed c (in_order key cs) (falls_order cs)

  behind_at : (n : X) (ys : List X) → ((j : ℕ) (d : X) → j < length ys → before (get_or ys j d) n ≡ false) → Behind n ys
  behind_at n [] h = tt
  behind_at n (y ∷ ys) h = (h zero y (suc-le-suc zero-le), behind_at n ys (λ j d lt. h (suc j) d (suc-le-suc lt)))

  falls_from : (ys : List X) → ((i j : ℕ) (d : X) → i ≤ j → j < length ys → before (get_or ys j d) (get_or ys i d) ≡ false) → Falls ys
  falls_from [] h = tt
  falls_from (y ∷ ys) h = (behind_at y ys (λ j d lt. h zero (suc j) d zero-le (suc-le-suc lt)), falls_from ys (λ i j d le lt. h (suc i) (suc j) d (suc-le-suc le) (suc-le-suc lt)))

  -- one of its priority occurs among them
  behind_found : (n x : X) (ys : List X) (w : X) (ws : List X) → Behind n ys → filter (level x) ys ≡ w ∷ ws → before x n ≡ false
  behind_found n x [] w ws h e = cc
  behind_found n x (y ∷ ys) w ws h e = elim (cases_Bool (level x y)) [
    | inl with ↦ ordered.chain x y n (level_first x y with) h.0
    | inr without ↦ behind_found n x ys w ws h.1 (sym (dropped (level x) y ys without) ∙ e)
  ]

  same_from_levels : (ys zs : List X) → Falls ys → Falls zs → ((x : X) → filter (level x) ys ≡ filter (level x) zs) → ys ≡ zs
  same_from_levels [] [] left right same = refl
  same_from_levels [] (z ∷ zs) left right same = let clash : [] ≡ z ∷ filter (level z) zs = same z ∙ kept (level z) z zs (level_from z z (itself z) (itself z)) in cc
  same_from_levels (y ∷ ys) [] left right same = let clash : [] ≡ y ∷ filter (level y) ys = sym (same y) ∙ kept (level y) y ys (level_from y y (itself y) (itself y)) in cc
  same_from_levels (y ∷ ys) (z ∷ zs) left right same =
      let at_y : filter (level y) (y ∷ ys) ≡ y ∷ filter (level y) ys = kept (level y) y ys (level_from y y (itself y) (itself y)) in
      let at_z : filter (level z) (z ∷ zs) ≡ z ∷ filter (level z) zs = kept (level z) z zs (level_from z z (itself z) (itself z)) in
      let up : before y z ≡ false = behind_found z y (z ∷ zs) y (filter (level y) ys) (itself z, right.0) (sym (same y) ∙ at_y) in
      let down : before z y ≡ false = behind_found y z (y ∷ ys) z (filter (level z) zs) (itself y, left.0) (same z ∙ at_z) in
      let heads : y ∷ filter (level y) ys ≡ z ∷ filter (level y) zs = sym at_y ∙ (same y ∙ kept (level y) z zs (level_from y z up down)) in
      let head : y ≡ z = cc in
      let tails : (x : X) → filter (level x) ys ≡ filter (level x) zs = λ x. elim (cases_Bool (level x y)) [
        | inl with ↦ let both : y ∷ filter (level x) ys ≡ z ∷ filter (level x) zs = sym (kept (level x) y ys with) ∙ (same x ∙ kept (level x) z zs (ap (level x) (sym head) ∙ with)) in cc
        | inr without ↦ sym (dropped (level x) y ys without) ∙ (same x ∙ dropped (level x) z zs (ap (level x) (sym head) ∙ without))
      ] in
      ap (λ w. w ∷ ys) head ∙ ap (λ l. z ∷ l) (same_from_levels ys zs left.1 right.1 tails)

  pub order_from_sort : (xs ys : List X) → IsSortedBy before ys → IsStableBy before xs ys → ys ≡ in_order key xs
  order_from_sort xs ys sorted stable =
      same_from_levels ys (in_order key xs) (falls_from ys (sorted_far before ordered ys sorted)) (falls_order xs) (λ x. stable x ∙ sym (filter_order x xs))

  -- Some of them -----------------------------------------------------------------------------------------------------

  filter_swap : (p q : X → Bool) (ys : List X) → filter p (filter q ys) ≡ filter q (filter p ys)
  filter_swap p q [] = refl
  filter_swap p q (y ∷ ys) = elim (cases_Bool (p y)) [
    | inl one ↦ elim (cases_Bool (q y)) [
      | inl other ↦ ap (filter p) (kept q y ys other) ∙ (kept p y (filter q ys) one ∙ (ap (λ l. y ∷ l) (filter_swap p q ys) ∙ sym (ap (filter q) (kept p y ys one) ∙ kept q y (filter p ys) other)))
      | inr other ↦ ap (filter p) (dropped q y ys other) ∙ (filter_swap p q ys ∙ sym (ap (filter q) (kept p y ys one) ∙ dropped q y (filter p ys) other))
    ]
    | inr one ↦ elim (cases_Bool (q y)) [
      | inl other ↦ ap (filter p) (kept q y ys other) ∙ (dropped p y (filter q ys) one ∙ (filter_swap p q ys ∙ sym (ap (filter q) (dropped p y ys one))))
      | inr other ↦ ap (filter p) (dropped q y ys other) ∙ (filter_swap p q ys ∙ sym (ap (filter q) (dropped p y ys one)))
    ]
  ]

  behind_some : (p : X → Bool) (n : X) (ys : List X) → Behind n ys → Behind n (filter p ys)
  behind_some p n [] h = tt
  behind_some p n (y ∷ ys) h = let P : List X → Type 0 = Behind n in elim (cases_Bool (p y)) [
    | inl with ↦ subst P (sym (kept p y ys with)) (h.0, behind_some p n ys h.1)
    | inr without ↦ subst P (sym (dropped p y ys without)) (behind_some p n ys h.1)
  ]

  falls_some : (p : X → Bool) (ys : List X) → Falls ys → Falls (filter p ys)
  falls_some p [] h = tt
  falls_some p (y ∷ ys) h = let P : List X → Type 0 = Falls in elim (cases_Bool (p y)) [
    | inl with ↦ subst P (sym (kept p y ys with)) (behind_some p y ys h.0, falls_some p ys h.1)
    | inr without ↦ subst P (sym (dropped p y ys without)) (falls_some p ys h.1)
  ]

  -- some of what is in order are in order
  pub filter_in_order : (p : X → Bool) (xs : List X) → filter p (in_order key xs) ≡ in_order key (filter p xs)
  filter_in_order p xs =
      same_from_levels (filter p (in_order key xs)) (in_order key (filter p xs)) (falls_some p (in_order key xs) (falls_order xs)) (falls_order (filter p xs))
      (λ x. filter_swap (level x) p (in_order key xs) ∙ (ap (filter p) (filter_order x xs) ∙ (filter_swap p (level x) xs ∙ sym (filter_order x (filter p xs)))))

  each_placed : (P : X → Type 0) (c : X) (ds : List X) → P c → Each P ds → Each P (placed key c ds)
  each_placed P c [] is h = (is, tt)
  each_placed P c (d ∷ ds) is h = let Q : List X → Type 0 = Each P in elim (cases_Bool (before d c)) [
    | inr stays ↦ subst Q (sym (placed_stays c d ds stays)) (is, h)
    | inl past ↦ subst Q (sym (placed_past c d ds past)) (h.0, each_placed P c ds is h.1)
  ]

  -- what holds of each holds of each in order
  pub each_in_order : (P : X → Type 0) (xs : List X) → Each P xs → Each P (in_order key xs)
  each_in_order P [] h = tt
  each_in_order P (x ∷ xs) h = each_placed P x (in_order key xs) h.0 (each_in_order P xs h.1)

  pub each_some : (P : X → Type 0) (p : X → Bool) (xs : List X) → Each P xs → Each P (filter p xs)
  each_some P p [] h = tt
  each_some P p (x ∷ xs) h = let Q : List X → Type 0 = Each P in elim (cases_Bool (p x)) [
    | inl with ↦ subst Q (sym (kept p x xs with)) (h.0, each_some P p xs h.1)
    | inr without ↦ subst Q (sym (dropped p x xs without)) (each_some P p xs h.1)
  ]

-- The same of what is seen of the elements --------------------------------------------------------------------------

module _ {X Y : Type 0} (key : Y → ℤ) (seen : X → Y) where
  placed_seen : (c : X) (ds : List X) → map seen (placed (λ x. key (seen x)) c ds) ≡ placed key (seen c) (map seen ds)
  placed_seen c [] = refl
  placed_seen c (d ∷ ds) =
      elim (int_lt (key (seen c)) (key (seen d))) as (λ b. map seen (elim b [ true ↦ d ∷ placed (λ x. key (seen x)) c ds | false ↦ c ∷ d ∷ ds ]) ≡ elim b [ true ↦ seen d ∷ placed key (seen c) (map seen ds) | false ↦ seen c ∷ seen d ∷ map seen ds ]) [
        | true ↦ ap (λ l. seen d ∷ l) (placed_seen c ds)
        | false ↦ refl
      ]

  pub order_seen : (cs : List X) → map seen (in_order (λ x. key (seen x)) cs) ≡ in_order key (map seen cs)
  order_seen [] = refl
  order_seen (c ∷ cs) = placed_seen c (in_order (λ x. key (seen x)) cs) ∙ ap (placed key (seen c)) (order_seen cs)

  pub sorted_seen : (xs ys : List X) → IsSortedBy (before (λ x. key (seen x))) ys → IsStableBy (before (λ x. key (seen x))) xs ys → map seen ys ≡ in_order key (map seen xs)
  sorted_seen xs ys sorted stable = ap (map seen) (order_from_sort (λ x. key (seen x)) xs ys sorted stable) ∙ order_seen xs

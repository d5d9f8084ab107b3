-- The instances that are left, how many bytes they hold, and which of them is removed first.
use Rattle.std.proofs.Common.{◌≡◌, ℕ, ◌+◌, ◌≤◌, Bool, true, false, cond, not, ◌||◌, List, [], ◌∷◌, filter, refl, sym, ap, subst, ◌∙◌, arith, inl, inr}
use Rattle.std.proofs.lemmas.List.Sums.{sum_by-cons}
use Rattle.zk_base.specs.declared.time.Moment.{Moment}
use Rattle.zk_conn.specs.declared.key.Key.{Key}
use Rattle.zk_conn.specs.Segment.{same_key}
use Rattle.zk_conn.proofs.KeyLemmas.{same_key-refl}
use Rattle.zk_traffic.specs.Instances.{Instance, in_order, insert, is_first, is_over_by}
use Rattle.zk_traffic.specs.Kept.{held_in, held_in_all}
use Rattle.zk_traffic.specs.Table.{also, left}
use Rattle.zk_traffic.proofs.InstanceLemmas.{NoneOf, OneOf}

-- a key that none is of changes nothing
pub left_none : (gone : Key → Bool) (key : Key) (l : List Instance) → NoneOf key l → left (also gone key) l ≡ left gone l
left_none gone key [] none = refl
left_none gone key (i ∷ rest) none =
    ap (λ b. cond (not b) (i ∷ left (also gone key) rest) (left (also gone key) rest)) (ap (λ b. gone i.key || b) none.0 ∙ or_false (gone i.key))
    ∙ ap (λ r. cond (not (gone i.key)) (i ∷ r) r) (left_none gone key rest none.1)
  where
    or_false : (b : Bool) → (b || false) ≡ b
    or_false true = refl
    or_false false = refl

held_cond : (limit : ℕ) (b : Bool) (i : Instance) (r : List Instance) → held_in_all limit (cond b (i ∷ r) r) ≡ held_in_all limit r + cond b (held_in limit i.conversation) 0
held_cond limit true i r = omega (arith, sum_by-cons (λ (j : Instance). held_in limit j.conversation) i r)
held_cond limit false i r = omega arith

-- those that are over by a moment
abbrev pub due : Moment → List Instance → List Instance
due t l = filter (λ i. is_over_by t i.conversation) l

-- what is left without a key holds that much less
pub held_also : (limit : ℕ) (gone : Key → Bool) (key : Key) (x : Instance) (l : List Instance) → x.key ≡ key → gone key ≡ false → OneOf key x l
    → held_in_all limit (left gone l) ≡ held_in_all limit (left (also gone key) l) + held_in limit x.conversation
held_also limit gone key x [] of_key live one = absurd one
held_also limit gone key x (i ∷ rest) of_key live (inl here) =
    let key_is : i.key ≡ key = ap (λ (j : Instance). j.key) here.0 ∙ of_key in
    let was : not (gone i.key) ≡ true = ap (λ k. not (gone k)) key_is ∙ ap not live in
    let is : not (also gone key i.key) ≡ false = ap (λ k. not (gone k || same_key k key)) key_is ∙ ap (λ b. not (b || same_key key key)) live ∙ ap not (same_key-refl key) in
    ap (λ b. held_in_all limit (cond b (i ∷ left gone rest) (left gone rest))) was
    ∙ (let sum : held_in_all limit (i ∷ left gone rest) ≡ held_in_all limit (left gone rest) + held_in limit i.conversation = held_cond limit true i (left gone rest) in sum)
    ∙ ap (λ l. held_in_all limit l + held_in limit i.conversation) (sym (left_none gone key rest here.1))
    ∙ ap (λ (j : Instance). held_in_all limit (left (also gone key) rest) + held_in limit j.conversation) here.0
    ∙ sym (ap (λ b. held_in_all limit (cond b (i ∷ left (also gone key) rest) (left (also gone key) rest)) + held_in limit x.conversation) is)
held_also limit gone key x (i ∷ rest) of_key live (inr there) =
    let same : not (also gone key i.key) ≡ not (gone i.key) = ap (λ b. not (gone i.key || b)) there.0 ∙ or_false (gone i.key) in
    let rest_is = held_also limit gone key x rest of_key live there.1 in
    let was = held_cond limit (not (gone i.key)) i (left gone rest) in
    let is = ap (λ b. held_in_all limit (cond b (i ∷ left (also gone key) rest) (left (also gone key) rest))) same ∙ held_cond limit (not (gone i.key)) i (left (also gone key) rest) in
    omega (arith, rest_is, was, is)
  where
    or_false : (b : Bool) → not (b || false) ≡ not b
    or_false true = refl
    or_false false = refl

-- no instance of the list is removed before this one, and it is removed before each of another key
abbrev pub IsAhead : Key → Instance → Instance → Type 0
IsAhead key x i = (is_first i x ≡ false) × (same_key i.key key ≡ false → is_first x i ≡ true)

abbrev pub NoneBefore : Key → Instance → List Instance → Type 0
NoneBefore key x [] = Unit {0}
NoneBefore key x (i ∷ rest) = IsAhead key x i × NoneBefore key x rest

none_before-insert : (key : Key) (x i : Instance) (l : List Instance) → IsAhead key x i → NoneBefore key x l → NoneBefore key x (insert i l)
none_before-insert key x i [] ahead none = (ahead, tt)
none_before-insert key x i (j ∷ rest) ahead none = by_cases (is_first j i) (none_before-insert key x i rest ahead none.1)
  where
    by_cases : (b : Bool) → NoneBefore key x (insert i rest) → NoneBefore key x (cond b (j ∷ insert i rest) (i ∷ j ∷ rest))
    by_cases true more = (none.0, more)
    by_cases false more = (ahead, none)

none_before-in_order : (key : Key) (x : Instance) (l : List Instance) → NoneBefore key x l → NoneBefore key x (in_order l)
none_before-in_order key x [] none = tt
none_before-in_order key x (i ∷ rest) none = none_before-insert key x i (in_order rest) none.0 (none_before-in_order key x rest none.1)

insert-first : (key : Key) (x : Instance) (l : List Instance) → NoneBefore key x l → insert x l ≡ x ∷ l
insert-first key x [] none = refl
insert-first key x (i ∷ rest) none = ap (λ b. cond b (i ∷ insert x rest) (x ∷ i ∷ rest)) none.0.0

-- the first of some instances stands ahead of the others in their order
pub first_in_order : (gone : Key → Bool) (t : Moment) (key : Key) (x : Instance) (l : List Instance) → x.key ≡ key → gone key ≡ false → is_over_by t x.conversation ≡ true → OneOf key x l
    → NoneBefore key x (due t (left gone l))
    → in_order (due t (left gone l)) ≡ x ∷ in_order (due t (left (also gone key) l))
first_in_order gone t key x [] of_key live over one none = absurd one
first_in_order gone t key x (i ∷ rest) of_key live over (inl here) none =
    let key_is : i.key ≡ key = ap (λ (j : Instance). j.key) here.0 ∙ of_key in
    let was : not (gone i.key) ≡ true = ap (λ k. not (gone k)) key_is ∙ ap not live in
    let is : not (also gone key i.key) ≡ false = ap (λ k. not (gone k || same_key k key)) key_is ∙ ap (λ b. not (b || same_key key key)) live ∙ ap not (same_key-refl key) in
    let due_is : is_over_by t i.conversation ≡ true = ap (λ (j : Instance). is_over_by t j.conversation) here.0 ∙ over in
    let now : due t (left gone (i ∷ rest)) ≡ i ∷ due t (left gone rest) = ap (λ b. due t (cond b (i ∷ left gone rest) (left gone rest))) was ∙ ap (λ b. cond b (i ∷ due t (left gone rest)) (due t (left gone rest))) due_is in
    let none_here : NoneBefore key x (i ∷ due t (left gone rest)) = subst (NoneBefore key x) now none in
    ap in_order now ∙ ap (λ j. insert j (in_order (due t (left gone rest)))) here.0
    ∙ insert-first key x (in_order (due t (left gone rest))) (none_before-in_order key x (due t (left gone rest)) none_here.1)
    ∙ ap (λ l. x ∷ in_order (due t l)) (sym (left_none gone key rest here.1) ∙ sym (ap (λ b. cond b (i ∷ left (also gone key) rest) (left (also gone key) rest)) is))
first_in_order gone t key x (i ∷ rest) of_key live over (inr there) none =
    let same : not (also gone key i.key) ≡ not (gone i.key) = ap (λ b. not (gone i.key || b)) there.0 ∙ not_or (gone i.key) in
    by_left (not (gone i.key)) (is_over_by t i.conversation) refl refl (λ none. first_in_order gone t key x rest of_key live over there.1 none)
    ∙ ap (λ b. x ∷ in_order (due t (cond b (i ∷ left (also gone key) rest) (left (also gone key) rest)))) (sym same)
  where
    not_or : (b : Bool) → not (b || false) ≡ not b
    not_or true = refl
    not_or false = refl

    by_left : (a d : Bool) → not (gone i.key) ≡ a → is_over_by t i.conversation ≡ d
        → (NoneBefore key x (due t (left gone rest)) → in_order (due t (left gone rest)) ≡ x ∷ in_order (due t (left (also gone key) rest)))
        → in_order (due t (cond (not (gone i.key)) (i ∷ left gone rest) (left gone rest))) ≡ x ∷ in_order (due t (cond (not (gone i.key)) (i ∷ left (also gone key) rest) (left (also gone key) rest)))
    by_left false d left_is due_is more =
        let without = subst (λ b. NoneBefore key x (due t (cond b (i ∷ left gone rest) (left gone rest)))) left_is none in
        ap (λ b. in_order (due t (cond b (i ∷ left gone rest) (left gone rest)))) left_is ∙ more without
        ∙ sym (ap (λ b. x ∷ in_order (due t (cond b (i ∷ left (also gone key) rest) (left (also gone key) rest)))) left_is)
    by_left true false left_is due_is more =
        let without = subst (λ b. NoneBefore key x (cond b (i ∷ due t (left gone rest)) (due t (left gone rest)))) due_is
        (subst (λ b. NoneBefore key x (due t (cond b (i ∷ left gone rest) (left gone rest)))) left_is none) in
        ap (λ b. in_order (due t (cond b (i ∷ left gone rest) (left gone rest)))) left_is
        ∙ ap (λ b. in_order (cond b (i ∷ due t (left gone rest)) (due t (left gone rest)))) due_is ∙ more without
        ∙ sym (ap (λ b. x ∷ in_order (due t (cond b (i ∷ left (also gone key) rest) (left (also gone key) rest)))) left_is
        ∙ ap (λ b. x ∷ in_order (cond b (i ∷ due t (left (also gone key) rest)) (due t (left (also gone key) rest)))) due_is)
    by_left true true left_is due_is more =
        let with_it = subst (λ b. NoneBefore key x (cond b (i ∷ due t (left gone rest)) (due t (left gone rest)))) due_is
        (subst (λ b. NoneBefore key x (due t (cond b (i ∷ left gone rest) (left gone rest)))) left_is none) in
        let behind : is_first x i ≡ true = with_it.0.1 there.0 in
        ap (λ b. in_order (due t (cond b (i ∷ left gone rest) (left gone rest)))) left_is
        ∙ ap (λ b. in_order (cond b (i ∷ due t (left gone rest)) (due t (left gone rest)))) due_is
        ∙ ap (insert i) (more with_it.1)
        ∙ ap (λ b. cond b (x ∷ insert i (in_order (due t (left (also gone key) rest)))) (i ∷ x ∷ in_order (due t (left (also gone key) rest)))) behind
        ∙ sym (ap (λ b. x ∷ in_order (due t (cond b (i ∷ left (also gone key) rest) (left (also gone key) rest)))) left_is
        ∙ ap (λ b. x ∷ in_order (cond b (i ∷ due t (left (also gone key) rest)) (due t (left (also gone key) rest)))) due_is)

-- what holds of each instance of a list
abbrev pub Each : (Instance → Type 0) → List Instance → Type 0
Each P [] = Unit {0}
Each P (i ∷ rest) = P i × Each P rest

-- what holds of each that is left
pub left_each : (P Q : Instance → Type 0) (gone : Key → Bool) (l : List Instance) → ((i : Instance) → gone i.key ≡ false → P i → Q i) → Each P l → Each Q (left gone l)
left_each P Q gone [] then each = tt
left_each P Q gone (i ∷ rest) then each = by_cases (gone i.key) refl (left_each P Q gone rest then each.1)
  where
    by_cases : (b : Bool) → gone i.key ≡ b → Each Q (left gone rest) → Each Q (cond (not (gone i.key)) (i ∷ left gone rest) (left gone rest))
    by_cases true is more = subst (λ b. Each Q (cond (not b) (i ∷ left gone rest) (left gone rest))) (sym is) more
    by_cases false is more = subst (λ b. Each Q (cond (not b) (i ∷ left gone rest) (left gone rest))) (sym is) (then i is each.0, more)

-- what holds of each that is over
pub due_each : (P Q : Instance → Type 0) (t : Moment) (l : List Instance) → ((i : Instance) → is_over_by t i.conversation ≡ true → P i → Q i) → Each P l → Each Q (due t l)
due_each P Q t [] then each = tt
due_each P Q t (i ∷ rest) then each = by_cases (is_over_by t i.conversation) refl (due_each P Q t rest then each.1)
  where
    by_cases : (b : Bool) → is_over_by t i.conversation ≡ b → Each Q (due t rest) → Each Q (cond (is_over_by t i.conversation) (i ∷ due t rest) (due t rest))
    by_cases true is more = subst (λ b. Each Q (cond b (i ∷ due t rest) (due t rest))) (sym is) (then i is each.0, more)
    by_cases false is more = subst (λ b. Each Q (cond b (i ∷ due t rest) (due t rest))) (sym is) more

pub none_before-each : (key : Key) (x : Instance) (l : List Instance) → Each (IsAhead key x) l → NoneBefore key x l
none_before-each key x [] each = tt
none_before-each key x (i ∷ rest) each = (each.0, none_before-each key x rest each.1)

-- none is over by a moment
pub due_none : (t : Moment) (l : List Instance) → Each (λ i. is_over_by t i.conversation ≡ false) l → due t l ≡ []
due_none t [] each = refl
due_none t (i ∷ rest) each = ap (λ b. cond b (i ∷ due t rest) (due t rest)) each.0 ∙ due_none t rest each.1

-- two tests that agree leave the same
pub left_same : (gone gone' : Key → Bool) (l : List Instance) → Each (λ i. gone' i.key ≡ gone i.key) l → left gone' l ≡ left gone l
left_same gone gone' [] each = refl
left_same gone gone' (i ∷ rest) each =
    ap (λ b. cond (not b) (i ∷ left gone' rest) (left gone' rest)) each.0 ∙ ap (λ r. cond (not (gone i.key)) (i ∷ r) r) (left_same gone gone' rest each.1)

-- the numbers of the instances ascend
abbrev pub Ascend : ℕ → List Instance → Type 0
Ascend n [] = Unit {0}
Ascend n (i ∷ rest) = (n ≤ i.number) × Ascend (i.number + 1) rest

pub ascend_less : (m n : ℕ) (l : List Instance) → m ≤ n → Ascend n l → Ascend m l
ascend_less m n [] le ascends = tt
ascend_less m n (i ∷ rest) le ascends = (omega (arith, le, ascends.0), ascends.1)

ascend_one : (n : ℕ) (key : Key) (x : Instance) (l : List Instance) → Ascend n l → OneOf key x l → n ≤ x.number
ascend_one n key x [] ascends one = absurd one
ascend_one n key x (i ∷ rest) ascends (inl here) = omega (arith, ascends.0, ap (λ (j : Instance). j.number) here.0)
ascend_one n key x (i ∷ rest) ascends (inr there) = omega (arith, ascends.0, ascend_one (i.number + 1) key x rest ascends.1 there.1)

-- the one of least number stands ahead of all that are left
pub least_ahead : (gone : Key → Bool) (n : ℕ) (key : Key) (x : Instance) (l : List Instance) → x.key ≡ key → gone key ≡ false → OneOf key x l → Ascend n l → Each (λ i. x.number ≤ i.number) (left gone l)
    → left gone l ≡ x ∷ left (also gone key) l
least_ahead gone n key x [] of_key live one ascends least = absurd one
least_ahead gone n key x (i ∷ rest) of_key live (inl here) ascends least =
    let key_is : i.key ≡ key = ap (λ (j : Instance). j.key) here.0 ∙ of_key in
    let was : not (gone i.key) ≡ true = ap (λ k. not (gone k)) key_is ∙ ap not live in
    let is : not (also gone key i.key) ≡ false = ap (λ k. not (gone k || same_key k key)) key_is ∙ ap (λ b. not (b || same_key key key)) live ∙ ap not (same_key-refl key) in
    ap (λ b. cond b (i ∷ left gone rest) (left gone rest)) was ∙ ap (λ j. j ∷ left gone rest) here.0
    ∙ ap (λ l. x ∷ l) (sym (left_none gone key rest here.1) ∙ sym (ap (λ b. cond b (i ∷ left (also gone key) rest) (left (also gone key) rest)) is))
least_ahead gone n key x (i ∷ rest) of_key live (inr there) ascends least =
    by_gone (gone i.key) refl (λ least. least_ahead gone (i.number + 1) key x rest of_key live there.1 ascends.1 least)
  where
    by_gone : (b : Bool) → gone i.key ≡ b → (Each (λ i. x.number ≤ i.number) (left gone rest) → left gone rest ≡ x ∷ left (also gone key) rest)
        → left gone (i ∷ rest) ≡ x ∷ left (also gone key) (i ∷ rest)
    by_gone true is more =
        ap (λ b. cond (not b) (i ∷ left gone rest) (left gone rest)) is
        ∙ more (subst (λ b. Each (λ i. x.number ≤ i.number) (cond (not b) (i ∷ left gone rest) (left gone rest))) is least)
        ∙ sym (ap (λ b. x ∷ cond (not (b || same_key i.key key)) (i ∷ left (also gone key) rest) (left (also gone key) rest)) is)
    by_gone false is more =
        let first = (subst (λ b. Each (λ i. x.number ≤ i.number) (cond (not b) (i ∷ left gone rest) (left gone rest))) is least).0 in
        absurd (omega (arith, first, ascend_one (i.number + 1) key x rest ascends.1 there.1))

-- The slots of a table: what is kept under an order number, and the entries that are there.
use Rattle.std.proofs.Common.{◌≡◌, ◌==◌, ℕ, zero, suc, ◌<◌, ◌≤◌, Bool, true, false, cond, List, [], ◌∷◌, ◌++◌, slice_get, Option, Some, None, is_some, refl, sym, ap, subst, ◌∙◌, arith}
use Rattle.std.proofs.Math.ListN.{set}
use Rattle.std.proofs.lemmas.Bool.Decides.{Decides-eqb}
use Rattle.zk_table.specs.declared.slot.Slot.{Slot}
use Rattle.zk_table.specs.declared.slot.Stored.{Stored}
use Rattle.zk_table.specs.Slots.{Ascends, stored_numbered, without_holes}

-- Numbers ----------------------------------------------------------------------------------------------------------

pub eqb-refl : (n : ℕ) → (n == n) ≡ true
eqb-refl n = (Decides-eqb n n).1 refl

pub eqb-apart : (a b : ℕ) → (a ≡ b → ⊥) → (a == b) ≡ false
eqb-apart a b apart = by (a == b) refl
  where
    by : (t : Bool) → (a == b) ≡ t → (a == b) ≡ false
    by true e = absurd (apart ((Decides-eqb a b).0 e))
    by false e = e

-- Order ------------------------------------------------------------------------------------------------------------

pub ascends-up : (from : ℕ) (slots : List Slot) (below : ℕ) → Ascends from slots below → from ≤ below
ascends-up from [] below up = up
ascends-up from (slot ∷ slots) below up = omega (arith, up.0, ascends-up (suc slot.order) slots below up.1)

pub ascends-less : (less from : ℕ) (slots : List Slot) (below : ℕ) → less ≤ from → Ascends from slots below → Ascends less slots below
ascends-less less from [] below le up = omega (arith, le, up)
ascends-less less from (slot ∷ slots) below le up = (omega (arith, le, up.0), up.1)

pub ascends-more : (from : ℕ) (slots : List Slot) (below more : ℕ) → below ≤ more → Ascends from slots below → Ascends from slots more
ascends-more from [] below more le up = omega (arith, le, up)
ascends-more from (slot ∷ slots) below more le up = (up.0, ascends-more (suc slot.order) slots below more le up.1)

-- the order number in a place
pub ascends-at : (from : ℕ) (slots : List Slot) (below place : ℕ) (slot : Slot) → Ascends from slots below → slice_get slots place ≡ Some slot → from ≤ slot.order
ascends-at from [] below place slot up is = cc
ascends-at from (first ∷ slots) below zero slot up is = subst (λ s. from ≤ s.order) (same_slot first slot is) up.0
  where
    same_slot : (x y : Slot) → Some x ≡ Some y → x ≡ y
    same_slot x y e = cc
ascends-at from (first ∷ slots) below (suc place) slot up is =
    omega (arith, up.0, ascends-at (suc first.order) slots below place slot up.1 is)

pub ascends-set : (from : ℕ) (slots : List Slot) (below place : ℕ) (slot new : Slot) → Ascends from slots below → slice_get slots place ≡ Some slot → new.order ≡ slot.order
    → Ascends from (set slots place new) below
ascends-set from [] below place slot new up is same = up
ascends-set from (first ∷ slots) below zero slot new up is same =
    let e : first.order ≡ new.order = same_order first slot is ∙ sym same in
    subst (λ n. (from ≤ n) × Ascends (suc n) slots below) e up
  where
    same_order : (x y : Slot) → Some x ≡ Some y → x.order ≡ y.order
    same_order x y e = cc
ascends-set from (first ∷ slots) below (suc place) slot new up is same =
    (up.0, ascends-set (suc first.order) slots below place slot new up.1 is same)

pub ascends-push : (from : ℕ) (slots : List Slot) (below : ℕ) (new : Slot) → Ascends from slots below → new.order ≡ below → Ascends from (slots ++ new ∷ []) (suc below)
ascends-push from [] below new up same = (omega (arith, up, same), omega (arith, same))
ascends-push from (slot ∷ slots) below new up same = (up.0, ascends-push (suc slot.order) slots below new up.1 same)

pub ascends-without_holes : (from : ℕ) (slots : List Slot) (below : ℕ) → Ascends from slots below → Ascends from (without_holes slots) below
unfolding without_holes
ascends-without_holes from [] below up = up
ascends-without_holes from (slot ∷ slots) below up = by (is_some slot.entry) (ascends-without_holes (suc slot.order) slots below up.1)
  where
    by : (t : Bool) → Ascends (suc slot.order) (without_holes slots) below → Ascends from (cond t (slot ∷ without_holes slots) (without_holes slots)) below
    by true others = (up.0, others)
    by false others = ascends-less from (suc slot.order) (without_holes slots) below (omega (arith, up.0)) others

-- What is kept -----------------------------------------------------------------------------------------------------

-- nothing is kept under lower numbers
pub numbered-under : (order from : ℕ) (slots : List Slot) (below : ℕ) → Ascends from slots below → order < from → stored_numbered order slots ≡ None
unfolding stored_numbered
numbered-under order from [] below up less = refl
numbered-under order from (slot ∷ slots) below up less =
    ap (λ t. cond t slot.entry (stored_numbered order slots)) (eqb-apart order slot.order (λ e. omega (arith, e, less, up.0)))
    ∙ numbered-under order (suc slot.order) slots below up.1 (omega (arith, less, up.0))

-- nor under higher ones
pub numbered-over : (order from : ℕ) (slots : List Slot) (below : ℕ) → Ascends from slots below → below ≤ order → stored_numbered order slots ≡ None
unfolding stored_numbered
numbered-over order from [] below up over = refl
numbered-over order from (slot ∷ slots) below up over =
    ap (λ t. cond t slot.entry (stored_numbered order slots))
    (eqb-apart order slot.order (λ e. omega (arith, e, over, ascends-up (suc slot.order) slots below up.1)))
    ∙ numbered-over order (suc slot.order) slots below up.1 over

-- what is in a place
pub numbered-at : (from : ℕ) (slots : List Slot) (below place : ℕ) (slot : Slot) → Ascends from slots below → slice_get slots place ≡ Some slot
    → stored_numbered slot.order slots ≡ slot.entry
unfolding stored_numbered
numbered-at from [] below place slot up is = cc
numbered-at from (first ∷ slots) below zero slot up is =
    let e : first ≡ slot = same_slot first slot is in
    ap (λ t. cond t first.entry (stored_numbered slot.order slots)) (ap (λ (s : Slot). slot.order == s.order) e ∙ eqb-refl slot.order)
    ∙ ap (λ (s : Slot). s.entry) e
  where
    same_slot : (x y : Slot) → Some x ≡ Some y → x ≡ y
    same_slot x y e = cc
numbered-at from (first ∷ slots) below (suc place) slot up is =
    ap (λ t. cond t first.entry (stored_numbered slot.order slots))
    (eqb-apart slot.order first.order (λ e. omega (arith, e, ascends-at (suc first.order) slots below place slot up.1 is)))
    ∙ numbered-at (suc first.order) slots below place slot up.1 is

-- another entry in a place
pub numbered-set : (order from : ℕ) (slots : List Slot) (below place : ℕ) (slot new : Slot) → Ascends from slots below → slice_get slots place ≡ Some slot → new.order ≡ slot.order
    → stored_numbered order (set slots place new) ≡ cond (order == new.order) new.entry (stored_numbered order slots)
unfolding stored_numbered
numbered-set order from [] below place slot new up is same = cc
numbered-set order from (first ∷ slots) below zero slot new up is same =
    let e : first.order ≡ new.order = same_order first slot is ∙ sym same in
    by (order == new.order) refl (ap (λ n. order == n) e)
  where
    same_order : (x y : Slot) → Some x ≡ Some y → x.order ≡ y.order
    same_order x y e = cc

    by : (t : Bool) → (order == new.order) ≡ t → (order == first.order) ≡ (order == new.order)
        → cond (order == new.order) new.entry (stored_numbered order slots)
        ≡ cond (order == new.order) new.entry (cond (order == first.order) first.entry (stored_numbered order slots))
    by true t e = ap (λ b. cond b new.entry (stored_numbered order slots)) t
        ∙ sym (ap (λ b. cond b new.entry (cond (order == first.order) first.entry (stored_numbered order slots))) t)
    by false t e = ap (λ b. cond (order == new.order) new.entry (cond b first.entry (stored_numbered order slots))) (sym (e ∙ t))
numbered-set order from (first ∷ slots) below (suc place) slot new up is same =
    ap (λ o. cond (order == first.order) first.entry o) (numbered-set order (suc first.order) slots below place slot new up.1 is same)
    ∙ swap (order == first.order) refl
  where
    swap : (t : Bool) → (order == first.order) ≡ t
        → cond (order == first.order) first.entry (cond (order == new.order) new.entry (stored_numbered order slots))
        ≡ cond (order == new.order) new.entry (cond (order == first.order) first.entry (stored_numbered order slots))
    swap true t =
        let is_first : order ≡ first.order = (Decides-eqb order first.order).0 t in
        let other : (order == new.order) ≡ false = eqb-apart order new.order
        (λ e. omega (arith, e, same, is_first, ascends-at (suc first.order) slots below place slot up.1 is)) in
        ap (λ b. cond (order == first.order) first.entry (cond b new.entry (stored_numbered order slots))) other
        ∙ sym (ap (λ b. cond b new.entry (cond (order == first.order) first.entry (stored_numbered order slots))) other)
    swap false t = ap (λ b. cond b first.entry (cond (order == new.order) new.entry (stored_numbered order slots))) t
        ∙ sym (ap (λ b. cond (order == new.order) new.entry (cond b first.entry (stored_numbered order slots))) t)

-- another insertion
pub numbered-push : (order from : ℕ) (slots : List Slot) (below : ℕ) (new : Slot) → Ascends from slots below → new.order ≡ below
    → stored_numbered order (slots ++ new ∷ []) ≡ cond (order == new.order) new.entry (stored_numbered order slots)
unfolding stored_numbered
numbered-push order from [] below new up same = refl
numbered-push order from (first ∷ slots) below new up same =
    ap (λ o. cond (order == first.order) first.entry o) (numbered-push order (suc first.order) slots below new up.1 same)
    ∙ swap (order == first.order) refl
  where
    swap : (t : Bool) → (order == first.order) ≡ t
        → cond (order == first.order) first.entry (cond (order == new.order) new.entry (stored_numbered order slots))
        ≡ cond (order == new.order) new.entry (cond (order == first.order) first.entry (stored_numbered order slots))
    swap true t =
        let is_first : order ≡ first.order = (Decides-eqb order first.order).0 t in
        let other : (order == new.order) ≡ false = eqb-apart order new.order
        (λ e. omega (arith, e, same, is_first, ascends-up (suc first.order) slots below up.1)) in
        ap (λ b. cond (order == first.order) first.entry (cond b new.entry (stored_numbered order slots))) other
        ∙ sym (ap (λ b. cond b new.entry (cond (order == first.order) first.entry (stored_numbered order slots))) other)
    swap false t = ap (λ b. cond b first.entry (cond (order == new.order) new.entry (stored_numbered order slots))) t
        ∙ sym (ap (λ b. cond (order == new.order) new.entry (cond b first.entry (stored_numbered order slots))) t)

-- holes keep nothing
pub numbered-without_holes : (order from : ℕ) (slots : List Slot) (below : ℕ) → Ascends from slots below
    → stored_numbered order (without_holes slots) ≡ stored_numbered order slots
unfolding stored_numbered without_holes
numbered-without_holes order from [] below up = refl
numbered-without_holes order from (slot ∷ slots) below up = by slot.entry refl (numbered-without_holes order (suc slot.order) slots below up.1)
  where
    none : (order == slot.order) ≡ true → stored_numbered order slots ≡ None
    none t = numbered-under order (suc slot.order) slots below up.1 (let e = (Decides-eqb order slot.order).0 t in omega (arith, e))

    by_order : (t : Bool) → (order == slot.order) ≡ t → stored_numbered order slots ≡ cond t None (stored_numbered order slots)
    by_order true t = none t
    by_order false t = refl

    by : (entry : Option Stored) → slot.entry ≡ entry → stored_numbered order (without_holes slots) ≡ stored_numbered order slots
        → stored_numbered order (cond (is_some slot.entry) (slot ∷ without_holes slots) (without_holes slots))
        ≡ cond (order == slot.order) slot.entry (stored_numbered order slots)
    by None e others =
        ap (λ o. stored_numbered order (cond (is_some o) (slot ∷ without_holes slots) (without_holes slots))) e
        ∙ others ∙ by_order (order == slot.order) refl ∙ ap (λ o. cond (order == slot.order) o (stored_numbered order slots)) (sym e)
    by (Some stored) e others =
        ap (λ o. stored_numbered order (cond (is_some o) (slot ∷ without_holes slots) (without_holes slots))) e
        ∙ ap (λ o. cond (order == slot.order) slot.entry o) others

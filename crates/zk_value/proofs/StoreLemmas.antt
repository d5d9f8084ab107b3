-- The slots of a store, the objects that they are, and the places of sets and tables among these.
use Rattle.std.proofs.Common.{◌≡◌, ℕ, zero, suc, ◌≤◌, ◌<◌, List, [], ◌∷◌, ◌++◌, length, map, Option, Some, None, slice_get, slice_set, refl, sym, ap, subst, ◌∙◌, arith, ◌+◌}
use Rattle.std.specs.Option.{option_map}
use Rattle.std.specs.Prelude.{IfSome}
use Rattle.std.proofs.lemmas.Option.{none-some, same_Some}
use Rattle.std.proofs.lemmas.List.{length-map}
use Rattle.zk_tree.specs.Store.{Object}
use Rattle.zk_value.specs.declared.store.Slot.{Slot}
use Rattle.zk_value.specs.declared.store.Slot.TheVariants.{Record, Vector, Table}
use Rattle.zk_value.specs.Objects.{Objects, place_from, table_place, change_object}
use Rattle.zk_value.specs.Slots.{object_of, place_of, objects_of, PlacesFrom}

-- Places -----------------------------------------------------------------------------------------------------------

place_at : (before : ℕ) (slots : List Slot) (next : ℕ) (i : ℕ) → PlacesFrom before slots next
    → IfSome (slice_get slots i) (λ slot. place_of slot ≡ place_from before (objects_of slots) i)
place_at before [] next i kept = tt
place_at before (Record of fields ∷ slots) next zero kept = refl
place_at before (Vector items ∷ slots) next zero kept = refl
place_at before (Table place ∷ slots) next zero kept = ap Some kept.0
place_at before (Record of fields ∷ slots) next (suc i) kept = place_at before slots next i kept
place_at before (Vector items ∷ slots) next (suc i) kept = place_at before slots next i kept
place_at before (Table place ∷ slots) next (suc i) kept = place_at (suc before) slots next i kept.1

-- the place of a slot is that of its object
pub place_of-slot : (slots : List Slot) (next i : ℕ) (slot : Slot) → PlacesFrom 0 slots next → slice_get slots i ≡ Some slot
    → place_of slot ≡ table_place (objects_of slots) i
place_of-slot slots next i slot kept e =
    subst (λ found. IfSome found (λ one. place_of one ≡ table_place (objects_of slots) i)) e (place_at 0 slots next i kept)

-- a slot behind the others that is no set or table
pub PlacesFrom-object : (before : ℕ) (slots : List Slot) (next : ℕ) (slot : Slot) → place_of slot ≡ None → PlacesFrom before slots next
    → PlacesFrom before (slots ++ slot ∷ []) next
PlacesFrom-object before [] next (Record of fields) plain kept = kept
PlacesFrom-object before [] next (Vector items) plain kept = kept
PlacesFrom-object before [] next (Table place) plain kept = absurd (none-some place (sym plain))
PlacesFrom-object before (Record of fields ∷ slots) next slot plain kept = PlacesFrom-object before slots next slot plain kept
PlacesFrom-object before (Vector items ∷ slots) next slot plain kept = PlacesFrom-object before slots next slot plain kept
PlacesFrom-object before (Table place ∷ slots) next slot plain kept = (kept.0, PlacesFrom-object (suc before) slots next slot plain kept.1)

-- a set or table behind the others
pub PlacesFrom-table : (before : ℕ) (slots : List Slot) (next : ℕ) → PlacesFrom before slots next → PlacesFrom before (slots ++ Table next ∷ []) (suc next)
PlacesFrom-table before [] next kept = (sym kept, ap suc kept)
PlacesFrom-table before (Record of fields ∷ slots) next kept = PlacesFrom-table before slots next kept
PlacesFrom-table before (Vector items ∷ slots) next kept = PlacesFrom-table before slots next kept
PlacesFrom-table before (Table place ∷ slots) next kept = (kept.0, PlacesFrom-table (suc before) slots next kept.1)

-- there are no more sets and tables than slots
pub PlacesFrom-few : (before : ℕ) (slots : List Slot) (next : ℕ) → PlacesFrom before slots next → next ≤ before + length slots
PlacesFrom-few before [] next kept = omega arith
PlacesFrom-few before (Record of fields ∷ slots) next kept = omega (arith, PlacesFrom-few before slots next kept)
PlacesFrom-few before (Vector items ∷ slots) next kept = omega (arith, PlacesFrom-few before slots next kept)
PlacesFrom-few before (Table place ∷ slots) next kept = omega (arith, PlacesFrom-few (suc before) slots next kept.1)

-- a slot that changes and stays at its place
pub PlacesFrom-set : (before : ℕ) (slots : List Slot) (next i : ℕ) (slot new : Slot) → slice_get slots i ≡ Some slot → place_of new ≡ place_of slot
    → PlacesFrom before slots next → PlacesFrom before (slice_set slots i new) next
PlacesFrom-set before [] next i slot new there same kept = kept
PlacesFrom-set before (first ∷ slots) next zero slot new there same kept =
    at_front first new (same ∙ ap place_of (sym (same_Some first slot there))) kept
  where
    at_front : (first new : Slot) → place_of new ≡ place_of first → PlacesFrom before (first ∷ slots) next → PlacesFrom before (new ∷ slots) next
    at_front (Record of fields) (Record of' fields') same kept = kept
    at_front (Record of fields) (Vector items) same kept = kept
    at_front (Record of fields) (Table place) same kept = absurd (none-some place (sym same))
    at_front (Vector items) (Record of fields) same kept = kept
    at_front (Vector items) (Vector items') same kept = kept
    at_front (Vector items) (Table place) same kept = absurd (none-some place (sym same))
    at_front (Table place) (Record of fields) same kept = absurd (none-some place same)
    at_front (Table place) (Vector items) same kept = absurd (none-some place same)
    at_front (Table place) (Table place') same kept = (same_Some place' place same ∙ kept.0, kept.1)
PlacesFrom-set before (Record of fields ∷ slots) next (suc i) slot new there same kept = PlacesFrom-set before slots next i slot new there same kept
PlacesFrom-set before (Vector items ∷ slots) next (suc i) slot new there same kept = PlacesFrom-set before slots next i slot new there same kept
PlacesFrom-set before (Table place ∷ slots) next (suc i) slot new there same kept =
    (kept.0, PlacesFrom-set (suc before) slots next i slot new there same kept.1)

-- Changes ----------------------------------------------------------------------------------------------------------

-- an object is changed where its slot is
pub objects_of-set : (changed : Object → Object) (slots : List Slot) (i : ℕ) (slot new : Slot) → slice_get slots i ≡ Some slot
    → object_of new ≡ option_map changed (object_of slot) → objects_of (slice_set slots i new) ≡ change_object changed i (objects_of slots)
objects_of-set changed [] i slot new there same = refl
objects_of-set changed (first ∷ slots) zero slot new there same =
    ap (λ o. o ∷ objects_of slots) (same ∙ ap (λ s. option_map changed (object_of s)) (sym (same_Some first slot there)))
objects_of-set changed (first ∷ slots) (suc i) slot new there same = ap (λ os. object_of first ∷ os) (objects_of-set changed slots i slot new there same)

-- nothing is changed past the end
change_object-past : (changed : Object → Object) (objects : Objects) (i : ℕ) → length objects ≤ i → change_object changed i objects ≡ objects
change_object-past changed [] i past = refl
change_object-past changed (one ∷ objects) zero past = absurd (omega arith)
change_object-past changed (one ∷ objects) (suc i) past = ap (λ os. one ∷ os) (change_object-past changed objects i (omega arith))

pub past_objects : (changed : Object → Object) (slots : List Slot) (objects : Objects) (i : ℕ) → length slots ≤ i → objects_of slots ≡ objects
    → objects ≡ change_object changed i objects
past_objects changed slots objects i past e =
    sym e ∙ sym (change_object-past changed (objects_of slots) i (simp length-map past)) ∙ ap (change_object changed i) e

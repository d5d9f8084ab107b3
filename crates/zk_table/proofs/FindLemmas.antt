-- What the look-ups of a table find.
use Rattle.std.proofs.Common.{◌≡◌, ℕ, true, List, slice_get, Option, Some, None, refl, sym, ap, ◌∙◌}
use Rattle.std.specs.Prelude.{IfSome, IfNone}
use Rattle.std.specs.Option.{option_map, option_and_then}
use Rattle.zk_tree.specs.Table.{entry_at, entry_numbered}
use Rattle.zk_value.specs.Plain.{key_of}
use Rattle.zk_value.specs.contracts.key.KeyPartialEq.TheImpl as key_eq
use Rattle.zk_value.specs.declared.value.Value.{Value}
use Rattle.zk_table.specs.declared.entries.Entries.{Entries}
use Rattle.zk_table.specs.declared.slot.Slot.{Slot}
use Rattle.zk_table.specs.declared.slot.Stored.{Stored}
use Rattle.zk_table.specs.Kept.{IsKept, Found, Numbered, order_at}
use Rattle.zk_table.specs.Slots.{Ascends, entries_in, occupied, stored_numbered}
use Rattle.zk_table.proofs.KeptLemmas.{key_eq-Decides, numbered-none}
use Rattle.zk_table.proofs.SlotLemmas.{numbered-at}

no_number : {A : Type 0} {o : Option A} {a : A} → o ≡ None → o ≡ Some a → ⊥
no_number none some = cc

one : {A : Type 0} (a b : A) → Some a ≡ Some b → a ≡ b
one a b e = cc

abbrev order_in : List Slot → ℕ → Option ℕ
order_in slots place = option_map (λ (slot : Slot). slot.order) (slice_get slots place)

-- a slot of these parts
made : (slot : Slot) (order : ℕ) (stored : Stored) → slot.order ≡ order → slot.entry ≡ Some stored → slot ≡ occupied order stored
made slot order stored number entry =
    ap (λ n. let s : Slot = record { order = n; entry = slot.entry } in s) number
    ∙ ap (λ e. let s : Slot = record { order = order; entry = e } in s) entry

-- the place of an order number has what is kept under it
pub occupied-at : (slots : List Slot) (place order below : ℕ) (stored : Stored) → Ascends 0 slots below → order_in slots place ≡ Some order → stored_numbered order slots ≡ Some stored
    → slice_get slots place ≡ Some (occupied order stored)
occupied-at slots place order below stored up number numbered = by (slice_get slots place) refl
  where
    by : (o : Option Slot) → slice_get slots place ≡ o → slice_get slots place ≡ Some (occupied order stored)
    by None e = absurd (no_number (ap (option_map (λ (slot : Slot). slot.order)) e) number)
    by (Some slot) e =
        let is : slot.order ≡ order = one slot.order order (sym (ap (option_map (λ (s : Slot). s.order)) e) ∙ number) in
        let entry : slot.entry ≡ Some stored = sym (numbered-at 0 slots below place slot up e) ∙ ap (λ n. stored_numbered n slots) is ∙ numbered in
        e ∙ ap (λ s. Some s) (made slot order stored is entry)

pub find-found : (entries : Entries) (key : List Value) (order : ℕ) (r : Option ℕ) → order_at entries key ≡ Some order
    → IfSome r (λ place. order_in entries.slots.items place ≡ Some order) → IfSome r (λ place. IsKept entries → Found entries key place)
find-found entries key order None at is = tt
find-found entries key order (Some place) at is = λ kept.
    let found = kept.found key order at in
    record { order = order; stored = found.0; there = occupied-at entries.slots.items place order entries.insertions found.0 kept.ascends is found.1; key_is = found.2 }

pub find-none : (entries : Entries) (key : List Value) (order : ℕ) (r : Option ℕ) → order_at entries key ≡ Some order
    → IfNone r ((from below : ℕ) → Ascends from entries.slots.items below → stored_numbered order entries.slots.items ≡ None)
    → IfNone r (IsKept entries → entry_at (key_of key) (entries_in entries.slots.items) ≡ None)
find-none entries key order (Some place) at is = tt
find-none entries key order None at is = λ kept.
    let found = kept.found key order at in
    absurd (no_number (is 0 entries.insertions kept.ascends) found.1)

abbrev stored_in : List Slot → ℕ → Option Stored
stored_in slots place = option_and_then (λ (slot : Slot). slot.entry) (slice_get slots place)

-- the slot of an order number has an entry
pub place-numbered-some : (entries : Entries) (order place : ℕ) (stored : Stored) → order_in entries.slots.items place ≡ Some order → Some stored ≡ stored_in entries.slots.items place
    → Numbered entries order place
place-numbered-some entries order place stored number is = by (slice_get entries.slots.items place) refl
  where
    by : (o : Option Slot) → slice_get entries.slots.items place ≡ o → Numbered entries order place
    by None e = absurd (no_number (ap (option_map (λ (slot : Slot). slot.order)) e) number)
    by (Some slot) e = record {
      stored = stored;
      there = e ∙ ap (λ s. Some s) (made slot order stored
          (one slot.order order (sym (ap (option_map (λ (s : Slot). s.order)) e) ∙ number))
          (sym (is ∙ ap (option_and_then (λ (s : Slot). s.entry)) e)));
    }

-- or has none
pub place-numbered-none : (entries : Entries) (order place : ℕ) → order_in entries.slots.items place ≡ Some order → None ≡ stored_in entries.slots.items place
    → IsKept entries → entry_numbered order (entries_in entries.slots.items) ≡ None
place-numbered-none entries order place number is kept = numbered-none entries kept order (by (slice_get entries.slots.items place) refl)
  where
    by : (o : Option Slot) → slice_get entries.slots.items place ≡ o → stored_numbered order entries.slots.items ≡ None
    by None e = absurd (no_number (ap (option_map (λ (slot : Slot). slot.order)) e) number)
    by (Some slot) e =
        let number_is : slot.order ≡ order = one slot.order order (sym (ap (option_map (λ (s : Slot). s.order)) e) ∙ number) in
        ap (λ n. stored_numbered n entries.slots.items) (sym number_is)
        ∙ numbered-at 0 entries.slots.items entries.insertions place slot kept.ascends e
        ∙ sym (is ∙ ap (option_and_then (λ (s : Slot). s.entry)) e)

-- an entry in a place that has the key is the key's
pub found-at : (entries : Entries) (key : List Value) (place : ℕ) (stored : Stored) → Some stored ≡ stored_in entries.slots.items place → (key_eq.ghosts).eq stored.key key ≡ true
    → Found entries key place
found-at entries key place stored is same = by (slice_get entries.slots.items place) refl
  where
    by : (o : Option Slot) → slice_get entries.slots.items place ≡ o → Found entries key place
    by None e = absurd (no_number (ap (option_and_then (λ (s : Slot). s.entry)) e) (sym is))
    by (Some slot) e = record {
      order = slot.order;
      stored = stored;
      there = e ∙ ap (λ s. Some s) (made slot slot.order stored refl (sym (is ∙ ap (option_and_then (λ (s : Slot). s.entry)) e)));
      key_is = (key_eq-Decides stored.key key).0 same;
    }

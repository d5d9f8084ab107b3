-- The slots of a table: its insertions in their order, each with its entry while that is there.
use Rattle.std.specs.Prelude.{ℕ, suc, ◌≤◌, ◌==◌, if◌then◌else◌, List, [], ◌∷◌, filter, slice_get, Option, Some, None, is_some}
use Rattle.std.specs.List.{filter_map}
use Rattle.std.specs.Option.{option_map, option_and_then}
use Rattle.zk_base.specs.declared.time.Moment.{Moment}
use Rattle.zk_base.specs.declared.time.Span.{Span}
use Rattle.zk_tree.specs.Table.{Entry, moment_after, turn_of}
use Rattle.zk_value.specs.Plain.{key_of, value_of}
use Rattle.zk_value.specs.declared.value.Value.{Value}
use Rattle.zk_table.specs.declared.slot.Slot.{Slot}
use Rattle.zk_table.specs.declared.slot.Stored.{Stored}

-- the entry that an insertion of this order number made
abbrev pub entry_of : ℕ → Stored → Entry
entry_of order stored = record {
  order = order;
  key = key_of stored.key;
  value = value_of stored.value;
  since = stored.since;
  due = stored.due;
}

-- the entry in a slot
abbrev pub entry_in : Slot → Option Entry
entry_in slot = option_map (entry_of slot.order) slot.entry

-- the entries that are there, in the order of insertion
unfoldable pub entries_in : List Slot → List Entry
entries_in slots = filter_map entry_in slots

-- the order numbers rise from this one on, and stay below that one
abbrev pub Ascends : ℕ → List Slot → ℕ → Type 0
Ascends from [] below = from ≤ below
Ascends from (slot ∷ slots) below = (from ≤ slot.order) × Ascends (suc slot.order) slots below

-- the turn of the entry in a slot
abbrev pub turn_in : Slot → Option (Moment × ℕ)
turn_in slot = option_and_then turn_of (entry_in slot)

-- the turn of the entry in a place
abbrev pub turn_at : List Slot → ℕ → Option (Moment × ℕ)
turn_at slots place = option_and_then turn_in (slice_get slots place)

-- a slot with an entry
abbrev pub occupied : ℕ → Stored → Slot
occupied order stored = record { order = order; entry = Some stored }

-- a slot without
abbrev pub hole : ℕ → Slot
hole order = record { order = order; entry = None }

-- what is kept under an order number
unfoldable pub stored_numbered : ℕ → List Slot → Option Stored
stored_numbered order [] = None
stored_numbered order (slot ∷ slots) = if order == slot.order then slot.entry else stored_numbered order slots

-- the slots that have an entry
unfoldable pub without_holes : List Slot → List Slot
without_holes slots = filter (λ slot. is_some slot.entry) slots

abbrev pub with_value : Value → Stored → Stored
with_value value stored = record stored { value = value }

abbrev pub with_moment : Moment → Option Moment → Stored → Stored
with_moment since due stored = record stored { since = since; due = due }

abbrev pub later_due : Span → Stored → Stored
later_due wait stored = record stored { due = option_map (λ due. moment_after stored.since wait) stored.due }

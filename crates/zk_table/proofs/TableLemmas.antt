-- The calls on a table, from what became of its entries.
use Rattle.std.proofs.Common.{◌≡◌, ℕ, ◌<◌, Bool, true, false, cond, pos, List, length, slice_get, Some, refl, sym, ap, subst, ◌∙◌}
use Rattle.std.specs.Option.{option_and_then}
use Rattle.std.specs.Prelude.{int_lt}
use Rattle.std.proofs.lemmas.Option.{slice_get_within}
use Rattle.zk_base.specs.declared.time.Moment.{Moment}
use Rattle.zk_base.specs.declared.time.Span.{Span}
use Rattle.zk_tree.specs.Table as plain
use Rattle.zk_tree.specs.Table.{due_from, entry_at, entry_numbered, put_off, with_entries, with_entry, without}
use Rattle.zk_value.specs.Plain.{key_of}
use Rattle.zk_value.specs.declared.value.Value.{Value}
use Rattle.zk_table.specs.declared.entries.Entries.{Entries}
use Rattle.zk_table.specs.declared.slot.Slot.{Slot}
use Rattle.zk_table.specs.declared.slot.Stored.{Stored}
use Rattle.zk_table.specs.Kept.{IsKept, Found, Numbered, Rewrites, Becomes, table_in}
use Rattle.zk_table.specs.Slots.{entries_in, entry_of, occupied, stored_numbered, with_moment, later_due}
use Rattle.zk_table.proofs.ChangeLemmas.{is_some-due_from, still_due}
use Rattle.zk_table.proofs.KeptLemmas.{numbered-entry, place-numbered, present, rewritten}

module _ (old : Entries) (key : List Value) (place : ℕ) (kept : IsKept old) (found : Found old key place) where
  numbered : stored_numbered found.order old.slots.items ≡ Some found.stored
  numbered = place-numbered old kept place found.order found.stored found.there

  pub found-entry : entry_at (key_of key) (entries_in old.slots.items) ≡ Some (entry_of found.order found.stored)
  found-entry = present old kept key found.order found.stored numbered found.key_is

  pub removed-found : (new : Entries)
      → ((order : ℕ) → IsKept old → Numbered old order place → Becomes new (with_entries (without order (table_in old).entries) (table_in old)))
      → Becomes new (plain.remove (key_of key) (table_in old))
  removed-found new removes =
      subst (Becomes new) (sym (ap (plain.remove_at (table_in old)) found-entry))
      (removes found.order kept (record { stored = found.stored; there = found.there }))

  pub renewed-found : (new : Entries) (now : Moment)
      → ((order : ℕ) (stored : Stored) → slice_get old.slots.items place ≡ Some (occupied order stored) → Rewrites old new place order (with_moment now (due_from old.expiry now) stored))
      → Becomes new (plain.renew now (key_of key) (table_in old))
  renewed-found new now renews =
      subst (Becomes new) (sym (ap (plain.renew_at now (table_in old)) found-entry))
      (rewritten old new kept place found.order found.stored (with_moment now (due_from old.expiry now) found.stored) found.there
      (renews found.order found.stored found.there) refl (is_some-due_from old.expiry now))

  pub found-within : place < length old.slots.items
  found-within = slice_get_within old.slots.items place (occupied found.order found.stored) found.there

module _ (old : Entries) (order place : ℕ) (wait : Span) (kept : IsKept old) (here : Numbered old order place) where
  pub numbered-found : entry_numbered order (entries_in old.slots.items) ≡ Some (entry_of order here.stored)
  numbered-found = numbered-entry old kept order here.stored (place-numbered old kept place order here.stored here.there)

  abbrev both_ways : Bool → plain.Table
  both_ways later = cond later
      (with_entries (with_entry (put_off wait (entry_of order here.stored)) (entries_in old.slots.items)) (table_in old))
      (with_entries (without order (entries_in old.slots.items)) (table_in old))

  expire-is : plain.expire order wait (table_in old) ≡ both_ways (int_lt (pos 0) wait.0)
  expire-is = ap (plain.expire_at wait (table_in old)) numbered-found

  pub expired-later : (new : Entries)
      → ((number : ℕ) (stored : Stored) → slice_get old.slots.items place ≡ Some (occupied number stored) → Rewrites old new place number (later_due wait stored))
      → int_lt (pos 0) wait.0 ≡ true → Becomes new (plain.expire order wait (table_in old))
  expired-later new puts_off later =
      subst (Becomes new) (sym (expire-is ∙ ap both_ways later))
      (rewritten old new kept place order here.stored (later_due wait here.stored) here.there (puts_off order here.stored here.there) refl
      (still_due here.stored.due _ ∙ kept.dues order here.stored (place-numbered old kept place order here.stored here.there)))

  pub expired-now : (new : Entries)
      → ((number : ℕ) → IsKept old → Numbered old number place → Becomes new (with_entries (without number (table_in old).entries) (table_in old)))
      → int_lt (pos 0) wait.0 ≡ false → Becomes new (plain.expire order wait (table_in old))
  expired-now new removes now = subst (Becomes new) (sym (expire-is ∙ ap both_ways now)) (removes order kept here)

  pub numbered-within : place < length old.slots.items
  numbered-within = slice_get_within old.slots.items place (occupied order here.stored) here.there

-- what is lent of a place is what stands there
pub lent-stored : (entries : Entries) (place order : ℕ) (stored lent : Stored) → slice_get entries.slots.items place ≡ Some (occupied order stored)
    → Some lent ≡ option_and_then (λ (slot : Slot). slot.entry) (slice_get entries.slots.items place) → lent ≡ stored
lent-stored entries place order stored lent there shown = one (shown ∙ ap (option_and_then (λ (slot : Slot). slot.entry)) there)
  where
    one : Some lent ≡ Some stored → lent ≡ stored
    one e = cc

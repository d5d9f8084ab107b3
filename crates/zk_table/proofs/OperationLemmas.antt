-- The operations on the entries of a table, from what their parts did.
use Rattle.std.proofs.Common.{◌≡◌, ◌==◌, ℕ, suc, ◌+◌, ◌-◌, ◌<◌, ◌≤◌, min, Bool, true, false, cond, List, [], ◌∷◌, ◌++◌, length, slice_get, Option, Some, None, is_some, IsSome, refl, sym, ap, subst, ◌∙◌, arith, true≢false}
use Rattle.std.specs.Option.{option_map, option_and_then}
use Rattle.std.proofs.Math.ListN.{set}
use Rattle.std.proofs.lemmas.Option.{slice_get_past}
use Rattle.indexmap.specs.IndexMap as keyed
use Rattle.zk_base.specs.declared.time.Moment.{Moment}
use Rattle.zk_tree.specs.declared.expiry.Expiry.{Expiry}
use Rattle.zk_tree.specs.Table as plain
use Rattle.zk_tree.specs.Table.{Entry, assigned, due_from, entry_at, renewed, renews, with_entries, with_entry}
use Rattle.zk_value.specs.Plain.{key_of, value_of}
use Rattle.zk_value.specs.contracts.key.KeyPartialEq.TheImpl as key_eq
use Rattle.zk_value.specs.declared.value.Value.{Value}
use Rattle.zk_table.specs.declared.entries.Entries.{Entries}
use Rattle.zk_table.specs.declared.slot.Slot.{Slot}
use Rattle.zk_table.specs.declared.slot.Stored.{Stored}
use Rattle.zk_table.specs.Index.{AllBut, IsTree}
use Rattle.zk_table.specs.Kept.{IsKept, Found, Rewrites, Empties, Adds, Widens, Becomes, order_at, table_in}
use Rattle.zk_table.specs.Slots.{Ascends, entries_in, entry_of, occupied, hole, stored_numbered, turn_at, turn_in, with_moment, with_value, without_holes}
use Rattle.zk_table.proofs.ChangeLemmas.{is_some-due_from}
use Rattle.zk_table.proofs.EntryLemmas.{entries-without_holes, length-empty}
use Rattle.zk_table.proofs.KeptLemmas.{added, absent-order, kept_same, place-numbered, present, rewritten}
use Rattle.zk_table.proofs.SlotLemmas.{ascends-without_holes, eqb-refl, numbered-at, numbered-without_holes}
use Rattle.zk_table.proofs.TurnLemmas.{first_due-turn, turn_at-set_other, turn_at-set_same, tree-changed, slice_get-push_other, slice_get-push_same, slice_get-set_same}

no_value : {A : Type 0} {o : Option A} {a : A} → o ≡ None → o ≡ Some a → ⊥
no_value none some = cc

-- No entries -------------------------------------------------------------------------------------------------------

pub kept-new : (entries : Entries) → entries.slots.items ≡ [] → entries.firsts.items ≡ [] → ((key : List Value) → order_at entries key ≡ None) → entries.live ≡ 0
    → IsKept entries
unfolding entries_in stored_numbered
kept-new entries no_slots no_firsts no_orders no_live = record {
  ascends = subst (λ xs. plain_ascends xs) (sym no_slots) (omega arith);
  found = λ key order e. absurd (no_value (no_orders key) e);
  kept = λ order stored numbered. absurd (no_value (ap (stored_numbered order) no_slots) numbered);
  dues = λ order stored numbered. absurd (no_value (ap (stored_numbered order) no_slots) numbered);
  tree = record {
    nodes = λ place within. absurd (none_within place (ap length no_firsts) within);
    beyond = λ place past. ap (λ xs. turn_at xs place) no_slots ∙ no_turn place;
  };
  covers = λ expires. let none = ap (λ (xs : List Slot). length xs) no_slots in omega (arith, none);
  live = no_live ∙ sym (ap (λ xs. length (entries_in xs)) no_slots);
}
  where
    plain_ascends : List Slot → Type 0
    plain_ascends xs = Ascends 0 xs entries.insertions

    none_within : {n : ℕ} (place : ℕ) → n ≡ 0 → place < n → ⊥
    none_within place none within = omega (arith, none, within)

    no_turn : (place : ℕ) → turn_at [] place ≡ None
    no_turn place = refl

-- Room -------------------------------------------------------------------------------------------------------------

pub widened : (old new : Entries) → IsKept old → Widens old new → Becomes new (table_in old)
unfolding order_at
widened old new kept widens = kept_same old new kept
    (subst (λ xs. Ascends 0 xs new.insertions) (sym widens.slots)
    (subst (λ n. Ascends 0 old.slots.items n) (sym widens.insertions) kept.ascends))
    (λ order. ap (stored_numbered order) widens.slots)
    (ap entries_in widens.slots)
    (λ key. ap (λ m. keyed.get ((key_eq.ghosts).eq) m key) widens.orders)
    widens.expiry widens.insertions widens.live (widens.tree kept)
    (λ expires.
    let wide = kept.covers (subst (λ o. IsSome o) widens.expiry expires) in
    let same = ap (λ (xs : List Slot). length xs) widens.slots in
    let long = widens.long in
    omega (arith, wide, same, long))

-- an insertion that was refused after that
pub refused : (old mid new : Entries) → IsKept old → Widens old mid → new.slots.items ≡ mid.slots.items → ((key : List Value) → order_at new key ≡ order_at mid key)
    → new.expiry ≡ mid.expiry → new.insertions ≡ mid.insertions → new.live ≡ mid.live → new.firsts.items ≡ mid.firsts.items → Becomes new (table_in old)
refused old mid new kept widens slots orders expiry insertions live firsts =
    let before = widened old mid kept widens in
    let after = kept_same mid new before.kept
    (subst (λ xs. Ascends 0 xs new.insertions) (sym slots) (subst (λ n. Ascends 0 mid.slots.items n) (sym insertions) before.kept.ascends))
    (λ order. ap (stored_numbered order) slots) (ap entries_in slots) orders expiry insertions live
    (subst (λ xs. IsTree (turn_at xs) new.firsts.items) (sym slots) (subst (λ fs. IsTree (turn_at mid.slots.items) fs) (sym firsts) before.kept.tree))
    (λ expires.
    let wide = before.kept.covers (subst (λ o. IsSome o) expiry expires) in
    let same = ap (λ (xs : List Slot). length xs) slots in
    let long = ap (λ (xs : List (Option (Moment × ℕ))). length xs) firsts in
    omega (arith, wide, same, long)) in
    subst (Becomes new) before.is after

-- Holes ------------------------------------------------------------------------------------------------------------

pub shorter : (slots : List Slot) → length (without_holes slots) ≤ length slots
unfolding without_holes
shorter [] = omega arith
shorter (slot ∷ slots) = by (is_some slot.entry) (shorter slots)
  where
    by : (t : Bool) → length (without_holes slots) ≤ length slots → length (cond t (slot ∷ without_holes slots) (without_holes slots)) ≤ suc (length slots)
    by true le = omega (arith, le)
    by false le = omega (arith, le)

-- in a table without an expiry no place has a turn
no_turns : (old : Entries) (slots : List Slot) (below : ℕ) → IsKept old → old.expiry ≡ None → Ascends 0 slots below
    → ((order : ℕ) → stored_numbered order slots ≡ stored_numbered order old.slots.items) → (place : ℕ) → turn_at slots place ≡ None
no_turns old slots below kept none up same place = by (slice_get slots place) refl
  where
    no_due : (due : Option Moment) (order : ℕ) → is_some due ≡ false → option_map (λ (d : Moment). let t : Moment × ℕ = (d, order) in t) due ≡ None
    no_due None order e = refl
    no_due (Some due) order e = absurd (true≢false e)

    by_entry : (slot : Slot) → slice_get slots place ≡ Some slot → (entry : Option Stored) → slot.entry ≡ entry → turn_in slot ≡ None
    by_entry slot there None e = ap (λ o. option_and_then plain.turn_of (option_map (entry_of slot.order) o)) e
    by_entry slot there (Some stored) e =
        let numbered : stored_numbered slot.order old.slots.items ≡ Some stored = sym (same slot.order) ∙ numbered-at 0 slots below place slot up there ∙ e in
        ap (λ o. option_and_then plain.turn_of (option_map (entry_of slot.order) o)) e
        ∙ no_due stored.due slot.order (kept.dues slot.order stored numbered ∙ ap is_some none)

    by : (o : Option Slot) → slice_get slots place ≡ o → turn_at slots place ≡ None
    by None e = ap (option_and_then turn_in) e
    by (Some slot) e = ap (option_and_then turn_in) e ∙ by_entry slot e slot.entry refl

-- and there is no first due
pub never-first : (entries : Entries) → IsKept entries → entries.expiry ≡ None → plain.first_due (entries_in entries.slots.items) ≡ None
never-first entries kept none = by (plain.first_due (entries_in entries.slots.items)) refl
  where
    none-some : {turn : Moment × ℕ} {o : Option (Moment × ℕ)} → o ≡ None → o ≡ Some turn → ⊥
    none-some none some = cc

    by : (first : Option (Moment × ℕ)) → plain.first_due (entries_in entries.slots.items) ≡ first → plain.first_due (entries_in entries.slots.items) ≡ None
    by None is = is
    by (Some turn) is =
        let place = first_due-turn entries.slots.items turn is in
        absurd (none-some (no_turns entries entries.slots.items entries.insertions kept none kept.ascends (λ order. refl) place.0) place.1)

pub closed : (old new : Entries) → IsKept old → new.slots.items ≡ without_holes old.slots.items → new.orders ≡ old.orders → new.expiry ≡ old.expiry → new.insertions ≡ old.insertions
    → new.live ≡ old.live → length new.firsts.items ≡ min (length new.slots.items) (length old.firsts.items)
    → (((place : ℕ) → length new.firsts.items ≤ place → turn_at new.slots.items place ≡ None) → IsTree (turn_at new.slots.items) new.firsts.items)
    → Becomes new (table_in old)
unfolding order_at
closed old new kept slots orders expiry insertions live long rebuilt = kept_same old new kept up numbered entries
    (λ key. ap (λ m. keyed.get ((key_eq.ghosts).eq) m key) orders)
    expiry insertions live (rebuilt (past old.expiry refl))
    (λ expires.
    let wide = kept.covers (subst (λ o. IsSome o) expiry expires) in
    let less = shorter old.slots.items in
    let here = ap (λ (xs : List Slot). length xs) slots in
    omega (arith, wide, less, here, long))
  where
    up : Ascends 0 new.slots.items new.insertions
    up = subst (λ xs. Ascends 0 xs new.insertions) (sym slots)
        (subst (λ n. Ascends 0 (without_holes old.slots.items) n) (sym insertions) (ascends-without_holes 0 old.slots.items old.insertions kept.ascends))

    numbered : (order : ℕ) → stored_numbered order new.slots.items ≡ stored_numbered order old.slots.items
    numbered order = ap (stored_numbered order) slots ∙ numbered-without_holes order 0 old.slots.items old.insertions kept.ascends

    entries : entries_in new.slots.items ≡ entries_in old.slots.items
    entries = ap entries_in slots ∙ entries-without_holes old.slots.items

    past : (o : Option Expiry) → old.expiry ≡ o → (place : ℕ) → length new.firsts.items ≤ place → turn_at new.slots.items place ≡ None
    past None e place behind = no_turns old new.slots.items new.insertions kept e up numbered place
    past (Some how) e place behind =
        let wide = kept.covers (subst (λ o. IsSome o) (sym e) refl) in
        let less = shorter old.slots.items in
        let here = ap (λ (xs : List Slot). length xs) slots in
        ap (option_and_then turn_in) (slice_get_past new.slots.items place (omega (arith, wide, less, here, long, behind)))

-- Removal ----------------------------------------------------------------------------------------------------------

pub empties-from : (old new : Entries) (place order : ℕ) (was : Stored) → slice_get old.slots.items place ≡ Some (occupied order was)
    → new.slots.items ≡ set old.slots.items place (hole order)
    → ((key : List Value) → order_at new key ≡ cond ((key_eq.ghosts).eq was.key key) None (order_at old key))
    → new.expiry ≡ old.expiry → new.insertions ≡ old.insertions → new.live ≡ old.live - 1 → 0 < old.live → length new.firsts.items ≡ length old.firsts.items
    → (AllBut (turn_at new.slots.items) old.firsts.items place → IsTree (turn_at new.slots.items) new.firsts.items) → Empties old new place order was
empties-from old new place order was there slots orders expiry insertions live some long reorder = record {
  slots = slots;
  orders = orders;
  expiry = expiry;
  insertions = insertions;
  live = omega (arith, live, some);
  long = long;
  tree = λ kept. reorder (tree-changed (turn_at old.slots.items) (turn_at new.slots.items) old.firsts.items place
      (λ other apart. ap (λ xs. turn_at xs other) slots ∙ turn_at-set_other old.slots.items place (hole order) other apart)
      (λ past. ap (λ xs. turn_at xs place) slots ∙ turn_at-set_same old.slots.items place (occupied order was) (hole order) there)
      kept.tree);
}

-- where an entry stands in a place there is one
pub some-live : (old : Entries) (place order : ℕ) (was : Stored) → IsKept old → slice_get old.slots.items place ≡ Some (occupied order was) → 0 < old.live
some-live old place order was kept there =
    let one = length-empty old.slots.items place order was there in
    let live = kept.live in
    omega (arith, one, live)

-- Assignment -------------------------------------------------------------------------------------------------------

with_entry-twice : (first second : Entry) (entries : List Entry) → first.order ≡ second.order → with_entry second (with_entry first entries) ≡ with_entry second entries
unfolding with_entry
with_entry-twice first second [] same = refl
with_entry-twice first second (entry ∷ entries) same =
    ap (λ es. cond (second.order == (cond (first.order == entry.order) first entry).order) second (cond (first.order == entry.order) first entry) ∷ es) (with_entry-twice first second entries same)
    ∙ ap (λ e. e ∷ with_entry second entries) (by (first.order == entry.order) refl)
  where
    by : (t : Bool) → (first.order == entry.order) ≡ t
        → cond (second.order == (cond (first.order == entry.order) first entry).order) second (cond (first.order == entry.order) first entry) ≡ cond (second.order == entry.order) second entry
    by true t =
        ap (λ b. cond (second.order == (cond b first entry).order) second (cond b first entry)) t
        ∙ ap (λ b. cond b second first) (ap (λ n. n == first.order) (sym same) ∙ eqb-refl first.order)
        ∙ ap (λ b. cond b second entry) (sym (ap (λ n. n == entry.order) (sym same) ∙ t))
    by false t = ap (λ b. cond (second.order == (cond b first entry).order) second (cond b first entry)) t

module _ (old : Entries) (key : List Value) (place : ℕ) (now : Moment) (value : Value) (kept : IsKept old) (found : Found old key place) where
  there_numbered : stored_numbered found.order old.slots.items ≡ Some found.stored
  there_numbered = place-numbered old kept place found.order found.stored found.there

  abbrev was_entry : Entry
  was_entry = entry_of found.order found.stored

  insert-is : plain.insert now (key_of key) (value_of value) (table_in old) ≡ with_entries (with_entry (assigned old.expiry now (value_of value) was_entry) (entries_in old.slots.items)) (table_in old)
  insert-is = ap (plain.assign_at now (key_of key) (value_of value) (table_in old)) (present old kept key found.order found.stored there_numbered found.key_is)

  -- the value alone
  pub assigned-value : (new : Entries) → Rewrites old new place found.order (with_value value found.stored) → renews old.expiry ≡ false
      → Becomes new (plain.insert now (key_of key) (value_of value) (table_in old))
  assigned-value new rewrites stays =
      subst (λ t. Becomes new t) (sym (insert-is
      ∙ ap (λ b. with_entries (with_entry (cond b (renewed old.expiry now (record was_entry { value = value_of value })) (record was_entry { value = value_of value })) (entries_in old.slots.items)) (table_in old)) stays))
      (rewritten old new kept place found.order found.stored (with_value value found.stored) found.there rewrites refl (kept.dues found.order found.stored there_numbered))

  -- the value, and then the moment
  pub assigned-moment : (mid new : Entries) → Rewrites old mid place found.order (with_value value found.stored)
      → ((order : ℕ) (stored : Stored) → slice_get mid.slots.items place ≡ Some (occupied order stored) → Rewrites mid new place order (with_moment now (due_from mid.expiry now) stored))
      → renews old.expiry ≡ true → Becomes new (plain.insert now (key_of key) (value_of value) (table_in old))
  assigned-moment mid new first second renewing =
      let valued = with_value value found.stored in
      let before : Becomes mid (with_entries (with_entry (entry_of found.order valued) (entries_in old.slots.items)) (table_in old)) =
      rewritten old mid kept place found.order found.stored valued found.there first refl (kept.dues found.order found.stored there_numbered) in
      let there : slice_get mid.slots.items place ≡ Some (occupied found.order valued) =
      ap (λ xs. slice_get xs place) first.slots ∙ slice_get-set_same old.slots.items place (occupied found.order found.stored) (occupied found.order valued) found.there in
      let after = rewritten mid new before.kept place found.order valued (with_moment now (due_from mid.expiry now) valued) there (second found.order valued there) refl
      (is_some-due_from mid.expiry now) in
      let renewed_in : plain.Table → plain.Table = λ t. with_entries (with_entry (entry_of found.order (with_moment now (due_from t.expiry now) valued)) t.entries) t in
      let e : renewed_in (table_in mid) ≡ with_entries (with_entry (entry_of found.order (with_moment now (due_from old.expiry now) valued)) (entries_in old.slots.items)) (table_in old) =
      ap renewed_in before.is
      ∙ ap (λ es. with_entries es (table_in old))
      (with_entry-twice (entry_of found.order valued) (entry_of found.order (with_moment now (due_from old.expiry now) valued)) (entries_in old.slots.items) refl) in
      subst (λ t. Becomes new t)
      (e ∙ sym (insert-is
      ∙ ap (λ b. with_entries (with_entry (cond b (renewed old.expiry now (record was_entry { value = value_of value })) (record was_entry { value = value_of value })) (entries_in old.slots.items)) (table_in old)) renewing))
      after

-- Insertion --------------------------------------------------------------------------------------------------------

pub adds-from : (old mid new : Entries) (is : Stored) → Widens old mid
    → new.slots.items ≡ mid.slots.items ++ occupied old.insertions is ∷ []
    → ((key : List Value) → order_at new key ≡ cond ((key_eq.ghosts).eq is.key key) (Some old.insertions) (order_at mid key))
    → new.expiry ≡ old.expiry → new.insertions ≡ old.insertions + 1 → new.live ≡ old.live + 1 → length new.firsts.items ≡ length mid.firsts.items
    → (IsSome mid.expiry → length mid.slots.items < length mid.firsts.items) → is_some is.due ≡ is_some old.expiry
    → (AllBut (turn_at new.slots.items) mid.firsts.items (length mid.slots.items) → IsTree (turn_at new.slots.items) new.firsts.items) → Adds old new is
unfolding order_at
adds-from old mid new is widens slots orders expiry insertions live long room due_is reorder = record {
  slots = slots ∙ ap (λ xs. xs ++ occupied old.insertions is ∷ []) widens.slots;
  orders = λ key. orders key ∙ ap (λ m. cond ((key_eq.ghosts).eq is.key key) (Some old.insertions) (keyed.get ((key_eq.ghosts).eq) m key)) widens.orders;
  expiry = expiry;
  insertions = insertions;
  live = live;
  covers = λ expires.
      let here = room (subst (λ o. IsSome o) (sym widens.expiry) expires) in
      let same = ap (λ (xs : List Slot). length xs) widens.slots in
      omega (arith, here, same, long);
  tree = λ kept. reorder (tree-changed (turn_at mid.slots.items) (turn_at new.slots.items) mid.firsts.items (length mid.slots.items)
      (λ other apart. ap (λ xs. turn_at xs other) slots ∙ ap (option_and_then turn_in) (slice_get-push_other mid.slots.items (occupied old.insertions is) other apart))
      (λ past. ap (λ xs. turn_at xs (length mid.slots.items)) slots ∙ ap (option_and_then turn_in) (slice_get-push_same mid.slots.items (occupied old.insertions is)) ∙ no_due is.due refl past)
      (widens.tree kept));
}
  where
    no_due : (due : Option Moment) → is.due ≡ due → length mid.firsts.items ≤ length mid.slots.items
        → option_map (λ (d : Moment). let t : Moment × ℕ = (d, old.insertions) in t) is.due ≡ None
    no_due None e past = ap (option_map (λ (d : Moment). let t : Moment × ℕ = (d, old.insertions) in t)) e
    no_due (Some due) e past =
        let here = room (subst (λ o. IsSome o) (sym widens.expiry) (sym due_is ∙ ap is_some e)) in
        absurd (omega (arith, here, past))

pub insert-added : (old new : Entries) (now : Moment) (key : List Value) (value : Value) → IsKept old → entry_at (key_of key) (entries_in old.slots.items) ≡ None
    → Adds old new (record { key = key; value = value; since = now; due = due_from old.expiry now })
    → Becomes new (plain.insert now (key_of key) (value_of value) (table_in old))
insert-added old new now key value kept none adds =
    let stored : Stored = record { key = key; value = value; since = now; due = due_from old.expiry now } in
    subst (λ t. Becomes new t) (sym (ap (plain.assign_at now (key_of key) (value_of value) (table_in old)) none))
    (added old new kept stored adds (absent-order old kept key none) (is_some-due_from old.expiry now))

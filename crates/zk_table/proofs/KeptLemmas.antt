-- What stays together in the entries of a table: found entries, and entries that change.
use Rattle.std.proofs.Common.{◌≡◌, ◌==◌, ℕ, suc, ◌+◌, ◌≤◌, Bool, true, false, cond, List, [], ◌∷◌, ◌++◌, length, slice_get, Option, Some, None, is_some, IsSome, refl, sym, ap, subst, ◌∙◌, arith, true≢false, length-set, length-append}
use Rattle.std.specs.Bool.{Decides}
use Rattle.std.specs.Option.{option_map}
use Rattle.std.proofs.Common.{rules}
use Rattle.std.proofs.Math.ListN.{set}
use Rattle.std.proofs.lemmas.Bool.Decides.{Decides-eqb}
use Rattle.std.proofs.lemmas.Slice.Eq.{slice_eq-Decides}
use Rattle.indexmap.specs.IndexMap as keyed
use Rattle.zk_tree.specs.Table as plain
use Rattle.zk_tree.specs.Table.{Entry, entry_at, entry_numbered, with_entry, with_entries, without}
use Rattle.zk_tree.proofs.ValueLaws.{same_key-Decides}
use Rattle.zk_value.specs.Plain.{key_of}
use Rattle.zk_value.specs.contracts.key.KeyPartialEq.TheImpl as key_eq
use Rattle.zk_value.specs.declared.value.Value.{Value}
use Rattle.zk_value.proofs.PlainLaws.{key_of-apart}
use Rattle.zk_table.specs.declared.entries.Entries.{Entries}
use Rattle.zk_table.specs.declared.slot.Slot.{Slot}
use Rattle.zk_table.specs.declared.slot.Stored.{Stored}
use Rattle.zk_table.specs.Index.{IsTree}
use Rattle.zk_table.specs.Kept.{IsKept, Rewrites, Empties, Adds, Becomes, order_at, table_in}
use Rattle.zk_table.specs.Slots.{Ascends, entries_in, entry_of, stored_numbered, occupied, hole, turn_at}
use Rattle.zk_table.proofs.EntryLemmas.{entries-set, entries-empty, entries-push, length-empty, length-with_entry, entry_numbered-is, entry_at-held, entry_at-some}
use Rattle.zk_table.proofs.SlotLemmas.{eqb-apart, ascends-set, ascends-push, numbered-at, numbered-set, numbered-push, numbered-over}

-- keys that are equal are one
pub key_eq-Decides : (a b : List Value) → Decides ((key_eq.ghosts).eq a b) (a ≡ b)
key_eq-Decides a b = slice_eq-Decides (λ x y. search rules) a b ((key_eq.ghosts).eq a b) refl

some_order : (a b : ℕ) → Some a ≡ Some b → a ≡ b
some_order a b e = cc

some_stored : (a b : Stored) → Some a ≡ Some b → a ≡ b
some_stored a b e = cc

none_some : {A : Type 0} {a : A} {o : Option A} → o ≡ None → o ≡ Some a → ⊥
none_some none some = cc

-- Look-ups ---------------------------------------------------------------------------------------------------------

module _ (entries : Entries) (kept : IsKept entries) where
  abbrev slots : List Slot
  slots = entries.slots.items

  -- what stands in a place is kept under its number
  pub place-numbered : (place order : ℕ) (stored : Stored) → slice_get slots place ≡ Some (occupied order stored) → stored_numbered order slots ≡ Some stored
  place-numbered place order stored there = numbered-at 0 slots entries.insertions place (occupied order stored) kept.ascends there

  -- the entry of a number that is kept
  pub numbered-entry : (order : ℕ) (stored : Stored) → stored_numbered order slots ≡ Some stored → entry_numbered order (entries_in slots) ≡ Some (entry_of order stored)
  numbered-entry order stored is = entry_numbered-is order 0 slots entries.insertions kept.ascends ∙ ap (option_map (entry_of order)) is

  pub numbered-none : (order : ℕ) → stored_numbered order slots ≡ None → entry_numbered order (entries_in slots) ≡ None
  numbered-none order is = entry_numbered-is order 0 slots entries.insertions kept.ascends ∙ ap (option_map (entry_of order)) is

  -- an entry that a plain key finds is found by its key
  entry-found : (key : List Value) (entry : Entry) → entry_at (key_of key) (entries_in slots) ≡ Some entry
      → (stored : Stored) × (order_at entries key ≡ Some entry.order) × (stored_numbered entry.order slots ≡ Some stored) × (entry ≡ entry_of entry.order stored)
  entry-found key entry is =
      let held = entry_at-held (key_of key) 0 slots entries.insertions entry kept.ascends is in
      let stored = held.stored in
      let same : key_of key ≡ key_of stored.key =
      (same_key-Decides (key_of key) entry.key).0 held.key_is ∙ ap (λ (e : Entry). e.key) held.is in (
        stored,
        ap (order_at entries) (key_of-apart key stored.key same) ∙ kept.kept entry.order stored held.numbered,
        held.numbered,
        held.is,
      )

  -- a key that finds no order number has no entry
  pub absent : (key : List Value) → order_at entries key ≡ None → entry_at (key_of key) (entries_in slots) ≡ None
  absent key none = by (entry_at (key_of key) (entries_in slots)) refl
    where
      by : (o : Option Entry) → entry_at (key_of key) (entries_in slots) ≡ o → entry_at (key_of key) (entries_in slots) ≡ None
      by None e = e
      by (Some entry) e = absurd (none_some none (entry-found key entry e).1)

  -- the entry of a key that is kept under an order number
  pub present : (key : List Value) (order : ℕ) (stored : Stored) → stored_numbered order slots ≡ Some stored → stored.key ≡ key
      → entry_at (key_of key) (entries_in slots) ≡ Some (entry_of order stored)
  present key order stored is key_is = by (entry_at (key_of key) (entries_in slots)) refl
    where
      there : is_some (entry_at (key_of key) (entries_in slots)) ≡ true
      there = entry_at-some (key_of key) order slots stored is ((same_key-Decides (key_of key) (key_of stored.key)).1 (ap key_of (sym key_is)))

      by : (o : Option Entry) → entry_at (key_of key) (entries_in slots) ≡ o → entry_at (key_of key) (entries_in slots) ≡ Some (entry_of order stored)
      by None e = absurd (true≢false (sym there ∙ ap is_some e))
      by (Some entry) e =
          let found = entry-found key entry e in
          let other = found.0 in
          let by_key : order_at entries key ≡ Some order = ap (order_at entries) (sym key_is) ∙ kept.kept order stored is in
          let one : entry.order ≡ order = some_order entry.order order (sym found.1 ∙ by_key) in
          let same : other ≡ stored = some_stored other stored (sym found.2 ∙ ap (λ n. stored_numbered n slots) one ∙ is) in
          e ∙ ap (λ x. Some x) (found.3 ∙ ap (λ s. entry_of entry.order s) same ∙ ap (λ n. entry_of n stored) one)

  -- a key without an entry finds no order number
  pub absent-order : (key : List Value) → entry_at (key_of key) (entries_in slots) ≡ None → order_at entries key ≡ None
  absent-order key none = by (order_at entries key) refl
    where
      by : (o : Option ℕ) → order_at entries key ≡ o → order_at entries key ≡ None
      by None e = e
      by (Some order) e =
          let found = kept.found key order e in
          absurd (none_some none (present key order found.0 found.1 found.2))

-- Changes ----------------------------------------------------------------------------------------------------------

-- an entry that changed, but not in its key
module _ (old new : Entries) (kept : IsKept old) (place order : ℕ) (was is : Stored) (there : slice_get old.slots.items place ≡ Some (occupied order was))
    (rewrites : Rewrites old new place order is) (key_is : is.key ≡ was.key) (due_is : is_some is.due ≡ is_some old.expiry) where
  before_numbered : stored_numbered order old.slots.items ≡ Some was
  before_numbered = place-numbered old kept place order was there

  after_numbered : (other : ℕ) → stored_numbered other new.slots.items ≡ cond (other == order) (Some is) (stored_numbered other old.slots.items)
  after_numbered other =
      ap (stored_numbered other) rewrites.slots
      ∙ numbered-set other 0 old.slots.items old.insertions place (occupied order was) (occupied order is) kept.ascends there refl

  same_orders : (key : List Value) → order_at new key ≡ order_at old key
  unfolding order_at
  same_orders key = ap (λ m. keyed.get ((key_eq.ghosts).eq) m key) rewrites.orders

  -- under each number stands what stood there, but for the one that changed
  each : (P : ℕ → Stored → Type 0) → P order is → ((other : ℕ) (stored : Stored) → stored_numbered other old.slots.items ≡ Some stored → P other stored)
      → (other : ℕ) (stored : Stored) → stored_numbered other new.slots.items ≡ Some stored → P other stored
  each P here others other stored numbered = by (other == order) refl
    where
      by : (t : Bool) → (other == order) ≡ t → P other stored
      by true t =
          let e : other ≡ order = (Decides-eqb other order).0 t in
          let s : is ≡ stored = some_stored is stored (sym (ap (λ b. cond b (Some is) (stored_numbered other old.slots.items)) t) ∙ sym (after_numbered other) ∙ numbered) in
          subst (λ n. P n stored) (sym e) (subst (λ x. P order x) s here)
      by false t = others other stored (sym (ap (λ b. cond b (Some is) (stored_numbered other old.slots.items)) t) ∙ sym (after_numbered other) ∙ numbered)

  pub rewritten : Becomes new (with_entries (with_entry (entry_of order is) (entries_in old.slots.items)) (table_in old))
  rewritten = record {
    kept = record {
      ascends = subst (λ xs. Ascends 0 xs new.insertions) (sym rewrites.slots)
          (subst (λ n. Ascends 0 (set old.slots.items place (occupied order is)) n) (sym rewrites.insertions)
          (ascends-set 0 old.slots.items old.insertions place (occupied order was) (occupied order is) kept.ascends there refl));
      found = λ key other e. found_after key other (sym (same_orders key) ∙ e);
      kept = each (λ other stored. order_at new stored.key ≡ Some other)
          (same_orders is.key ∙ ap (order_at old) key_is ∙ kept.kept order was before_numbered)
          (λ other stored numbered. same_orders stored.key ∙ kept.kept other stored numbered);
      dues = each (λ other stored. is_some stored.due ≡ is_some new.expiry)
          (due_is ∙ sym (ap is_some rewrites.expiry))
          (λ other stored numbered. kept.dues other stored numbered ∙ sym (ap is_some rewrites.expiry));
      tree = rewrites.tree kept;
      covers = λ expires.
          let wide = kept.covers (subst (λ o. IsSome o) rewrites.expiry expires) in
          let long = ap (λ (xs : List Slot). length xs) rewrites.slots ∙ length-set old.slots.items place (occupied order is) in
          let firsts_long = rewrites.long in
          omega (arith, wide, long, firsts_long);
      live = rewrites.live ∙ kept.live ∙ sym (ap length entries_are ∙ length-with_entry (entry_of order is) (entries_in old.slots.items));
    };
    is = same_table;
  }
    where
      entries_are : entries_in new.slots.items ≡ with_entry (entry_of order is) (entries_in old.slots.items)
      entries_are = ap entries_in rewrites.slots ∙ entries-set 0 old.slots.items old.insertions place order was is kept.ascends there

      same_table : table_in new ≡ with_entries (with_entry (entry_of order is) (entries_in old.slots.items)) (table_in old)
      same_table =
          ap (λ e. let t : plain.Table = record { expiry = e; insertions = new.insertions; entries = entries_in new.slots.items } in t) rewrites.expiry
          ∙ ap (λ n. let t : plain.Table = record { expiry = old.expiry; insertions = n; entries = entries_in new.slots.items } in t) rewrites.insertions
          ∙ ap (λ es. let t : plain.Table = record { expiry = old.expiry; insertions = old.insertions; entries = es } in t) entries_are

      found_after : (key : List Value) (other : ℕ) → order_at old key ≡ Some other → (stored : Stored) × (stored_numbered other new.slots.items ≡ Some stored) × (stored.key ≡ key)
      found_after key other e = by (other == order) refl
        where
          found : (stored : Stored) × (stored_numbered other old.slots.items ≡ Some stored) × (stored.key ≡ key)
          found = kept.found key other e

          by : (t : Bool) → (other == order) ≡ t → (stored : Stored) × (stored_numbered other new.slots.items ≡ Some stored) × (stored.key ≡ key)
          by true t =
              let here : other ≡ order = (Decides-eqb other order).0 t in
              let same : found.0 ≡ was = some_stored found.0 was (sym found.1 ∙ ap (λ n. stored_numbered n old.slots.items) here ∙ before_numbered) in (
                is,
                after_numbered other ∙ ap (λ b. cond b (Some is) (stored_numbered other old.slots.items)) t,
                key_is ∙ ap (λ (s : Stored). s.key) (sym same) ∙ found.2,
              )
          by false t = (found.0, after_numbered other ∙ ap (λ b. cond b (Some is) (stored_numbered other old.slots.items)) t ∙ found.1, found.2)

-- an entry that is gone
module _ (old new : Entries) (kept : IsKept old) (place order : ℕ) (was : Stored) (there : slice_get old.slots.items place ≡ Some (occupied order was))
    (empties : Empties old new place order was) where
  gone_numbered : stored_numbered order old.slots.items ≡ Some was
  gone_numbered = place-numbered old kept place order was there

  left_numbered : (other : ℕ) → stored_numbered other new.slots.items ≡ cond (other == order) None (stored_numbered other old.slots.items)
  left_numbered other =
      ap (stored_numbered other) empties.slots
      ∙ numbered-set other 0 old.slots.items old.insertions place (occupied order was) (hole order) kept.ascends there refl

  -- what is left stood there, under another number
  left : (other : ℕ) (stored : Stored) → stored_numbered other new.slots.items ≡ Some stored → (stored_numbered other old.slots.items ≡ Some stored) × (other ≡ order → ⊥)
  left other stored numbered = by (other == order) refl
    where
      by : (t : Bool) → (other == order) ≡ t → (stored_numbered other old.slots.items ≡ Some stored) × (other ≡ order → ⊥)
      by true t = absurd (none_some (left_numbered other ∙ ap (λ b. cond b None (stored_numbered other old.slots.items)) t) numbered)
      by false t = (
        sym (ap (λ b. cond b None (stored_numbered other old.slots.items)) t) ∙ sym (left_numbered other) ∙ numbered,
        λ e. absurd (true≢false (sym ((Decides-eqb other order).1 e) ∙ t)),
      )

  pub emptied : Becomes new (with_entries (without order (entries_in old.slots.items)) (table_in old))
  emptied = record {
    kept = record {
      ascends = subst (λ xs. Ascends 0 xs new.insertions) (sym empties.slots)
          (subst (λ n. Ascends 0 (set old.slots.items place (hole order)) n) (sym empties.insertions)
          (ascends-set 0 old.slots.items old.insertions place (occupied order was) (hole order) kept.ascends there refl));
      found = found_after;
      kept = kept_after;
      dues = λ other stored numbered. kept.dues other stored (left other stored numbered).0 ∙ sym (ap is_some empties.expiry);
      tree = empties.tree kept;
      covers = λ expires.
          let wide = kept.covers (subst (λ o. IsSome o) empties.expiry expires) in
          let long = ap (λ (xs : List Slot). length xs) empties.slots ∙ length-set old.slots.items place (hole order) in
          let firsts_long = empties.long in
          omega (arith, wide, long, firsts_long);
      live =
          let one = length-empty old.slots.items place order was there in
          let here = ap (λ xs. length (entries_in xs)) empties.slots in
          let count = empties.live in
          let total = kept.live in
          omega (arith, one, here, count, total);
    };
    is = same_table;
  }
    where
      entries_are : entries_in new.slots.items ≡ without order (entries_in old.slots.items)
      entries_are = ap entries_in empties.slots ∙ entries-empty 0 old.slots.items old.insertions place order was kept.ascends there

      same_table : table_in new ≡ with_entries (without order (entries_in old.slots.items)) (table_in old)
      same_table =
          ap (λ e. let t : plain.Table = record { expiry = e; insertions = new.insertions; entries = entries_in new.slots.items } in t) empties.expiry
          ∙ ap (λ n. let t : plain.Table = record { expiry = old.expiry; insertions = n; entries = entries_in new.slots.items } in t) empties.insertions
          ∙ ap (λ es. let t : plain.Table = record { expiry = old.expiry; insertions = old.insertions; entries = es } in t) entries_are

      found_after : (key : List Value) (other : ℕ) → order_at new key ≡ Some other → (stored : Stored) × (stored_numbered other new.slots.items ≡ Some stored) × (stored.key ≡ key)
      found_after key other e = by ((key_eq.ghosts).eq was.key key) refl
        where
          by : (t : Bool) → (key_eq.ghosts).eq was.key key ≡ t → (stored : Stored) × (stored_numbered other new.slots.items ≡ Some stored) × (stored.key ≡ key)
          by true t = absurd (none_some (empties.orders key ∙ ap (λ b. cond b None (order_at old key)) t) e)
          by false t =
              let before : order_at old key ≡ Some other = sym (ap (λ b. cond b None (order_at old key)) t) ∙ sym (empties.orders key) ∙ e in
              let found = kept.found key other before in
              let apart : (other == order) ≡ false = eqb-apart other order (λ same.
              let one : found.0 ≡ was = some_stored found.0 was (sym found.1 ∙ ap (λ n. stored_numbered n old.slots.items) same ∙ gone_numbered) in
              true≢false (sym ((key_eq-Decides was.key key).1 (ap (λ (s : Stored). s.key) (sym one) ∙ found.2)) ∙ t)) in
              (found.0, left_numbered other ∙ ap (λ b. cond b None (stored_numbered other old.slots.items)) apart ∙ found.1, found.2)

      kept_after : (other : ℕ) (stored : Stored) → stored_numbered other new.slots.items ≡ Some stored → order_at new stored.key ≡ Some other
      kept_after other stored numbered = by ((key_eq.ghosts).eq was.key stored.key) refl
        where
          before : order_at old stored.key ≡ Some other
          before = kept.kept other stored (left other stored numbered).0

          by : (t : Bool) → (key_eq.ghosts).eq was.key stored.key ≡ t → order_at new stored.key ≡ Some other
          by true t =
              let same : was.key ≡ stored.key = (key_eq-Decides was.key stored.key).0 t in
              absurd ((left other stored numbered).1 (some_order other order (sym before ∙ ap (order_at old) (sym same) ∙ kept.kept order was gone_numbered)))
          by false t = empties.orders stored.key ∙ ap (λ b. cond b None (order_at old stored.key)) t ∙ before

-- an entry more
module _ (old new : Entries) (kept : IsKept old) (is : Stored) (adds : Adds old new is) (absent_key : order_at old is.key ≡ None) (due_is : is_some is.due ≡ is_some old.expiry) where
  more_numbered : (other : ℕ) → stored_numbered other new.slots.items ≡ cond (other == old.insertions) (Some is) (stored_numbered other old.slots.items)
  more_numbered other = ap (stored_numbered other) adds.slots ∙ numbered-push other 0 old.slots.items old.insertions (occupied old.insertions is) kept.ascends refl

  none_there : stored_numbered old.insertions old.slots.items ≡ None
  none_there = numbered-over old.insertions 0 old.slots.items old.insertions kept.ascends (omega arith)

  each_more : (P : ℕ → Stored → Type 0) → P old.insertions is → ((other : ℕ) (stored : Stored) → stored_numbered other old.slots.items ≡ Some stored → P other stored)
      → (other : ℕ) (stored : Stored) → stored_numbered other new.slots.items ≡ Some stored → P other stored
  each_more P here others other stored numbered = by (other == old.insertions) refl
    where
      by : (t : Bool) → (other == old.insertions) ≡ t → P other stored
      by true t =
          let e : other ≡ old.insertions = (Decides-eqb other old.insertions).0 t in
          let s : is ≡ stored = some_stored is stored (sym (ap (λ b. cond b (Some is) (stored_numbered other old.slots.items)) t) ∙ sym (more_numbered other) ∙ numbered) in
          subst (λ n. P n stored) (sym e) (subst (λ x. P old.insertions x) s here)
      by false t = others other stored (sym (ap (λ b. cond b (Some is) (stored_numbered other old.slots.items)) t) ∙ sym (more_numbered other) ∙ numbered)

  -- where each order number was found before, it is found now
  orders_stay : (key : List Value) (other : ℕ) → order_at old key ≡ Some other → order_at new key ≡ Some other
  orders_stay key other e = by ((key_eq.ghosts).eq is.key key) refl
    where
      by : (t : Bool) → (key_eq.ghosts).eq is.key key ≡ t → order_at new key ≡ Some other
      by true t = absurd (none_some (sym (ap (order_at old) ((key_eq-Decides is.key key).0 t)) ∙ absent_key) e)
      by false t = adds.orders key ∙ ap (λ b. cond b (Some old.insertions) (order_at old key)) t ∙ e

  found_more : (key : List Value) (other : ℕ) → order_at new key ≡ Some other → (stored : Stored) × (stored_numbered other new.slots.items ≡ Some stored) × (stored.key ≡ key)
  found_more key other e = by ((key_eq.ghosts).eq is.key key) refl
    where
      by : (t : Bool) → (key_eq.ghosts).eq is.key key ≡ t → (stored : Stored) × (stored_numbered other new.slots.items ≡ Some stored) × (stored.key ≡ key)
      by true t =
          let here : old.insertions ≡ other = some_order old.insertions other (sym (ap (λ b. cond b (Some old.insertions) (order_at old key)) t) ∙ sym (adds.orders key) ∙ e) in
          (is, more_numbered other ∙ ap (λ b. cond b (Some is) (stored_numbered other old.slots.items)) ((Decides-eqb other old.insertions).1 (sym here)), (key_eq-Decides is.key key).0 t)
      by false t =
          let before : order_at old key ≡ Some other = sym (ap (λ b. cond b (Some old.insertions) (order_at old key)) t) ∙ sym (adds.orders key) ∙ e in
          let found = kept.found key other before in
          let apart : (other == old.insertions) ≡ false = eqb-apart other old.insertions
          (λ same. none_some (ap (λ n. stored_numbered n old.slots.items) same ∙ none_there) found.1) in
          (found.0, more_numbered other ∙ ap (λ b. cond b (Some is) (stored_numbered other old.slots.items)) apart ∙ found.1, found.2)

  pub added : Becomes new (record { expiry = old.expiry; insertions = old.insertions + 1; entries = entries_in old.slots.items ++ entry_of old.insertions is ∷ [] })
  added = record {
    kept = record {
      ascends = subst (λ xs. Ascends 0 xs new.insertions) (sym adds.slots)
          (subst (λ n. Ascends 0 (old.slots.items ++ occupied old.insertions is ∷ []) n) (let e : suc old.insertions ≡ new.insertions = let n = adds.insertions in omega (arith, n) in e)
          (ascends-push 0 old.slots.items old.insertions (occupied old.insertions is) kept.ascends refl));
      found = found_more;
      kept = each_more (λ other stored. order_at new stored.key ≡ Some other)
          (adds.orders is.key ∙ ap (λ b. cond b (Some old.insertions) (order_at old is.key)) ((key_eq-Decides is.key is.key).1 refl))
          (λ other stored numbered. orders_stay stored.key other (kept.kept other stored numbered));
      dues = each_more (λ other stored. is_some stored.due ≡ is_some new.expiry)
          (due_is ∙ sym (ap is_some adds.expiry))
          (λ other stored numbered. kept.dues other stored numbered ∙ sym (ap is_some adds.expiry));
      tree = adds.tree kept;
      covers = λ expires.
          let wide = adds.covers (subst (λ o. IsSome o) adds.expiry expires) in
          let long = ap (λ (xs : List Slot). length xs) adds.slots ∙ length-append old.slots.items (occupied old.insertions is ∷ []) in
          omega (arith, wide, long);
      live =
          let here = ap length entries_are ∙ length-append (entries_in old.slots.items) (entry_of old.insertions is ∷ []) in
          let count = adds.live in
          let total = kept.live in
          omega (arith, here, count, total);
    };
    is =
        ap (λ e. let t : plain.Table = record { expiry = e; insertions = new.insertions; entries = entries_in new.slots.items } in t) adds.expiry
        ∙ ap (λ n. let t : plain.Table = record { expiry = old.expiry; insertions = n; entries = entries_in new.slots.items } in t) adds.insertions
        ∙ ap (λ es. let t : plain.Table = record { expiry = old.expiry; insertions = old.insertions + 1; entries = es } in t) entries_are;
  }
    where
      entries_are : entries_in new.slots.items ≡ entries_in old.slots.items ++ entry_of old.insertions is ∷ []
      entries_are = ap entries_in adds.slots ∙ entries-push old.slots.items old.insertions is

-- entries under other slots, where the same is kept
module _ (old new : Entries) (kept : IsKept old) (ascends : Ascends 0 new.slots.items new.insertions)
    (numbered_same : (order : ℕ) → stored_numbered order new.slots.items ≡ stored_numbered order old.slots.items)
    (entries_same : entries_in new.slots.items ≡ entries_in old.slots.items) (orders_same : (key : List Value) → order_at new key ≡ order_at old key) (expiry : new.expiry ≡ old.expiry)
    (insertions : new.insertions ≡ old.insertions) (live : new.live ≡ old.live) (tree : IsTree (turn_at new.slots.items) new.firsts.items)
    (covers : IsSome new.expiry → length new.slots.items ≤ length new.firsts.items) where
  pub kept_same : Becomes new (table_in old)
  kept_same = record {
    kept = record {
      ascends = ascends;
      found = λ key order e.
          let was = kept.found key order (sym (orders_same key) ∙ e) in (was.0, numbered_same order ∙ was.1, was.2);
      kept = λ order stored numbered. orders_same stored.key ∙ kept.kept order stored (sym (numbered_same order) ∙ numbered);
      dues = λ order stored numbered. kept.dues order stored (sym (numbered_same order) ∙ numbered) ∙ sym (ap is_some expiry);
      tree = tree;
      covers = covers;
      live = live ∙ kept.live ∙ sym (ap length entries_same);
    };
    is =
        ap (λ e. let t : plain.Table = record { expiry = e; insertions = new.insertions; entries = entries_in new.slots.items } in t) expiry
        ∙ ap (λ n. let t : plain.Table = record { expiry = old.expiry; insertions = n; entries = entries_in new.slots.items } in t) insertions
        ∙ ap (λ es. let t : plain.Table = record { expiry = old.expiry; insertions = old.insertions; entries = es } in t) entries_same;
  }

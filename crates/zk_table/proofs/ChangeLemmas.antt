-- The entries of a table after the code changed a slot.
use Rattle.std.proofs.Common.{◌≡◌, ℕ, ◌≤◌, List, length, get_or, slice_get, Option, Some, None, is_some, refl, sym, ap, subst, ◌∙◌, arith, ⊎_elim}
use Rattle.std.specs.Option.{option_map}
use Rattle.std.specs.Global.{Vec}
use Rattle.std.specs.Vec.{with_item, with_items}
use Rattle.std.proofs.Math.ListN.{set}
use Rattle.std.proofs.lemmas.Bool.{cases_eq}
use Rattle.std.proofs.lemmas.List.{with_items_is}
use Rattle.std.proofs.lemmas.Option.{get_or_from_slice_get, slice_get_within}
use Rattle.zk_base.specs.declared.time.Moment.{Moment}
use Rattle.zk_tree.specs.declared.expiry.Expiry.{Expiry}
use Rattle.zk_tree.specs.Table.{due_from}
use Rattle.zk_table.specs.declared.entries.Entries.{Entries}
use Rattle.zk_table.specs.declared.slot.Slot.{Slot}
use Rattle.zk_table.specs.declared.slot.Stored.{Stored}
use Rattle.zk_table.specs.Index.{AllBut, IsTree}
use Rattle.zk_table.specs.Kept.{IsKept, Rewrites}
use Rattle.zk_table.specs.Slots.{occupied, turn_at, turn_in}
use Rattle.zk_table.proofs.TurnLemmas.{turn_at-is, turn_at-set_other, turn_at-set_same, tree-same, tree-changed}

-- a slot whose entry is changed
abbrev pub changed : (Stored → Stored) → Slot → Slot
changed change slot = record { order = slot.order; entry = option_map change slot.entry }

-- a slot whose entry was taken out
abbrev pub emptied_slot : Slot → Slot
emptied_slot slot = record { order = slot.order; entry = None }

-- the slot that was lent is the one in its place
pub lent_slot : (slots : List Slot) (place order : ℕ) (was lent : Slot) → slice_get slots place ≡ Some was → lent ≡ get_or slots place lent → lent ≡ was
lent_slot slots place order was lent there shown = shown ∙ get_or_from_slice_get slots place was lent there

-- the index in its vector, once it is put right
pub tree_after : (slots lent_slots : List Slot) (firsts : Vec (Option (Moment × ℕ))) (shown reordered : List (Option (Moment × ℕ))) (place : ℕ)
    → lent_slots ≡ slots → shown ≡ firsts.items → length reordered ≡ firsts.len → (AllBut (turn_at lent_slots) shown place → IsTree (turn_at lent_slots) reordered)
    → AllBut (turn_at slots) firsts.items place → IsTree (turn_at slots) (with_items firsts reordered).items
tree_after slots lent_slots firsts shown reordered place same lent long reorder all =
    subst (IsTree (turn_at slots)) (sym (with_items_is firsts reordered long))
    (subst (λ xs. IsTree (turn_at xs) reordered) same
    (reorder (subst (λ xs. AllBut (turn_at xs) shown place) (sym same) (subst (λ f. AllBut (turn_at slots) f place) (sym lent) all))))

-- the index in its vector, once it is made anew
pub tree_rebuilt : (slots lent_slots : List Slot) (firsts : Vec (Option (Moment × ℕ))) (shown rebuilt : List (Option (Moment × ℕ)))
    → lent_slots ≡ slots → shown ≡ firsts.items → length rebuilt ≡ firsts.len
    → (((place : ℕ) → length shown ≤ place → turn_at lent_slots place ≡ None) → IsTree (turn_at lent_slots) rebuilt)
    → ((place : ℕ) → length (with_items firsts rebuilt).items ≤ place → turn_at slots place ≡ None) → IsTree (turn_at slots) (with_items firsts rebuilt).items
tree_rebuilt slots lent_slots firsts shown rebuilt same lent long make past =
    let is = with_items_is firsts rebuilt long in
    let whole = ap (λ (xs : List (Option (Moment × ℕ))). length xs) is in
    let shown_long = ap (λ (xs : List (Option (Moment × ℕ))). length xs) lent in
    let held = firsts.ok.0 in
    subst (IsTree (turn_at slots)) (sym is)
    (subst (λ xs. IsTree (turn_at xs) rebuilt) same
    (make (λ place behind. ap (λ xs. turn_at xs place) same ∙ past place (omega (arith, whole, shown_long, long, held, behind)))))

-- a table without an expiry has no turn, and one with an expiry has each place in its index
pub past_index : (old : Entries) (place order : ℕ) (was : Stored) (due : Option Moment) → IsKept old → slice_get old.slots.items place ≡ Some (occupied order was)
    → is_some due ≡ is_some old.expiry → length old.firsts.items ≤ place → option_map (λ (d : Moment). let t : Moment × ℕ = (d, order) in t) due ≡ None
past_index old place order was None kept there due_is past = refl
past_index old place order was (Some due) kept there due_is past =
    let wide = kept.covers (sym due_is) in
    let within = slice_get_within old.slots.items place (occupied order was) there in
    absurd (omega (arith, wide, within, past))

pub is_some-due_from : (expiry : Option Expiry) (now : Moment) → is_some (due_from expiry now) ≡ is_some expiry
is_some-due_from None now = refl
is_some-due_from (Some expiry) now = refl

-- a slot that was changed, and put in order
pub rewrites_reordered : (old : Entries) (place order : ℕ) (was is : Stored) (slot : Slot) (lent_slots : List Slot) (shown reordered : List (Option (Moment × ℕ)))
    → slice_get old.slots.items place ≡ Some (occupied order was) → slot ≡ occupied order is → lent_slots ≡ set old.slots.items place slot
    → shown ≡ old.firsts.items → length reordered ≡ old.firsts.len → (AllBut (turn_at lent_slots) shown place → IsTree (turn_at lent_slots) reordered)
    → (IsKept old → is_some is.due ≡ is_some old.expiry)
    → Rewrites old (record {
      alloc = old.alloc;
      expiry = old.expiry;
      insertions = old.insertions;
      live = old.live;
      slots = with_item old.slots place slot;
      orders = old.orders;
      firsts = with_items old.firsts reordered;
      recent = old.recent;
    }) place order is
rewrites_reordered old place order was is slot lent_slots shown reordered there slot_is lent_is shown_is long reorder due_is = record {
  slots = ap (set old.slots.items place) slot_is;
  orders = refl;
  expiry = refl;
  insertions = refl;
  live = refl;
  long = ap (λ (xs : List (Option (Moment × ℕ))). length xs) (with_items_is old.firsts reordered long) ∙ long ∙ old.firsts.ok.0;
  tree = λ kept. tree_after (set old.slots.items place slot) lent_slots old.firsts shown reordered place lent_is shown_is long reorder
      (tree-changed (turn_at old.slots.items) (turn_at (set old.slots.items place slot)) old.firsts.items place
      (λ other apart. turn_at-set_other old.slots.items place slot other apart)
      (λ past. turn_at-set_same old.slots.items place (occupied order was) slot there ∙ ap turn_in slot_is
      ∙ past_index old place order was is.due kept there (due_is kept) past)
      kept.tree);
}

-- a slot whose turn is the same
pub rewrites_same : (old : Entries) (place order : ℕ) (was is : Stored) (slot : Slot)
    → slice_get old.slots.items place ≡ Some (occupied order was) → slot ≡ occupied order is → is.due ≡ was.due
    → Rewrites old (record {
      alloc = old.alloc;
      expiry = old.expiry;
      insertions = old.insertions;
      live = old.live;
      slots = with_item old.slots place slot;
      orders = old.orders;
      firsts = old.firsts;
      recent = old.recent;
    }) place order is
rewrites_same old place order was is slot there slot_is due_is = record {
  slots = ap (set old.slots.items place) slot_is;
  orders = refl;
  expiry = refl;
  insertions = refl;
  live = refl;
  long = refl;
  tree = λ kept. tree-same (turn_at old.slots.items) (turn_at (set old.slots.items place slot)) old.firsts.items same kept.tree;
}
  where
    here : turn_at (set old.slots.items place slot) place ≡ turn_at old.slots.items place
    here =
        turn_at-set_same old.slots.items place (occupied order was) slot there ∙ ap turn_in slot_is
        ∙ ap (λ d. option_map (λ (due : Moment). let t : Moment × ℕ = (due, order) in t) d) due_is
        ∙ sym (turn_at-is old.slots.items place (occupied order was) there)

    same : (other : ℕ) → turn_at (set old.slots.items place slot) other ≡ turn_at old.slots.items other
    same other = ⊎_elim
        (λ e. subst (λ n. turn_at (set old.slots.items place slot) n ≡ turn_at old.slots.items n) (sym e) here)
        (λ apart. turn_at-set_other old.slots.items place slot other apart)
        (cases_eq other place)

-- a due that is put off is still one
pub still_due : (due : Option Moment) (other : Moment) → is_some (option_map (λ _. other) due) ≡ is_some due
still_due None other = refl
still_due (Some due) other = refl

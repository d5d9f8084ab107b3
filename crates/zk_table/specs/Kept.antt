-- What belongs together in the entries of a table.
use Rattle.std.specs.Prelude.{◌≡◌, ℕ, ◌+◌, ◌<◌, ◌≤◌, List, [], ◌∷◌, ◌++◌, length, if◌then◌else◌, slice_get, slice_set, Option, Some, None, is_some, IsSome}
use Rattle.indexmap.specs.IndexMap as keyed
use Rattle.zk_tree.specs.Table as plain
use Rattle.zk_value.specs.contracts.key.KeyPartialEq.TheImpl as key_eq
use Rattle.zk_value.specs.declared.value.Value.{Value}
use Rattle.zk_table.specs.declared.entries.Entries.{Entries}
use Rattle.zk_table.specs.declared.slot.Stored.{Stored}
use Rattle.zk_table.specs.Slots.{Ascends, entries_in, stored_numbered, occupied, hole, turn_at}
use Rattle.zk_table.specs.Index.{IsTree}

-- the order number of a key's entry
unfoldable pub order_at : Entries → List Value → Option ℕ
order_at entries key = keyed.get ((key_eq.ghosts).eq) entries.orders key

-- the plain table
abbrev pub table_in : Entries → plain.Table
table_in entries = record {
  expiry = entries.expiry;
  insertions = entries.insertions;
  entries = entries_in entries.slots.items;
}

pub record IsKept (entries : Entries) : Type 0 where
  -- the insertions stand in their order
  pub ascends : Ascends 0 entries.slots.items entries.insertions
  -- what a key finds is kept under it
  pub found : (key : List Value) (order : ℕ) → order_at entries key ≡ Some order → (stored : Stored) × (stored_numbered order entries.slots.items ≡ Some stored) × (stored.key ≡ key)
  -- what is kept is found by its key
  pub kept : (order : ℕ) (stored : Stored) → stored_numbered order entries.slots.items ≡ Some stored → order_at entries stored.key ≡ Some order
  -- entries have a due exactly where the table has an expiry
  pub dues : (order : ℕ) (stored : Stored) → stored_numbered order entries.slots.items ≡ Some stored → is_some stored.due ≡ is_some entries.expiry
  pub tree : IsTree (turn_at entries.slots.items) entries.firsts.items
  pub covers : IsSome entries.expiry → length entries.slots.items ≤ length entries.firsts.items
  pub live : entries.live ≡ length (entries_in entries.slots.items)

-- the entry of a key, in its place
pub record Found (entries : Entries) (key : List Value) (place : ℕ) : Type 0 where
  pub order : ℕ
  pub stored : Stored
  pub there : slice_get entries.slots.items place ≡ Some (occupied order stored)
  pub key_is : stored.key ≡ key

-- an entry is changed in its place, but not its key
pub record Rewrites (old new : Entries) (place order : ℕ) (stored : Stored) : Type 0 where
  pub slots : new.slots.items ≡ slice_set old.slots.items place (occupied order stored)
  pub orders : new.orders ≡ old.orders
  pub expiry : new.expiry ≡ old.expiry
  pub insertions : new.insertions ≡ old.insertions
  pub live : new.live ≡ old.live
  pub long : length new.firsts.items ≡ length old.firsts.items
  pub tree : IsKept old → IsTree (turn_at new.slots.items) new.firsts.items

-- the entry of an order number, in its place
pub record Numbered (entries : Entries) (order place : ℕ) : Type 0 where
  pub stored : Stored
  pub there : slice_get entries.slots.items place ≡ Some (occupied order stored)

-- the entry in a place is gone
pub record Empties (old new : Entries) (place order : ℕ) (stored : Stored) : Type 0 where
  pub slots : new.slots.items ≡ slice_set old.slots.items place (hole order)
  pub orders : (key : List Value) → order_at new key ≡ (if (key_eq.ghosts).eq stored.key key then None else order_at old key)
  pub expiry : new.expiry ≡ old.expiry
  pub insertions : new.insertions ≡ old.insertions
  pub live : new.live + 1 ≡ old.live
  pub long : length new.firsts.items ≡ length old.firsts.items
  pub tree : IsKept old → IsTree (turn_at new.slots.items) new.firsts.items

-- the entries make this table, and belong together
pub record Becomes (entries : Entries) (table : plain.Table) : Type 0 where
  pub kept : IsKept entries
  pub is : table_in entries ≡ table

-- the index may be longer, and all else is the same
pub record Widens (old new : Entries) : Type 0 where
  pub slots : new.slots.items ≡ old.slots.items
  pub orders : new.orders ≡ old.orders
  pub expiry : new.expiry ≡ old.expiry
  pub insertions : new.insertions ≡ old.insertions
  pub live : new.live ≡ old.live
  pub long : length old.firsts.items ≤ length new.firsts.items
  pub tree : IsKept old → IsTree (turn_at new.slots.items) new.firsts.items

-- there is one entry more, at the end
pub record Adds (old new : Entries) (stored : Stored) : Type 0 where
  pub slots : new.slots.items ≡ old.slots.items ++ occupied old.insertions stored ∷ []
  pub orders : (key : List Value) → order_at new key ≡ (if (key_eq.ghosts).eq stored.key key then Some old.insertions else order_at old key)
  pub expiry : new.expiry ≡ old.expiry
  pub insertions : new.insertions ≡ old.insertions + 1
  pub live : new.live ≡ old.live + 1
  pub covers : IsSome old.expiry → length old.slots.items < length new.firsts.items
  pub tree : IsKept old → IsTree (turn_at new.slots.items) new.firsts.items

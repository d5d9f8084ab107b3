-- The table of live connections: its slots, and where a key or a number finds its slot.
use Rattle.std.specs.Prelude.{◌≡◌, ◌≢◌, ◌≤◌, ◌&&◌, ◌==◌, true, false, ℕ, Bool, int_le, int_lt, slice_index_or, Option, Some, None, is_some, IsSome, if◌then◌else◌}
use Rattle.std.specs.declared.cmp.Ordering.{Ordering}
use Rattle.std.specs.BTreeMap as tree
use Rattle.std.specs.Option.{option_map, option_and_then}
use Rattle.std.specs.Ordering.{nat_cmp, is_eq}
use Rattle.slab.specs.Slab.{Slab, get, with_value}
use Rattle.zk_base.specs.declared.numbers.ConnNo.{ConnNo}
use Rattle.zk_base.specs.declared.time.Moment.{Moment}
use Rattle.zk_conn.specs.declared.conns.Conns.{Conns}
use Rattle.zk_conn.specs.declared.instance.Instance.{Instance}
use Rattle.zk_conn.specs.declared.key.Key.{Key}
use Rattle.zk_conn.specs.declared.removals.Filing.{Filing}
use Rattle.zk_conn.specs.Holds.{Follows, originator_in, removal_of, responder_in}
use Rattle.zk_conn.specs.Removals.{IsIndexOf}
use Rattle.zk_conn.specs.Told.{Told}
use Rattle.zk_conn.specs.contracts.key.KeyOrd.TheImpl as key_ord
use Rattle.zk_conn.specs.contracts.key.KeyPartialEq.TheImpl as key_partial_eq

-- the order of the tree of keys
unfoldable pub key_cmp : Key → Key → Ordering
key_cmp = (key_ord.ghosts).cmp

-- the slot that the tree of keys has for a key
abbrev pub slot_in : tree.BTreeMap Key ℕ → Key → Option ℕ
slot_in keys key = tree.get key_cmp keys key

-- the test whether two keys are the same
unfoldable pub key_eq : Key → Key → Bool
key_eq = (key_partial_eq.ghosts).eq

-- the instance is there and has this key
abbrev pub has_key : Option Instance → Key → Bool
has_key None key = false
has_key (Some instance) key = key_eq instance.key key

-- a slot that has an instance
abbrev pub kept : Slab Instance → Option ℕ → Option ℕ
kept slots None = None
kept slots (Some slot) = if is_some (get slots slot) then Some slot else None

-- the slot of a live connection
unfoldable pub slot_of : Conns → Key → Option ℕ
slot_of conns key = kept conns.slots (slot_in conns.keys key)

-- the instance is there and has this number
abbrev pub has_number : Option Instance → ℕ → Bool
has_number None number = false
has_number (Some instance) number = instance.number == number

-- the slot of a live instance: that of the last packet's instance, or the one that its number finds
unfoldable pub slot_numbered : Conns → ConnNo → Option ℕ
slot_numbered conns conn = if has_number (get conns.slots conns.recent) conn.0 then Some conns.recent else kept conns.slots (tree.get nat_cmp conns.numbers conn.0)

-- the value has a live instance of this number
abbrev pub HasLive : Conns → ConnNo → Type 0
HasLive conns conn = IsSome (slot_numbered conns conn)

-- the live instance of a key
unfoldable pub instance_at : Conns → Key → Option Instance
instance_at conns key = option_and_then (get conns.slots) (slot_in conns.keys key)

-- the key of the instance of a slot
abbrev pub key_at : Slab Instance → ℕ → Option Key
key_at slots slot = option_map (λ instance. instance.key) (get slots slot)

-- the number of the instance of a slot
abbrev pub number_at : Slab Instance → ℕ → Option ℕ
number_at slots slot = option_map (λ instance. instance.number) (get slots slot)

-- each slot that is found has what finds it, and is found by what it has
pub record Matches {K : Type 0} (find : K → Option ℕ) (at : ℕ → Option K) : Type 0 where
  pub there : (key : K) (slot : ℕ) → find key ≡ Some slot → at slot ≡ Some key
  pub found : (slot : ℕ) (key : K) → at slot ≡ Some key → find key ≡ Some slot

-- the slots, their keys, their numbers and the index of their removals belong together
pub record IsTable (conns : Conns) : Type 0 where
  pub keys : Matches (slot_in conns.keys) (key_at conns.slots)
  pub numbers : Matches (tree.get nat_cmp conns.numbers) (number_at conns.slots)
  pub index : IsIndexOf conns.slots conns.removals

-- the tables differ in the instance of one slot, which keeps its key and its number
pub record Changes (old new : Conns) (slot : ℕ) (was is : Instance) : Type 0 where
  pub is_there : get new.slots slot ≡ Some is
  pub others : (other : ℕ) → other ≢ slot → get new.slots other ≡ get old.slots other
  pub key_is : is.key ≡ was.key
  pub number_is : is.number ≡ was.number
  pub keys_are : (key : Key) → slot_in new.keys key ≡ slot_in old.keys key
  pub numbers_are : (number : ℕ) → tree.get nat_cmp new.numbers number ≡ tree.get nat_cmp old.numbers number
  pub begun_is : new.begun ≡ old.begun
  pub recent_is : new.recent ≡ old.recent
  pub index : IsIndexOf old.slots old.removals → IsIndexOf new.slots new.removals

-- the instances know the same
pub record SameFacts (was is : Instance) : Type 0 where
  pub key_is : is.key ≡ was.key
  pub number_is : is.number ≡ was.number
  pub originator_is : originator_in is ≡ originator_in was
  pub responder_is : responder_in is ≡ responder_in was
  pub start_is : is.start ≡ was.start
  pub last_is : is.last ≡ was.last
  pub orig_is : is.orig ≡ was.orig
  pub resp_is : is.resp ≡ was.resp
  pub history_is : is.history ≡ was.history

-- the instance of a slot is filed at its removal moment
pub record Files (old new : Conns) (slot : ℕ) (was : Instance) : Type 0 where
  pub is : Instance
  pub written : new.slots ≡ with_value old.slots slot is
  pub changes : Changes old new slot was is
  pub same : SameFacts was is
  pub filed : is.filed ≡ removal_of was

-- the instance of a slot is filed at its removal moment or before
pub record Hastens (old new : Conns) (slot : ℕ) (was : Instance) : Type 0 where
  pub is : Instance
  pub changes : Changes old new slot was is
  pub same : SameFacts was is
  pub filed : int_le is.filed.0 (removal_of is).0 ≡ true

-- the instance of a slot has one more event
pub record Tells (old new : Conns) (slot : ℕ) (was : Instance) (event : Told) : Type 0 where
  pub is : Instance
  pub changes : Changes old new slot was is
  pub follows : Follows was is event
  pub filed : int_le was.filed.0 (removal_of was).0 ≡ true → int_le is.filed.0 (removal_of is).0 ≡ true

-- the tables find the same instances
pub record SameTable (old new : Conns) : Type 0 where
  pub slots_are : (slot : ℕ) → get new.slots slot ≡ get old.slots slot
  pub keys_are : (key : Key) → slot_in new.keys key ≡ slot_in old.keys key
  pub numbers_are : (number : ℕ) → tree.get nat_cmp new.numbers number ≡ tree.get nat_cmp old.numbers number
  pub begun_is : new.begun ≡ old.begun
  pub index : IsIndexOf old.slots old.removals → IsIndexOf new.slots new.removals

-- the new table has one instance more
pub record Inserts (old new : Conns) (instance : Instance) : Type 0 where
  pub slot : ℕ
  pub vacant : get old.slots slot ≡ None
  pub there : get new.slots slot ≡ Some instance
  pub others : (other : ℕ) → other ≢ slot → get new.slots other ≡ get old.slots other
  pub key_found : slot_in new.keys instance.key ≡ Some slot
  pub other_keys : (other : Key) → is_eq (key_cmp instance.key other) ≡ false → slot_in new.keys other ≡ slot_in old.keys other
  pub number_found : tree.get nat_cmp new.numbers instance.number ≡ Some slot
  pub other_numbers : (other : ℕ) → is_eq (nat_cmp instance.number other) ≡ false → tree.get nat_cmp new.numbers other ≡ tree.get nat_cmp old.numbers other
  pub begun_is : new.begun ≡ old.begun
  pub index : IsIndexOf old.slots old.removals → IsIndexOf new.slots new.removals

-- the new table lacks the instance of a slot
pub record Removes (old new : Conns) (slot : ℕ) (was : Instance) : Type 0 where
  pub gone : get new.slots slot ≡ None
  pub others : (other : ℕ) → other ≢ slot → get new.slots other ≡ get old.slots other
  pub key_gone : slot_in new.keys was.key ≡ None
  pub other_keys : (other : Key) → is_eq (key_cmp was.key other) ≡ false → slot_in new.keys other ≡ slot_in old.keys other
  pub number_gone : tree.get nat_cmp new.numbers was.number ≡ None
  pub other_numbers : (other : ℕ) → is_eq (nat_cmp was.number other) ≡ false → tree.get nat_cmp new.numbers other ≡ tree.get nat_cmp old.numbers other
  pub begun_is : new.begun ≡ old.begun
  pub index : IsIndexOf old.slots old.removals → IsIndexOf new.slots new.removals

-- the slot that is filed first, where that is by a moment
abbrev pub slot_by : Slab Instance → Moment → Option Filing → Option ℕ
slot_by slots t None = None
slot_by slots t (Some first) = if int_le first.at.0 t.0 && is_some (get slots first.slot) then Some first.slot else None

unfoldable pub first_by : Conns → Moment → Option ℕ
first_by conns t = slot_by conns.slots t (slice_index_or conns.removals.firsts.items 0 None)

-- the instance is filed before its removal moment
abbrev pub is_stale : Option Instance → Bool
is_stale None = false
is_stale (Some instance) = int_lt instance.filed.0 (removal_of instance).0

-- the slot of the live instance of least number
pub record IsLeast (conns : Conns) (slot : ℕ) : Type 0 where
  pub number : ℕ
  pub found : tree.get nat_cmp conns.numbers number ≡ Some slot
  pub there : is_some (get conns.slots slot) ≡ true
  pub least : (other : ℕ) (of_other : ℕ) → tree.get nat_cmp conns.numbers other ≡ Some of_other → number ≤ other

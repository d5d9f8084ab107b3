-- The index of removals: a tree over the slots of the table, in which each slot knows the first filing of its own and below it.
use Rattle.std.specs.Prelude.{◌≡◌, ◌≢◌, ℕ, ◌+◌, ◌*◌, ◌<◌, ◌≤◌, ◌⊎◌, Bool, true, false, List, length, slice_index_or, Option, Some, None, if◌then◌else◌}
use Rattle.std.specs.Option.{option_map}
use Rattle.slab.specs.Slab.{Slab, get}
use Rattle.zk_conn.specs.declared.instance.Instance.{Instance}
use Rattle.zk_conn.specs.declared.removals.Filing.{Filing}
use Rattle.zk_conn.specs.declared.removals.Removals.{Removals}
use Rattle.zk_conn.specs.Histories.{is_earlier}
use Rattle.zk_conn.specs.Holds.{removal_of}

abbrev pub is_before : Filing → Filing → Bool
is_before a b = is_earlier a.at a.number b.at b.number

-- it stands before the other, or there is no other
abbrev pub is_sooner : Filing → Option Filing → Bool
is_sooner a None = true
is_sooner a (Some b) = is_before a b

-- the one of two that stands before the other
abbrev pub earlier : Option Filing → Option Filing → Option Filing
earlier None b = b
earlier (Some a) None = Some a
earlier (Some a) (Some b) = if is_before b a then Some b else Some a

-- a first that stands at the place of another, or before it
abbrev pub AtMost : Option Filing → Option Filing → Type 0
AtMost first other = (f : Filing) → other ≡ Some f → (g : Filing) × (first ≡ Some g) × (is_before f g ≡ false)

-- what a list has for a slot
abbrev pub at_slot : List (Option Filing) → ℕ → Option Filing
at_slot filings slot = slice_index_or filings slot None

-- the first of a slot's own filing and of those that the two slots below it know
abbrev pub first_at : List (Option Filing) → List (Option Filing) → ℕ → Option Filing
first_at filings firsts slot = earlier (earlier (at_slot filings slot) (at_slot firsts (2 * slot + 1))) (at_slot firsts (2 * slot + 2))

-- it is one of three
abbrev pub IsAmong : Option Filing → Option Filing → Option Filing → Filing → Type 0
IsAmong own left right f = (own ≡ Some f) ⊎ ((left ≡ Some f) ⊎ (right ≡ Some f))

-- the first of three
pub record IsFirst (first own left right : Option Filing) : Type 0 where
  pub own_is : AtMost first own
  pub left_is : AtMost first left
  pub right_is : AtMost first right
  pub among : (f : Filing) → first ≡ Some f → IsAmong own left right f

-- a slot knows the first of its own filing and of those that the two slots below it know
abbrev pub IsNode : List (Option Filing) → List (Option Filing) → ℕ → Type 0
IsNode filings firsts slot = IsFirst (at_slot firsts slot) (at_slot filings slot) (at_slot firsts (2 * slot + 1)) (at_slot firsts (2 * slot + 2))

-- each slot but one knows it, and none is filed beyond the index
pub record AllBut (filings firsts : List (Option Filing)) (but : ℕ) : Type 0 where
  pub nodes : (slot : ℕ) → slot < length firsts → slot ≢ but → IsNode filings firsts slot
  pub beyond : (slot : ℕ) → length firsts ≤ slot → at_slot filings slot ≡ None

-- each slot knows it, and none is filed beyond the index
pub record IsTree (filings firsts : List (Option Filing)) : Type 0 where
  pub nodes : (slot : ℕ) → slot < length firsts → IsNode filings firsts slot
  pub beyond : (slot : ℕ) → length firsts ≤ slot → at_slot filings slot ≡ None

-- a first that stands at the place of another or before it, unless the other is this filing
abbrev pub AtMostBut : Filing → Option Filing → Option Filing → Type 0
AtMostBut filing first other = (f : Filing) → other ≡ Some f → (f ≡ filing) ⊎ ((g : Filing) × (first ≡ Some g) × (is_before f g ≡ false))

-- this filing is one of three, and where it does not stand before the first, that is the first of them
pub record IsFirstBut (filing : Filing) (first own left right : Option Filing) : Type 0 where
  pub own_is : AtMostBut filing first own
  pub left_is : AtMostBut filing first left
  pub right_is : AtMostBut filing first right
  pub there : IsAmong own left right filing
  pub among : (f : Filing) → first ≡ Some f → is_before filing f ≡ false → IsAmong own left right f

-- each slot knows the first, but one that need not know yet of this filing of its own or below it
pub record IsRaised (filings firsts : List (Option Filing)) (slot : ℕ) (filing : Filing) : Type 0 where
  pub rest : AllBut filings firsts slot
  pub node : IsFirstBut filing (at_slot firsts slot) (at_slot filings slot) (at_slot firsts (2 * slot + 1)) (at_slot firsts (2 * slot + 2))

-- where a slot is filed
abbrev pub filed_in : Removals → ℕ → Option Filing
filed_in removals slot = at_slot removals.filings.items slot

-- the index has a place for a slot
abbrev pub HasPlace : Removals → ℕ → Type 0
HasPlace removals slot = (slot < length removals.filings.items) × (slot < length removals.firsts.items)

-- the index is in order
abbrev pub IsIndex : Removals → Type 0
IsIndex removals = IsTree removals.filings.items removals.firsts.items

abbrev pub filing_of : ℕ → Instance → Filing
filing_of slot instance = record { at = instance.filed; number = instance.number; slot = slot }

-- where the instance of a slot is filed
abbrev pub filing_at : Slab Instance → ℕ → Option Filing
filing_at slots slot = option_map (filing_of slot) (get slots slot)

-- the index is in order, and files each instance where it says
pub record IsIndexOf (slots : Slab Instance) (removals : Removals) : Type 0 where
  pub index : IsIndex removals
  pub filed : (slot : ℕ) → filed_in removals slot ≡ filing_at slots slot

-- when the instance of a slot is removed
abbrev pub removal_at : Slab Instance → ℕ → Option Filing
removal_at slots slot = option_map (λ instance. record { at = removal_of instance; number = instance.number; slot = slot }) (get slots slot)

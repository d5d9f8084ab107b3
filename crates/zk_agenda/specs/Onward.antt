-- What the body of a script does to network time, to the events that wait for their moments, and to the entries that expire.
use Rattle.std.specs.Prelude.{◌≡◌, ◌+◌, ◌≤ℤ◌, ℕ, ℤ, List, [], ◌∷◌, ◌++◌, length, Option, Some, None, true, slice_get}
use Rattle.zk_base.specs.declared.time.Moment.{Moment}
use Rattle.zk_tree.specs.Store.{Object}
use Rattle.zk_tree.specs.Store as object
use Rattle.zk_tree.specs.Table.{Entry, last_moment}
use Rattle.zk_typed.specs.State.{World}
use Rattle.zk_typed.specs.World.{Scheduled}

-- Events that are scheduled at a moment, one after another: their numbers rise one by one from this one on, and none is due
-- before that moment, which is one of those that there are.
abbrev pub AreScheduled : Moment → ℕ → List Scheduled → Type 0
AreScheduled now order [] = Unit {0}
AreScheduled now order (one ∷ others) = (one.order ≡ order) × (now.0 ≤ℤ last_moment → now.0 ≤ℤ one.due.0) × AreScheduled now (order + 1) others

-- Network time stays, and so does whether the end has begun. The events that waited still wait, and others behind them, but
-- none once the end has begun.
pub record Onward (before after : World) : Type 0 where
  pub time : after.time ≡ before.time
  pub ending : after.is_ending ≡ before.is_ending
  pub more : List Scheduled
  pub scheduled : after.scheduled ≡ before.scheduled ++ more
  pub schedulings : after.schedulings ≡ before.schedulings + length more
  pub are_scheduled : AreScheduled before.time before.schedulings more
  pub none : before.is_ending ≡ true → more ≡ []

-- Entries that expire ------------------------------------------------------------------------------------------------------

abbrev pub IsFrom : ℤ → Option Moment → Type 0
IsFrom low None = Unit {0}
IsFrom low (Some due) = low ≤ℤ due.0

-- no entry is due before this
abbrev pub EntriesFrom : ℤ → List Entry → Type 0
EntriesFrom low [] = Unit {0}
EntriesFrom low (one ∷ others) = IsFrom low one.due × EntriesFrom low others

-- no entry of an object is, where it is a table
abbrev pub ObjectFrom : ℤ → Option Object → Type 0
ObjectFrom low None = Unit {0}
ObjectFrom low (Some (object.Table table)) = EntriesFrom low table.entries
ObjectFrom low (Some (object.Vector items)) = Unit {0}
ObjectFrom low (Some (object.Record of fields)) = Unit {0}

-- No entry comes to be due before network time: where none of an object's was due before a moment up to it, none is then.
pub record DuesStay (before after : World) : Type 0 where
  pub by : (low : ℤ) (number : ℕ) → low ≤ℤ before.time.0 → before.time.0 ≤ℤ last_moment
      → ObjectFrom low (slice_get before.store number) → ObjectFrom low (slice_get after.store number)

-- what a body does
pub record Step (before after : World) : Type 0 where
  pub onward : Onward before after
  pub dues : DuesStay before after

-- Items ----------------------------------------------------------------------------------------------------------------------

-- no table, where there is an object
abbrev pub IsNoTable : Option Object → Type 0
IsNoTable None = ⊥
IsNoTable (Some (object.Table table)) = ⊥
IsNoTable (Some (object.Vector items)) = Unit {0}
IsNoTable (Some (object.Record of fields)) = Unit {0}

-- no entry, where there is a table
abbrev pub IsBare : Option Object → Type 0
IsBare None = Unit {0}
IsBare (Some (object.Table table)) = table.entries ≡ []
IsBare (Some (object.Vector items)) = Unit {0}
IsBare (Some (object.Record of fields)) = Unit {0}

-- an object of one world, and that of its number in another: a table stays as it is, and a new one has no entry
abbrev pub KeepsTable : Option Object → Option Object → Type 0
KeepsTable None after = IsBare after
KeepsTable (Some (object.Table table)) after = after ≡ Some (object.Table table)
KeepsTable (Some (object.Vector items)) after = IsNoTable after
KeepsTable (Some (object.Record of fields)) after = IsNoTable after

-- What an item does before its events are dispatched: no more to network time and to the events that wait than a body does, and
-- tables and globals stay.
pub record Raises (before after : World) : Type 0 where
  pub onward : Onward before after
  pub tables : (number : ℕ) → KeepsTable (slice_get before.store number) (slice_get after.store number)
  pub globals : after.globals ≡ before.globals

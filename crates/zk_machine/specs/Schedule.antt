-- The events that wait for their moments, and the index of their dues.
use Rattle.std.specs.Prelude.{◌≡◌, ◌≤◌, ◌+◌, ◌-◌, ℕ, suc, pos, List, [], ◌∷◌, ◌++◌, ◌==◌, not, find, filter, map, length, true, Option, Some, None}
use Rattle.std.specs.List.{filter_map}
use Rattle.zk_base.specs.declared.time.Moment.{Moment}
use Rattle.zk_tree.specs.declared.expiry.Expiry.TheVariants.{Create}
use Rattle.zk_tree.specs.Table.{Table, Entry}
use Rattle.zk_tree.specs.Value as plain
use Rattle.zk_tree.specs.Value.{Value}
use Rattle.zk_typed.specs.World.{Queued, Scheduled}
use Rattle.zk_machine.specs.declared.queued.Scheduled as rust
use Rattle.zk_machine.specs.Queued.{scheduled_of}

-- those that wait, in the order in which they were scheduled, and how many were so far
pub record Plan : Type 0 where
  pub events : List Scheduled
  pub count : ℕ

abbrev pub with_event : Moment → Queued → Plan → Plan
with_event due what plan = record {
  events = plan.events ++ record { due = due; order = plan.count; what = what } ∷ [];
  count = plan.count + 1;
}

-- the event of an order number
abbrev pub event_numbered : ℕ → List Scheduled → Option Scheduled
event_numbered order events = find (λ one. one.order == order) events

-- those of other order numbers
abbrev pub others : ℕ → List Scheduled → List Scheduled
others order events = filter (λ other. not (other.order == order)) events

-- one after another
abbrev pub Each : {X : Type 0} → (X → Type 0) → List X → Type 0
Each P [] = Unit {0}
Each P (one ∷ others) = P one × Each P others

-- each that waits is the one of its order number
abbrev pub IsFound : List Scheduled → Type 0
IsFound events = Each (λ one. event_numbered one.order events ≡ Some one) events

-- The last events by their order numbers, each while it waits -----------------------------------------------------

abbrev pub Slots : Type 0
Slots = List (Option rust.Scheduled)

abbrev pub waiting : Slots → List Scheduled
waiting slots = map scheduled_of (filter_map (λ one. one) slots)

abbrev pub plan_of : ℕ → Slots → Plan
plan_of count slots = record { events = waiting slots; count = count }

-- the order numbers rise one by one, from this one on
abbrev pub Numbered : ℕ → Slots → Type 0
Numbered order [] = Unit {0}
Numbered order (None ∷ slots) = Numbered (suc order) slots
Numbered order (Some one ∷ slots) = (one.order ≡ order) × Numbered (suc order) slots

-- so many were scheduled, of which these are the last
abbrev pub AreLast : ℕ → Slots → Type 0
AreLast count slots = (length slots ≤ count) × Numbered (count - length slots) slots

-- The index: a table whose entries expire when the events are due --------------------------------------------------

abbrev pub key_for : ℕ → List Value
key_for order = plain.Count order ∷ []

abbrev pub entry_for : Scheduled → Entry
entry_for one = record { order = one.order; key = key_for one.order; value = plain.Bool true; since = one.due; due = Some one.due }

abbrev pub index_of : Plan → Table
index_of plan = record { expiry = Some (Create (record { 0 = pos 0 })); insertions = plan.count; entries = map entry_for plan.events }

-- What code runs with beside the state: the operands and loops of the body under way, and the bodies that wait for it.
use Rattle.std.specs.Prelude.{ℕ, List, ◌∷◌, Option}
use Rattle.zk_tree.specs.declared.place.Place.{Place}
use Rattle.zk_tree.specs.Value.{Value}
use Rattle.zk_typed.specs.Log.{Stream, Filter}
use Rattle.zk_typed.specs.State.{State}
use Rattle.zk_lower.specs.Code.{BodyCode}

-- a loop: over a table and the keys of its start that are left, or over a vector, the next index and how many are left
pub data Loop : Type 0 where
  Keys : (over : Value) (keys : List (List Value)) → Loop
  Indexes : (over : Value) (index : ℕ) (left : ℕ) → Loop

-- a write to a log that waits for the policy of a filter: the row, the filter and those after it
pub record Pending : Type 0 where
  pub stream : Stream
  pub row : Value
  pub filter : Filter
  pub others : List Filter

-- what a body waits for
pub data Awaits : Type 0 where
  -- the value of a function
  Result : (place : Place) → Awaits
  -- the end of a function
  Return : Awaits
  -- the bodies of a hook, of which these are left; then a write may go on
  Bodies : (place : Place) (args : List Value) (others : List BodyCode) (pending : Option Pending) → Awaits

-- a body that waits: where it goes on, its names and its loops
pub record Frame : Type 0 where
  pub back : ℕ
  pub locals : List (Option Value)
  pub loops : List Loop
  pub awaits : Awaits

-- operands, the last one first; loops, the innermost first; and bodies that wait, the last one first
pub record Held : Type 0 where
  pub stack : List Value
  pub loops : List Loop
  pub frames : List Frame

-- code at an operation
pub record Machine : Type 0 where
  pub at : ℕ
  pub held : Held
  pub state : State

abbrev pub pushed : Value → Held → Held
pushed value held = record held { stack = value ∷ held.stack }

abbrev pub with_stack : List Value → Held → Held
with_stack stack held = record held { stack = stack }

abbrev pub with_loops : List Loop → Held → Held
with_loops loops held = record held { loops = loops }

-- What a computation does: it takes a state to an end, which is a value with the state that it leaves, a fault, or the want
-- of a unit. After a fault or the want of a unit no name of the body and no operand is there any more.
use Rattle.std.specs.Prelude.{ℕ, zero, suc, List, [], ◌∷◌, ◌++◌, length, Option, Some, None, slice_get, slice_set}
use Rattle.zk_tree.specs.declared.place.Place.{Place}
use Rattle.zk_tree.specs.Store.{Object}
use Rattle.zk_tree.specs.Value.{Value}
use Rattle.zk_tree.specs.Value as value
use Rattle.zk_typed.specs.declared.ends.FaultKind.{FaultKind}
use Rattle.zk_typed.specs.declared.ends.FaultKind.TheVariants.{Unset}
use Rattle.zk_typed.specs.State.{State, World, with_store, with_globals}

pub data Ran (A : Type 0) : Type 0 where
  Gives : (a : A) (state : State) → Ran A
  Faults : (kind : FaultKind) (place : Place) (world : World) (units : ℕ) → Ran A
  Spent : (place : Place) (world : World) → Ran A

abbrev pub and_then : {A B : Type 0} → Ran A → (A → State → Ran B) → Ran B
and_then (Gives a state) next = next a state
and_then (Faults kind place world units) next = Faults kind place world units
and_then (Spent place world) next = Spent place world

abbrev pub Does : Type 0 → Type 0
Does A = State → Ran A

infixl 10 ◌>>=◌
abbrev pub ◌>>=◌ : {A B : Type 0} → Does A → (A → Does B) → Does B
first >>= next = λ state. and_then (first state) next

infixl 10 ◌>>◌
abbrev pub ◌>>◌ : {A B : Type 0} → Does A → Does B → Does B
first >> next = first >>= (λ a. next)

abbrev pub pure : {A : Type 0} → A → Does A
pure a = λ state. Gives a state

abbrev pub done : Does (Unit {0})
done = pure tt

-- a fault of the statement at a place
abbrev pub fault : {A : Type 0} → FaultKind → Place → Does A
fault kind place = λ state. Faults kind place state.world state.units

-- the value that is there, or a fault
abbrev pub or_fault : {A : Type 0} → FaultKind → Place → Option A → Does A
or_fault kind place (Some a) = pure a
or_fault kind place None = fault kind place

-- Values of other types, which no typed program comes to.
abbrev pub misfit : {A : Type 0} → Place → Does A
misfit place = fault Unset place

-- Units ------------------------------------------------------------------------------------------------------------

abbrev pub spend : Place → State → ℕ → Ran (Unit {0})
spend place state zero = Spent place state.world
spend place state (suc left) = Gives tt (record state { units = left })

-- a unit for the statement at a place, or within it
abbrev pub tick : Place → Does (Unit {0})
tick place = λ state. spend place state state.units

-- The world --------------------------------------------------------------------------------------------------------

abbrev pub read : {A : Type 0} → (World → A) → Does A
read part = λ state. Gives (part state.world) state

abbrev pub change : (World → World) → Does (Unit {0})
change changed = λ state. Gives tt (record state { world = changed state.world })

-- Names ------------------------------------------------------------------------------------------------------------

-- the value of a name by its number, where it has one
abbrev pub named : List (Option Value) → ℕ → Option Value
named values number = flat (slice_get values number)
  where
    flat : Option (Option Value) → Option Value
    flat None = None
    flat (Some value) = value

abbrev pub local : Place → ℕ → Does Value
local place number = λ state. or_fault Unset place (named state.locals number) state

abbrev pub set_local : ℕ → Option Value → Does (Unit {0})
set_local number value = λ state. Gives tt (record state { locals = slice_set state.locals number value })

abbrev pub global : Place → ℕ → Does Value
global place number = read (λ world. named world.globals number) >>= or_fault Unset place

abbrev pub set_global : ℕ → Option Value → Does (Unit {0})
set_global number value = change (λ world. with_globals (slice_set world.globals number value) world)

-- Objects ----------------------------------------------------------------------------------------------------------

-- the object that a value names
abbrev pub object_in : Value → World → Option Object
object_in (value.Object number) world = slice_get world.store number.0
object_in value world = None

abbrev pub object : Place → Value → Does Object
object place value = read (object_in value) >>= or_fault Unset place

-- an object is changed
abbrev pub set_object : Value → Object → Does (Unit {0})
set_object (value.Object number) changed = change (λ world. with_store (slice_set world.store number.0 changed) world)
set_object value changed = done

-- a new object has the next number
abbrev pub new_object : Object → Does Value
new_object made = do
  number ← read (λ world. length world.store)
  change (λ world. with_store (world.store ++ made ∷ []) world)
  pure (value.Object (record { 0 = number }))

-- How what a call gives and leaves agrees with what a computation of zk_typed comes to.
use Rattle.std.specs.Prelude.{◌≡◌, Result, Ok, Err}
use Rattle.zk_tree.specs.declared.place.Place.{Place}
use Rattle.zk_typed.specs.Does.{Ran, Gives, Faults, Spent}
use Rattle.zk_typed.specs.State.{State}
use Rattle.zk_machine.specs.declared.halt.Halt.{Halt}
use Rattle.zk_machine.specs.declared.halt.Halt.TheVariants as halt

-- The computation gives what the call gives and leaves the same state; or it is at fault or lacks a unit as the call says,
-- with the same world and as many units left. Want of memory alone is free.
abbrev pub Comes : {A B : Type 0} → (A → B) → Place → Result A Halt → Ran B → State → Type 0
Comes view place (Ok a) ran state = ran ≡ Gives (view a) state
Comes view place (Err (halt.Fault kind)) ran state = ran ≡ Faults kind place state.world state.units
Comes view place (Err halt.Spent) ran state = ran ≡ Spent place state.world
Comes view place (Err halt.NoMemory) ran state = Unit {0}

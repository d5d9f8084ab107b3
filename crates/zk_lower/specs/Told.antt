-- What a body prints and writes stands behind what was told before, which decides nothing of what it does and stays.
use Rattle.std.specs.Prelude.{◌≡◌, ℕ, List, ◌++◌}
use Rattle.std.specs.Option.{option_map}
use Rattle.zk_tree.specs.Value.{Value}
use Rattle.zk_typed.specs.Dispatch.{Left, left, handler_body, initial_body, expiry_body}
use Rattle.zk_typed.specs.Does.{Ran, Gives, Faults, Spent}
use Rattle.zk_typed.specs.Log.{Row}
use Rattle.zk_typed.specs.Program.{Program, Handler, Global}
use Rattle.zk_typed.specs.State.{State, World}
use Rattle.zk_lower.specs.Meant.{handler_left, initial_left, expiry_left}

-- lines that were printed, and rows that were written
pub record Told : Type 0 where
  pub lines : List (List ℕ)
  pub rows : List Row

-- a world in which this was told before
abbrev pub behind : Told → World → World
behind told world = record world { lines = told.lines ++ world.lines; rows = told.rows ++ world.rows }

abbrev pub state_behind : Told → State → State
state_behind told state = record state { world = behind told state.world }

abbrev pub ran_behind : {A : Type 0} → Told → Ran A → Ran A
ran_behind told (Gives a state) = Gives a (state_behind told state)
ran_behind told (Faults kind place world units) = Faults kind place (behind told world) units
ran_behind told (Spent place world) = Spent place (behind told world)

abbrev pub left_behind : Told → Left → Left
left_behind told left = record left { world = behind told left.world }

-- Where more was told before, a body ends alike and tells the same behind it.
abbrev pub HandlersGoOn : Type 0
HandlersGoOn = (told : Told) (program : Program) (number : ℕ) (args : List Value) (world : World) (budget : ℕ) → handler_left program number args (behind told world) budget ≡ option_map (left_behind told) (handler_left program number args world budget)

abbrev pub InitialsGoOn : Type 0
InitialsGoOn = (told : Told) (program : Program) (number : ℕ) (world : World) (budget : ℕ) → initial_left program number (behind told world) budget ≡ option_map (left_behind told) (initial_left program number world budget)

abbrev pub ExpiriesGoOn : Type 0
ExpiriesGoOn = (told : Told) (program : Program) (number : ℕ) (args : List Value) (world : World) (budget : ℕ) → expiry_left program number args (behind told world) budget ≡ option_map (ran_behind told) (expiry_left program number args world budget)

-- What a world told stands at the beginning of what a later one tells.
pub record Stays (before after : World) : Type 0 where
  pub more : Told
  pub lines : after.lines ≡ before.lines ++ more.lines
  pub rows : after.rows ≡ before.rows ++ more.rows

abbrev pub HandlersKeep : Type 0
HandlersKeep = (program : Program) (handler : Handler) (args : List Value) (world : World) (budget : ℕ) → Stays world (left (handler_body program handler args world budget)).world

abbrev pub InitialsKeep : Type 0
InitialsKeep = (program : Program) (number : ℕ) (global : Global) (world : World) (budget : ℕ) → Stays world (left (initial_body program number global world budget)).world

abbrev pub ExpiriesKeep : Type 0
ExpiriesKeep = (program : Program) (global : Global) (args : List Value) (world : World) (budget : ℕ) → Stays world (left (expiry_body program global args world budget)).world

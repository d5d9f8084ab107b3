-- Computations that keep the types of a world: from each world and names that are of their types on, what comes is of its
-- type, and the world and the names are of their types again, however the computation ends.
use Rattle.std.specs.Prelude.{◌≡◌, ℕ, Bool, true, false, Some, Option, None, slice_get}
use Rattle.zk_tree.specs.Value.{Value}
use Rattle.zk_typed.specs.declared.ends.FaultKind.{FaultKind}
use Rattle.zk_typed.specs.declared.ends.FaultKind.TheVariants as kind
use Rattle.zk_typed.specs.Does.{Does, Ran, Gives, Faults, Spent}
use Rattle.zk_typed.specs.Meaning.{Flow, Returned}
use Rattle.zk_typed.specs.Program.{Program}
use Rattle.zk_typed.specs.State.{State, World}
use Rattle.zk_typed.specs.Types.{ValueType}
use Rattle.zk_sound.specs.Holding.{Kinds, HasType, MayHaveType}
use Rattle.zk_sound.specs.Worlds.{Names, NamesFit, WorldFits}

-- where a computation stands: the program, the types of its names, and whether it must not meet what has no value
pub record Setting : Type 0 where
  pub program : Program
  pub names : Names
  pub strict : Bool

-- objects keep their types, and new ones may have come
pub record Grows (kinds later : Kinds) : Type 0 where
  pub kept : (number : ℕ) (of : ValueType) → slice_get kinds number ≡ Some of → slice_get later number ≡ Some of

pub record Fits (setting : Setting) (kinds : Kinds) (state : State) : Type 0 where
  pub world : WorldFits setting.program kinds state.world
  pub locals : NamesFit kinds setting.names state.locals

-- what comes of a computation
pub record Given {A : Type 0} (setting : Setting) (Of : Kinds → A → Type 0) (kinds : Kinds) (a : A) (state : State) : Type 0 where
  pub later : Kinds
  pub grows : Grows kinds later
  pub fits : Fits setting later state
  pub of : Of later a

-- what it leaves where it stops
pub record Stopped (program : Program) (kinds : Kinds) (world : World) : Type 0 where
  pub later : Kinds
  pub grows : Grows kinds later
  pub fits : WorldFits program later world

-- A value of another type would be met as what has no value is.
abbrev pub MayFault : Bool → FaultKind → Type 0
MayFault strict kind.Unset = strict ≡ false
MayFault strict other = Unit {0}

abbrev pub Ends : {A : Type 0} → Setting → (Kinds → A → Type 0) → Kinds → Ran A → Type 0
Ends setting Of kinds (Gives a state) = Given setting Of kinds a state
Ends setting Of kinds (Faults why place world units) = MayFault setting.strict why × Stopped setting.program kinds world
Ends setting Of kinds (Spent place world) = Stopped setting.program kinds world

pub record Keeps {A : Type 0} (setting : Setting) (Of : Kinds → A → Type 0) (kinds : Kinds) (does : Does A) : Type 0 where
  pub by : (state : State) → Fits setting kinds state → Ends setting Of kinds (does state)

-- what comes of a computation: nothing in particular, or a value of a type
abbrev pub Any : {A : Type 0} → Kinds → A → Type 0
Any kinds a = Unit {0}

abbrev pub Of : ValueType → Kinds → Value → Type 0
Of of kinds one = HasType kinds of one

-- what a function may end with that gives a value of a type, or none
abbrev pub GivenBack : Option ValueType → Kinds → Option Value → Type 0
GivenBack None kinds one = one ≡ None
GivenBack (Some of) kinds one = MayHaveType kinds of one

-- how a statement of such a function comes out
abbrev pub FlowOf : Option ValueType → Kinds → Flow → Type 0
FlowOf gives kinds (Returned given) = GivenBack gives kinds given
FlowOf gives kinds flow = Unit {0}

-- where nothing without a value may be met, and where it may
abbrev pub strictly : Program → Names → Setting
strictly program names = record { program = program; names = names; strict = true }

abbrev pub loose : Program → Names → Setting
loose program names = record { program = program; names = names; strict = false }

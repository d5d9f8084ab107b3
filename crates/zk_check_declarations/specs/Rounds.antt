-- The types of globals, round after round.
use Rattle.std.specs.Prelude.{◌≡◌, ℕ, suc, false, List, map, Option, Some, None, slice_get}
use Rattle.zk_tree.specs.declared.stmt.Init.{Init}
use Rattle.zk_typed.specs.Checked.{Checked, elsewhere}
use Rattle.zk_typed.specs.Declarations.{bodiless, global_type_to, marked, told_type, variable_type}
use Rattle.zk_typed.specs.LoadOrder.{Home}
use Rattle.zk_typed.specs.Names.{Declared}
use Rattle.zk_typed.specs.Resolving.{Scripts}
use Rattle.zk_typed.specs.Statements.{init_typed}
use Rattle.zk_typed.specs.Types.{ValueType}
use Rattle.zk_typed.specs.Typing.{Nothing}
use Rattle.zk_check_expressions.specs.declared.env.GlobalType.{GlobalType}
use Rattle.zk_check_expressions.specs.declared.env.Globals.{Globals}
use Rattle.zk_check_expressions.specs.Envs.{global_of, globals_at}
use Rattle.zk_check_declarations.specs.Staying.{Stays}

-- the type of an initial value, by those of the globals that it names
abbrev pub by_init : Scripts → (ℕ → Checked ValueType) → Home → Option Init → Checked ValueType
by_init scripts others home None = elsewhere
by_init scripts others home (Some init) = marked (init_typed (bodiless scripts home others) Nothing init)

-- the types of variables, by those of the others
abbrev pub filled : Scripts → (ℕ → Checked ValueType) → List Declared → List (Checked ValueType)
filled scripts others variables = map (λ one. variable_type scripts others (Some one)) variables

-- types by their numbers
abbrev pub type_in : Option (Checked ValueType) → Checked ValueType
type_in None = elsewhere
type_in (Some one) = one

abbrev pub types_at : List (Checked ValueType) → ℕ → Checked ValueType
types_at types number = type_in (slice_get types number)

-- these are the types of the globals by their numbers
pub record IsGlobals (types : List GlobalType) (told : ℕ → Checked ValueType) : Type 0 where
  pub are : (globals : Globals) → globals.types.now ≡ types → globals.circular ≡ false → globals_at globals ≡ told

-- types of globals of which as much is told as by so many rounds, and nothing else than at last
pub record IsAfter (scripts : Scripts) (round : ℕ) (types : List GlobalType) : Type 0 where
  pub so_far : (number : ℕ) → Stays (global_type_to (suc round) scripts number) (types_at (map global_of types) number)
  pub at_last : (number : ℕ) → Stays (types_at (map global_of types) number) (told_type scripts number)

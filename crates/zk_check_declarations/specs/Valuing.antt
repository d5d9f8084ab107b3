-- The values that names are given, as the definitions see them.
use Rattle.std.specs.Prelude.{◌≡◌, ℕ, List, [], ◌∷◌, map, Option, Some, None, if◌then◌else◌}
use Rattle.std.specs.Str.{bytes_eq}
use Rattle.zk_tree.specs.declared.decl.Decl.{out-Decl}
use Rattle.zk_tree.specs.declared.decl.Redefining.{Redefining}
use Rattle.zk_tree.specs.declared.decl.Redefining.TheVariants as redefining
use Rattle.zk_tree.specs.declared.name.Name.{Name}
use Rattle.zk_tree.specs.declared.stmt.Init.{Init}
use Rattle.zk_typed.specs.Declarations.{ValueGiven, given_by, values_of}
use Rattle.zk_typed.specs.LoadOrder.{Home, Stated}
use Rattle.zk_typed.specs.Names.{Declared, whole_name}
use Rattle.zk_typed.specs.Resolving.{Scripts}
use Rattle.zk_scope.specs.Lent.{home_of}
use Rattle.zk_check_declarations.specs.declared.values.Given.{Given}
use Rattle.zk_check_declarations.specs.declared.values.Values.{Values}
use Rattle.zk_check_declarations.specs.Grouping.{group_at}

abbrev pub given_of : Given → ValueGiven
given_of one = (home_of one.home, one.operator, one.init.now)

abbrev pub given_lent : List Given → List ValueGiven
given_lent given = map given_of given

abbrev pub given_at : Values → List ℕ → List ValueGiven
given_at values whole = given_lent (group_at values.given whole)

-- they are the values of all names of scripts
pub record IsValues (values : Values) (scripts : Scripts) : Type 0 where
  pub told : (whole : List ℕ) → given_at values whole ≡ values_of scripts whole

-- the initial value of a declaration, under its whole name
abbrev pub initial_at : List ℕ → Home → Name → Option Init → List ValueGiven
initial_at whole home name None = []
initial_at whole home name (Some init) = if bytes_eq (whole_name home.module_name name.text) whole then (home, redefining.Set, init) ∷ [] else []

-- a value that `redef` gives, under the whole name of what it means
abbrev pub anew_at : List ℕ → Home → Redefining → Init → Option Declared → List ValueGiven
anew_at whole home operator init None = []
anew_at whole home operator init (Some one) = if bytes_eq one.name whole then (home, operator, init) ∷ [] else []

abbrev pub stated_given : List ℕ → Scripts → Stated → List ValueGiven
stated_given whole scripts one = given_by whole scripts one.home (out-Decl one.decl)

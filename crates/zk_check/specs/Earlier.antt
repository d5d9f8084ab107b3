-- What the declarations before one have declared.
use Rattle.std.specs.Prelude.{◌≡◌, ℕ, List, [], ◌∷◌, Option, Ok}
use Rattle.std.specs.HashSet.{contains}
use Rattle.std.specs.List.{list_any}
use Rattle.std.specs.Str.{bytes_eq}
use Rattle.zk_tree.specs.declared.name.Name.{Name}
use Rattle.zk_tree.specs.declared.place.Place.{Place}
use Rattle.zk_tree.specs.declared.stmt.Init.{Init}
use Rattle.zk_tree.specs.declared.types.Attr.{Attr}
use Rattle.zk_tree.specs.declared.types.Type.{«Type»}
use Rattle.zk_typed.specs.Checked.{Checked, both}
use Rattle.zk_typed.specs.Declarations.{nothing, recursive_rules, type_rules}
use Rattle.zk_typed.specs.Declaring.{outright_of}
use Rattle.zk_typed.specs.Errors.{declared_before, is_body_of, uses_of}
use Rattle.zk_typed.specs.LoadOrder.{Home, Stated}
use Rattle.zk_typed.specs.Names.{Declared, whole_name}
use Rattle.zk_typed.specs.Resolving.{Scripts}
use Rattle.zk_typed.specs.Within.{mentions}
use Rattle.zk_check.specs.declared.rules.decls.Earlier.{Earlier}
use Rattle.zk_check_declarations.specs.declared.seen.Seen.{Seen}
use Rattle.zk_check_declarations.specs.Adding.{KnowsAll}
use Rattle.zk_check_declarations.specs.Paths.{HasPaths}
use Rattle.zk_check_declarations.specs.Seeing.{Sees}
use Rattle.zk_check_declarations.specs.Valued.{variable_rules}

-- the functions that have a body
pub record HasBodies (bodies : Seen) (before : List Stated) : Type 0 where
  pub has : (whole : List ℕ) → contains bytes_eq bodies.names whole ≡ list_any (is_body_of whole) before

-- it is what these declarations have declared
pub record IsEarlier (earlier : Earlier) (scripts : Scripts) (before : List Stated) : Type 0 where
  pub declared : Sees earlier.declared (declared_before before)
  pub bodies : HasBodies earlier.bodies before
  pub fields : KnowsAll earlier.fields (record scripts { stated = before })
  pub paths : HasPaths earlier.paths (uses_of scripts before)

abbrev pub type_decl : Scripts → Home → Name → «Type» → Checked (Unit {0})
type_decl scripts home name tree = nothing (both (type_rules scripts home tree) (recursive_rules scripts home (whole_name home.module_name name.text) (mentions tree)))

-- a declaration by the names that it declares outright
abbrev pub first_rules : Scripts → Home → Place → Option «Type» → Option Init → List Attr → List Declared → Checked (Unit {0})
first_rules scripts home place tree init attrs [] = Ok tt
first_rules scripts home place tree init attrs (declared ∷ others) = variable_rules scripts home place tree init attrs declared

abbrev pub variable_decl : Scripts → Stated → Place → Option «Type» → Option Init → List Attr → Checked (Unit {0})
variable_decl scripts one place tree init attrs = first_rules scripts one.home place tree init attrs (outright_of one)

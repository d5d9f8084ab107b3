-- The rules of initial values and of values that are given anew.
use Rattle.std.specs.Prelude.{◌≡◌, ℕ, codes, List, Option, Some, None, Ok, Err}
use Rattle.zk_tree.specs.declared.decl.Lasting.{Lasting}
use Rattle.zk_tree.specs.declared.decl.Redefining.{Redefining}
use Rattle.zk_tree.specs.declared.place.Place.{Place}
use Rattle.zk_tree.specs.declared.stmt.Init.{Init}
use Rattle.zk_tree.specs.declared.stmt.Init.TheVariants as init
use Rattle.zk_tree.specs.Places.{expr_place}
use Rattle.zk_tree.specs.declared.types.Attr.{Attr}
use Rattle.zk_tree.specs.declared.types.Type.{«Type»}
use Rattle.zk_typed.specs.declared.rule.Rule.TheVariants as rule
use Rattle.zk_typed.specs.Checked.{Checked, both, require, ◌>>=◌, ◌>>◌}
use Rattle.zk_typed.specs.Declarations.{global_attrs, global_type, told_type, type_rules}
use Rattle.zk_typed.specs.Errors.{bodiless_rules, init_checked, number_of_variable, redef_value, redef_wants, telling_value, value_rules}
use Rattle.zk_typed.specs.LoadOrder.{Home}
use Rattle.zk_typed.specs.Names.{Declared, Meant, Variable, Event, Hook, Function}
use Rattle.zk_typed.specs.Resolving.{Scripts, has_attr, place_in, type_of}
use Rattle.zk_typed.specs.Types.{ValueType}
use Rattle.zk_typed.specs.Typing.{wanted_of}
use Rattle.zk_scope.specs.Scripted.{scripts_in}
use Rattle.zk_check_expressions.specs.Envs.{globals_at}
use Rattle.zk_check_declarations.specs.declared.variables.Valued.{Valued}
use Rattle.zk_check_declarations.specs.Grounds.{IsGround}

-- it has the types of all globals
pub record IsValued (valued : Valued) : Type 0 where
  pub ground : IsGround valued.ground
  pub same : scripts_in valued.scripts.now.names ≡ scripts_in valued.ground.names.now
  pub told : globals_at valued.told ≡ told_type (scripts_in valued.ground.names.now)
  pub known : globals_at valued.known ≡ global_type (scripts_in valued.ground.names.now)

-- the place of an initial value
abbrev pub place_of_init : Home → Init → Place
place_of_init home (init.Value one) = place_in home (expr_place one)
place_of_init home (init.Braces place values comma) = place_in home place

-- the type of an initial value
abbrev pub inferred : Scripts → Home → Init → Checked ValueType
inferred scripts home init = telling_value scripts home init >>= (λ given. Ok given.type)

-- a type that a declaration writes
abbrev pub written : Scripts → Home → «Type» → Checked ValueType
written scripts home tree = type_rules scripts home tree >> type_of scripts home tree

-- a type that a declaration writes beside an initial value
abbrev pub written_with : Scripts → Home → «Type» → Init → Checked ValueType
written_with scripts home tree init = both (type_rules scripts home tree) (init_checked scripts home (wanted_of (type_of scripts home tree)) init) >> type_of scripts home tree

-- a declaration of a global or a constant
abbrev pub global_rules : Scripts → Home → Place → Option «Type» → Option Init → List Attr → Lasting → List ℕ → Checked (Unit {0})
global_rules scripts home place tree init attrs lasting whole = value_rules scripts home place tree init >>= (λ type. global_attrs scripts home lasting whole type attrs)

-- a declaration by what its whole name is declared as
abbrev pub variable_rules : Scripts → Home → Place → Option «Type» → Option Init → List Attr → Declared → Checked (Unit {0})
variable_rules scripts home place tree init attrs declared = of_meant declared.meant
  where
    of_meant : Meant → Checked (Unit {0})
    of_meant (Variable same lasting other given more) = global_rules scripts home place tree init attrs lasting declared.name
    of_meant (Event signature) = bodiless_rules scripts home signature init attrs
    of_meant (Hook signature) = bodiless_rules scripts home signature init attrs
    of_meant (Function signature) = bodiless_rules scripts home signature init attrs
    of_meant other = Ok tt

-- a value that a global of a type is given anew
abbrev pub anew_value : Scripts → Home → Redefining → Init → Checked ValueType → Checked (Unit {0})
anew_value scripts home operator init type = redef_value scripts home init (type >>= (λ one. Ok (redef_wants operator one)))

abbrev pub redef_variable : Scripts → Home → Place → Redefining → Init → List Attr → Declared → Checked (Unit {0})
redef_variable scripts home place operator init attrs one =
    require (has_attr (codes "redef") attrs) rule.FixedGlobal place >> anew_value scripts home operator init (global_type scripts (number_of_variable scripts one))

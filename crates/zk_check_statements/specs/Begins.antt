-- What a `local` begins with.
use Rattle.std.specs.Prelude.{◌≡◌, ℕ, Bool, true, false, not, is_some, Option, Some, None, Result, Ok, Err}
use Rattle.std.specs.Option.{option_map}
use Rattle.zk_check_expressions.specs.Envs.{known_or}
use Rattle.zk_check_operators.specs.Gather.{Told}
use Rattle.zk_tree.specs.declared.name.Name.{Name}
use Rattle.zk_tree.specs.declared.place.Place.{Place}
use Rattle.zk_tree.specs.declared.stmt.Init.{Init}
use Rattle.zk_tree.specs.declared.types.Type.{«Type»}
use Rattle.zk_typed.specs.declared.rule.Rule.TheVariants as rule
use Rattle.zk_typed.specs.declared.refusal.Refusal.{Refusal}
use Rattle.zk_typed.specs.declared.script.action.Action.TheVariants as action
use Rattle.zk_typed.specs.declared.script.action.Left.TheVariants as left
use Rattle.zk_typed.specs.declared.script.types.ValueType.{ValueType as RustType}
use Rattle.zk_typed.specs.Checked.{Checked, both, each, require, ◌>>=◌, ◌>>◌}
use Rattle.zk_typed.specs.Forms as form
use Rattle.zk_typed.specs.Resolving.{type_of}
use Rattle.zk_typed.specs.Statements.{Context, Locals, local_type, local_value, local_whole, place_of, type_for}
use Rattle.zk_typed.specs.Tells.{Tells}
use Rattle.zk_typed.specs.Types.{ValueType}
use Rattle.zk_typed.specs.Typing.{Typed, local_meant, local_named}
use Rattle.zk_typed.specs.View.{stmt_of}
use Rattle.zk_typed.specs.View as view
use Rattle.zk_typed.specs.Within.{mentions}
use Rattle.zk_check_statements.specs.declared.begins.Begun.{Begun}

-- a name that no local hides
abbrev pub seen : Context → Locals → Name → Checked (Unit {0})
seen context locals name = require (not (is_some (local_meant name.text locals))) rule.WrongType (place_of context name.place)

-- the type that a `local` is declared with
abbrev pub declared_type : Context → Locals → «Type» → Checked ValueType
declared_type context locals tree = each (seen context locals) (mentions tree) >> type_of context.scripts context.home tree

-- that no other local has a name
abbrev pub once : Name → Locals → Place → Checked (Unit {0})
once name locals place = require (not (is_some (local_named name.text 0 locals))) rule.Twice place

-- a declaration with what is said of its name: beside it where it is bare, and else once its parts are right
abbrev pub named : Bool → Checked (Unit {0}) → Checked form.Stmt → Checked form.Stmt
named true name made = both name made >>= (λ parts. Ok parts.1)
named false name made = made >>= (λ one. name >> Ok one)

-- a declaration with neither a type nor a value
abbrev pub is_bare : Option «Type» → Option Init → Bool
is_bare None None = true
is_bare tree init = false

abbrev pub stmt_behind : Checked (ValueType × form.Stmt) → Checked form.Stmt
stmt_behind given = given >>= (λ one. Ok one.1)

-- an answer tells the statement, and the type that the name has from then on, unless memory ran out
pub record Begins (begun : Begun) (type : Option (Checked ValueType)) (wanted : Checked (ValueType × form.Stmt)) : Type 0 where
  pub made : Tells stmt_of begun.made (stmt_behind wanted)
  pub known : Told begun.made → known_or (option_map view.type_of begun.value_type) ≡ type_for type wanted

-- an answer tells a `local` with what is said of its name, and the type that the name has from then on, unless memory ran out
pub record IsMade (begun : Begun) (context : Context) (locals : Locals) (place : Place) (name : Name) (tree : Option «Type») (init : Option Init) : Type 0 where
  pub made : Tells stmt_of begun.made (local_whole tree init (once name locals place) (local_value context locals place (local_type context locals tree) init))
  pub known : Told begun.made → known_or (option_map view.type_of begun.value_type) ≡ type_for (local_type context locals tree) (local_value context locals place (local_type context locals tree) init)

-- whether a type is right, and the type, where it is known
abbrev pub IsKnown : Result RustType Refusal → Result (Unit {0}) Refusal × Option RustType → Type 0
IsKnown (Ok one) given = given ≡ (Ok tt, Some one)
IsKnown (Err refusal) given = given ≡ (Err refusal, None)

-- a local that is given a value
abbrev pub given_of : Place → ℕ → Checked (Unit {0}) → Checked Typed → Checked form.Stmt
given_of place number declared value = both declared value >>= (λ parts. Ok (form.Do place (action.Assign (left.Local number)) (form.AndExpr parts.1.expr form.NoExpr)))

-- Where an expression stands, and what the Rust types of typed forms stand for.
use Rattle.std.specs.Prelude.{List, [], ℕ, false, map, slice_get, Option, Some, None, Ok, if◌then◌else◌}
use Rattle.std.specs.Borrow.{Bor}
use Rattle.std.specs.Option.{option_map}
use Rattle.zk_tree.specs.declared.decl.Lasting.TheVariants as lasting
use Rattle.zk_tree.specs.declared.expr.Item.{Item}
use Rattle.zk_tree.specs.declared.expr.Part.{Part}
use Rattle.zk_tree.specs.declared.name.Name.{Name}
use Rattle.zk_scope.specs.Lent.{home_of, declared_of}
use Rattle.zk_scope.specs.Scripted.{scripts_in}
use Rattle.zk_check_operators.specs.Views.{typed_of, typed_all}
use Rattle.zk_typed.specs.Checked.{Checked, elsewhere}
use Rattle.zk_typed.specs.Declarations.{circular}
use Rattle.zk_typed.specs.Expressions.{Side}
use Rattle.zk_typed.specs.Making.{Called, Gives, Performs}
use Rattle.zk_typed.specs.Names.{Declared, Variable}
use Rattle.zk_typed.specs.Types.{ValueType}
use Rattle.zk_typed.specs.Typing.{LocalName, Env}
use Rattle.zk_typed.specs.View.{type_of, all_of}
use Rattle.zk_check_expressions.specs.declared.called.Called.{Called as RustCalled}
use Rattle.zk_check_expressions.specs.declared.called.Called.TheVariants as called
use Rattle.zk_check_expressions.specs.declared.env.Env.{Env as LentEnv}
use Rattle.zk_check_expressions.specs.declared.env.GlobalType.{GlobalType as RustGlobal}
use Rattle.zk_check_expressions.specs.declared.env.GlobalType.TheVariants as global
use Rattle.zk_check_expressions.specs.declared.env.Globals.{Globals as LentGlobals}
use Rattle.zk_check_expressions.specs.declared.env.LocalName.{LocalName as LentLocal}
use Rattle.zk_check_expressions.specs.declared.found.Found.{Found as LentFound}
use Rattle.zk_check_expressions.specs.declared.found.Found.TheVariants as found
use Rattle.zk_check_expressions.specs.declared.side.Side.{Side as RustSide}

-- a type that isn't there is broken elsewhere
abbrev pub known_or : Option ValueType → Checked ValueType
known_or None = elsewhere
known_or (Some one) = Ok one

abbrev pub local_of : LentLocal → LocalName
local_of one = record { name = one.name.now; type = known_or (option_map type_of one.value_type) }

abbrev pub local_found : ℕ × Bor LentLocal → ℕ × Checked ValueType
local_found one = (one.0, (local_of one.1.now).type)

abbrev pub locals_of : List LentLocal → List LocalName
locals_of locals = map local_of locals

-- those that are visible, which are none outside a body
abbrev pub visible : Option (Bor (List LentLocal)) → List LocalName
visible None = []
visible (Some locals) = locals_of locals.now

abbrev pub global_of : RustGlobal → Checked ValueType
global_of (global.Known one) = Ok (type_of one)
global_of global.Unknown = elsewhere
global_of global.Circular = circular

-- the type of a global by its number
abbrev pub globals_at : LentGlobals → ℕ → Checked ValueType
globals_at globals number = of_one (slice_get globals.types.now number)
  where
    of_one : Option RustGlobal → Checked ValueType
    of_one None = if globals.circular then circular else elsewhere
    of_one (Some one) = global_of one

abbrev pub env_of : LentEnv → Env
env_of env = record {
  scripts = scripts_in env.scripts.now.names;
  home = home_of env.home;
  locals = visible env.locals;
  global_type = globals_at env.globals;
}

abbrev pub side_of : RustSide → Side
side_of one = record {
  left = one.left;
  operands = all_of one.operands;
  type = type_of one.value_type;
  fixed = one.fixed;
  expires = one.expires;
}

abbrev pub called_of : RustCalled → Called
called_of (called.Gives one) = Gives (typed_of one)
called_of (called.Performs function args) = Performs function (typed_all args.items)

-- what a name means; a local hides what else has its name, and is a variable
abbrev pub found_of : Env → Name → LentFound → Option Declared
found_of env name found.Local = Some (record { name = name.text; exported = false; meant = Variable env.home lasting.Global None None [] })
found_of env name (found.Declared one) = Some (declared_of one.now)
found_of env name found.Nothing = None

-- a call of a name at the front of an expression, with the parts behind it
abbrev pub call_in : Bor Name × Bor (List Item) × Bor (List Part) → Name × List Item × List Part
call_in call = (call.0.now, call.1.now, call.2.now)

-- Parts of a program, as they are put together.
use Rattle.std.specs.Prelude.{◌≡◌, ℕ, ℤ, pos, neg_ℤ, List, [], ◌∷◌, filter, flat_map, length, map, Option, Some, None, Result, Ok, Err}
use Rattle.std.specs.Option.{option_and_then}
use Rattle.std.specs.Borrow.{Bor}
use Rattle.zk_scope.specs.declared.declared.Signature.{Signature as LentSignature}
use Rattle.zk_scope.specs.Lent.{signature_of}
use Rattle.zk_tree.specs.declared.decl.Decl.{out-Decl}
use Rattle.zk_tree.specs.declared.stmt.Block.{Block}
use Rattle.zk_tree.specs.declared.types.Attr.{Attr}
use Rattle.zk_tree.specs.declared.types.Param.{Param}
use Rattle.zk_typed.specs.declared.refusal.Refusal.{Refusal}
use Rattle.zk_typed.specs.declared.refusal.Refusal.TheVariants.{Broken, NoMemory}
use Rattle.zk_typed.specs.declared.script.literal.DefaultValue.{DefaultValue}
use Rattle.zk_typed.specs.declared.script.literal.DefaultValue.TheVariants as default
use Rattle.zk_typed.specs.declared.script.literal.Literal.TheVariants as literal
use Rattle.zk_typed.specs.declared.script.literal.Sign.TheVariants.{Negated}
use Rattle.zk_base.specs.declared.Mem.{Mem}
use Rattle.zk_typed.specs.Errors.{body_made}
use Rattle.zk_typed.specs.Declarations.{constant_typed, env_at, variables}
use Rattle.zk_typed.specs.Forms as form
use Rattle.zk_typed.specs.LoadOrder.{File, Home, Stated as LoadStated}
use Rattle.zk_typed.specs.Names.{Declared, Signature, Known}
use Rattle.zk_typed.specs.Program as program
use Rattle.zk_typed.specs.Programs.{event_of, function_of, globals_from, handler_in, hook_of, if_checked, no_stmt, priority_of, records_of, stmt_in}
use Rattle.zk_typed.specs.Resolving.{Scripts, attr_value}
use Rattle.zk_typed.specs.Types.{ValueType}
use Rattle.zk_typed.specs.Statements.{InHandler, Stated}
use Rattle.zk_typed.specs.Typing.{is_event, is_function, is_hook, number_among}
use Rattle.zk_typed.specs.View as view
use Rattle.zk_typed.specs.View.{global_of, record_of, stmt_of}
use Rattle.zk_check.specs.declared.program.Code.{Code}
use Rattle.zk_check.specs.declared.program.Data.{Data}
use Rattle.zk_check.specs.declared.program.bodies.Body.{Body}
use Rattle.zk_check_declarations.specs.Logging.{logs_of}

-- what was checked, where no rule is broken in it
abbrev pub IsChecked : {A : Type 0} → Result A Refusal → Result (Option A) Mem → Type 0
IsChecked (Ok one) (Ok given) = given ≡ Some one
IsChecked (Err (Broken rules)) (Ok given) = given ≡ None
IsChecked (Err NoMemory) (Ok given) = ⊥
IsChecked checked (Err memory) = Unit {0}

-- the value of an attribute where a type is wanted, where it is right
abbrev pub value_of : Scripts → Home → List Attr → List ℕ → ValueType → Option DefaultValue
value_of scripts home attrs name wanted = option_and_then (λ one. if_checked (constant_typed (env_at scripts home) wanted one)) (attr_value name attrs)

-- no statements stand for what isn't right
abbrev pub stmts_or : Option form.Stmt → form.Stmt
stmts_or None = no_stmt
stmts_or (Some body) = body

-- a body, by what judging it gives
pub record IsBody (body : Body) (wanted : Stated) : Type 0 where
  pub stmts : stmt_of body.body ≡ stmt_in wanted
  pub many : body.locals ≡ length wanted.locals

-- the number that a literal is, as an int
abbrev pub priority_in : Option DefaultValue → ℤ
priority_in (Some (default.Literal (literal.Count number) Negated)) = neg_ℤ (pos number)
priority_in (Some (default.Literal (literal.Count number) sign)) = pos number
priority_in other = pos 0

abbrev pub signature_or : Option (Bor LentSignature) → Signature
signature_or None = Known []
signature_or (Some one) = signature_of one.now

-- Handlers ---------------------------------------------------------------------------------------------------------

-- a handler of what its name means
abbrev pub handler_made : Scripts → Declared → Home → List Param → List Attr → Block → program.Handler
handler_made scripts one home params attrs block =
    let given = body_made scripts home InHandler params block in
    record {
      event = record { 0 = number_among is_event scripts one };
      priority = priority_of scripts home attrs;
      locals = length given.locals;
      body = stmt_in given;
    }

-- the handlers of what a body's name means
abbrev pub handlers_at : Scripts → Home → List Param → List Attr → Block → Option Declared → List program.Handler
handlers_at scripts home params attrs block None = []
handlers_at scripts home params attrs block (Some one) = handler_made scripts one home params attrs block ∷ []

abbrev pub stated_handlers : Scripts → LoadStated → List program.Handler
stated_handlers scripts one = handler_in scripts one.home (out-Decl one.decl)

-- Programs ---------------------------------------------------------------------------------------------------------

abbrev pub file_names : List File → List (List ℕ)
file_names files = map (λ file. file.name) files

-- the typed program of files, by what they declare
abbrev pub program_in : List File → Scripts → program.Program
program_in files scripts = record {
  files = file_names files;
  records = records_of scripts;
  logs = logs_of scripts;
  globals = globals_from scripts 0 (variables scripts);
  functions = map (function_of scripts) (filter is_function scripts.names);
  hooks = map (hook_of scripts) (filter is_hook scripts.names);
  events = map (event_of scripts) (filter is_event scripts.names);
  handlers = flat_map (stated_handlers scripts) scripts.stated;
}

-- what a program has beside its bodies
pub record IsData (made : Data) (given : List File) (scripts : Scripts) : Type 0 where
  pub files : made.files ≡ file_names given
  pub records : map record_of made.records ≡ records_of scripts
  pub logs : made.logs ≡ logs_of scripts
  pub globals : map global_of made.globals ≡ globals_from scripts 0 (variables scripts)

-- the bodies of a program, and its events
pub record IsCode (made : Code) (scripts : Scripts) : Type 0 where
  pub functions : map view.function_of made.functions ≡ map (function_of scripts) (filter is_function scripts.names)
  pub hooks : map view.hook_of made.hooks ≡ map (hook_of scripts) (filter is_hook scripts.names)
  pub events : map view.event_of made.events ≡ map (event_of scripts) (filter is_event scripts.names)
  pub handlers : map view.handler_of made.handlers ≡ flat_map (stated_handlers scripts) scripts.stated

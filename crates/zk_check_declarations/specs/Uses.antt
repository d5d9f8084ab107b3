-- What the calls of the log framework in scripts write to paths.
use Rattle.std.specs.Prelude.{ℕ, Bool, true, false, List, [], ◌∷◌, map, flat_map, Option, Some, None, Ok, Err, if◌then◌else◌, ◌==◌}
use Rattle.zk_base.specs.declared.numbers.LogId.{LogId}
use Rattle.zk_base.specs.declared.numbers.RecordNo.{RecordNo}
use Rattle.zk_tree.specs.declared.decl.Decl.{out-Decl}
use Rattle.zk_typed.specs.declared.script.log_call.LogCall.{LogCall}
use Rattle.zk_typed.specs.declared.script.log_call.LogCall.TheVariants as log
use Rattle.zk_typed.specs.declared.script.primitive.Primitive.{Primitive}
use Rattle.zk_typed.specs.declared.script.primitive.Primitive.TheVariants as primitive
use Rattle.zk_typed.specs.declared.script.program.Log.{Log}
use Rattle.zk_typed.specs.Checked.{Checked}
use Rattle.zk_typed.specs.Errors.{PathUse, leaves_of_log, log_call, log_calls, stream_paths}
use Rattle.zk_typed.specs.Forms as form
use Rattle.zk_typed.specs.LoadOrder.{Stated}
use Rattle.zk_typed.specs.LogCalls.{LeafInfo, all_calls, decl_calls, leaves, logged}
use Rattle.zk_typed.specs.Logs.{picked}
use Rattle.zk_typed.specs.Names.{Declared, Meant, Log as LogMeant}
use Rattle.zk_typed.specs.Resolving.{Scripts}
use Rattle.zk_typed.specs.Typing.{Typed}
use Rattle.zk_check_declarations.specs.declared.logging.StreamPath.{StreamPath}

-- the call of the log framework that a primitive is, and that an expression is
abbrev pub log_primitive : Primitive → Option LogCall
log_primitive (primitive.Log call) = Some call
log_primitive other = None

abbrev pub log_form : form.Expr → Option LogCall
log_form (form.Apply one operands) = log_primitive one
log_form other = None

-- what is there
abbrev pub if_there : {A : Type 0} → Option A → List A
if_there None = []
if_there (Some one) = one ∷ []

-- the call of the log framework that is typed
abbrev pub calls_typed : Checked Typed → List LogCall
calls_typed (Ok one) = if_there (log_form one.expr)
calls_typed (Err rules) = []

-- whether it is a function of the log framework
abbrev pub is_log : Meant → Bool
is_log (LogMeant function) = true
is_log other = false

abbrev pub means_log : Option Declared → Bool
means_log None = false
means_log (Some one) = is_log one.meant

-- a stream and its path
abbrev pub created_by : LogCall → List (LogId × List ℕ)
created_by (log.Create number event path policy columns) = (number, path) ∷ []
created_by other = []

-- the streams that a declaration creates, and those of several
abbrev pub stated_created : Scripts → Stated → List (LogId × List ℕ)
stated_created scripts one = flat_map (λ call. flat_map created_by (log_call scripts call)) (decl_calls one.home (out-Decl one.decl))

abbrev pub created_in : Scripts → List (LogId × List ℕ)
created_in scripts = flat_map (stated_created scripts) scripts.stated

-- the paths of the streams of a log
abbrev pub paths_of : LogId → List (LogId × List ℕ) → List (List ℕ)
paths_of number [] = []
paths_of number (one ∷ others) = if one.0.0 == number.0 then one.1 ∷ paths_of number others else paths_of number others

abbrev pub stream_path : StreamPath → LogId × List ℕ
stream_path one = (one.log, one.path)

abbrev pub streams_lent : List StreamPath → List (LogId × List ℕ)
streams_lent streams = map stream_path streams

-- columns, by their numbers, that are written to a path
abbrev pub use_with : List LeafInfo → List ℕ → List ℕ → PathUse
use_with leaves places path = record { path = path; columns = picked leaves places }

-- what a filter writes: to its own path, or to those of the streams of its log
abbrev pub filter_use : Scripts → LogId → Option (List ℕ) → List ℕ → List PathUse
filter_use scripts number (Some path) columns = use_with (logged (leaves_of_log scripts number)) columns path ∷ []
filter_use scripts number None columns = map (use_with (logged (leaves_of_log scripts number)) columns) (stream_paths number (log_calls scripts (all_calls scripts)))

-- what the columns of a log can be, by the record type that it has
abbrev pub leaves_typed : Scripts → Option RecordNo → List LeafInfo
leaves_typed scripts None = []
leaves_typed scripts (Some type) = leaves scripts type

abbrev pub leaves_found : Scripts → Option Log → List LeafInfo
leaves_found scripts None = []
leaves_found scripts (Some log) = leaves_typed scripts log.columns

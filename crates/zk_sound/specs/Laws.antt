-- The laws: what typed programs promise of their values.
use Rattle.std.specs.Prelude.{◌≡◌, ◌≢◌, ◌≤ℤ◌, ℕ, pos, List, [], map, Err, Option, Some, None, Ok, slice_get}
use Rattle.std.specs.List.{AllByRecursion}
use Rattle.zk_agenda.specs.Laws.{AreInOrder, IsInTime, ItemsGo, TablesStay}
use Rattle.zk_base.specs.declared.time.Moment.{Moment}
use Rattle.zk_tree.specs.declared.expr.Expr.{Expr as Written}
use Rattle.zk_tree.specs.declared.place.Place.{Place}
use Rattle.zk_tree.specs.Table.{last_moment}
use Rattle.zk_tree.specs.Value.{Value}
use Rattle.zk_tree.specs.declared.stmt.Block.{Block}
use Rattle.zk_typed.specs.declared.script.action.Action.{Action}
use Rattle.zk_typed.specs.declared.script.primitive.Primitive.{Primitive}
use Rattle.zk_tree.specs.declared.types.Type.{«Type»}
use Rattle.zk_typed.specs.Declaring.{scripts_of}
use Rattle.zk_typed.specs.Errors.{errors}
use Rattle.zk_typed.specs.LoadOrder.{File, Home, load_order}
use Rattle.zk_typed.specs.Resolving.{FieldInfo, type_of, fields_of}
use Rattle.zk_base.specs.declared.numbers.RecordNo.{RecordNo}
use Rattle.zk_typed.specs.Columns.{record_fields}
use Rattle.zk_typed.specs.Dispatch.{dispatch, initial_body, world_after}
use Rattle.zk_typed.specs.Expressions.{expr_typed}
use Rattle.zk_typed.specs.Forms.{Expr, Stmt}
use Rattle.zk_typed.specs.Log.{Row}
use Rattle.zk_typed.specs.LogCalls.{log_type}
use Rattle.zk_typed.specs.Meaning.{calls, value, does}
use Rattle.zk_typed.specs.Primitives.{perform, act}
use Rattle.zk_typed.specs.Program.{Program, Global}
use Rattle.zk_typed.specs.Programs.{Typed as TypedProgram}
use Rattle.zk_typed.specs.Running.{Item, expire_of, world_in, run}
use Rattle.zk_typed.specs.State.{World}
use Rattle.zk_typed.specs.Statements.{Context, Locals, body_typed}
use Rattle.zk_typed.specs.Types.{ValueType}
use Rattle.zk_typed.specs.Typing.{Env, Typed, Wanted}
use Rattle.zk_typed.specs.World.{Queued}
use Rattle.zk_ascii.specs.Fits.{Fit}
use Rattle.zk_ascii.specs.Text.{row_text}
use Rattle.zk_sound.specs.Holding.{Kinds, HaveTypes}
use Rattle.zk_sound.specs.Rows.{RowFits, CellIsBytes, shown_cell, shown_column}
use Rattle.zk_sound.specs.Worlds.{Names, field_type, QueuedFits, WorldFits}
use Rattle.zk_sound.specs.Having.{Takes, ReadsNoName, ActionTakes, ActsOnNoName, HasForm, StmtFits, FieldBegins, FunctionFits, HandlerFits, ValuesFit, ProgramFits}
use Rattle.zk_sound.specs.Agreeing.{Agrees, SaysItsScripts, EnvAgrees, IsClear, LogsFit, ValuesLogFit, StmtLogsFit, LocalsAgree, StandsIn}
use Rattle.zk_sound.specs.Telling.{HeadIsKnown, BodyIsDeclared}
use Rattle.zk_sound.specs.Keeping.{Keeps, Stopped, Any, Of, FlowOf, strictly, loose}

-- Operations -------------------------------------------------------------------------------------------------------

-- A primitive meets no value of another type: with operands of the types that it takes it gives a value of its type, or is at
-- fault for what their values are.
abbrev pub PrimitivesTakeTypes : Type 0
PrimitivesTakeTypes = (program : Program) (names : Names) (kinds : Kinds) (place : Place) (one : Primitive) (types : List ValueType) (args : List Value) (of : ValueType) → ReadsNoName one →
    Takes program names one types of → HaveTypes kinds types args → Keeps (strictly program names) (Of of) kinds (perform place one args)

-- nor does an action
abbrev pub ActionsTakeTypes : Type 0
ActionsTakeTypes = (program : Program) (names : Names) (kinds : Kinds) (place : Place) (one : Action) (types : List ValueType) (args : List Value) → ActsOnNoName one →
    ActionTakes program names one types → HaveTypes kinds types args → Keeps (strictly program names) Any kinds (act place one args)

-- Forms ------------------------------------------------------------------------------------------------------------

-- the value of a form that has a type is of that type, however deep calls may stand within it
abbrev pub ExpressionsKeepTypes : Type 0
ExpressionsKeepTypes = (program : Program) (names : Names) (kinds : Kinds) (depth : ℕ) (place : Place) (one : Expr) (of : ValueType) → ProgramFits program →
    HasForm program names one of → Keeps (loose program names) (Of of) kinds (value program (calls program depth) place one)

abbrev pub StatementsKeepTypes : Type 0
StatementsKeepTypes = (program : Program) (names : Names) (kinds : Kinds) (depth : ℕ) (gives : Option ValueType) (one : Stmt) → ProgramFits program →
    StmtFits program names gives one → Keeps (loose program names) (FlowOf gives) kinds (does program (calls program depth) one)

-- Expressions as they are written ---------------------------------------------------------------------------------------

-- the typed form that the rules give an expression has the type that they give it
abbrev pub RulesGiveForms : Type 0
RulesGiveForms = (program : Program) (names : Names) (env : Env) (wanted : Wanted) (written : Written) (made : Typed) → EnvAgrees program names env → IsClear wanted →
    expr_typed env wanted written ≡ Ok made → LogsFit program made.expr → HasForm program names made.expr made.type

-- So has that of a body, where the names are of their types that are visible at its end.
abbrev pub RulesGiveStatements : Type 0
RulesGiveStatements = (program : Program) (names : Names) (gives : Option ValueType) (context : Context) (locals : Locals) (block : Block) (made : Stmt) → StandsIn program gives context →
    LocalsAgree names (body_typed context locals block).locals → (body_typed context locals block).made ≡ Ok made → StmtLogsFit program made → StmtFits program names gives made

-- The value of an expression has that type, from each world and names that are of their types on.
abbrev pub ValuesHaveTypes : Type 0
ValuesHaveTypes = (program : Program) (names : Names) (env : Env) (wanted : Wanted) (written : Written) (made : Typed) (kinds : Kinds) (depth : ℕ) (place : Place) → ProgramFits program →
    EnvAgrees program names env → IsClear wanted → expr_typed env wanted written ≡ Ok made → LogsFit program made.expr →
    Keeps (loose program names) (Of made.type) kinds (value program (calls program depth) place made.expr)

-- Bodies -----------------------------------------------------------------------------------------------------------

-- the handlers of an event leave a world of its types
abbrev pub HandlersKeepTypes : Type 0
HandlersKeepTypes = (program : Program) (kinds : Kinds) (budget : ℕ) (world : World) (what : Queued) → ProgramFits program →
    WorldFits program kinds world → QueuedFits program kinds what → Stopped program kinds (dispatch program budget world what)

-- so does the initial value of a global or a constant
abbrev pub InitialsKeepTypes : Type 0
InitialsKeepTypes = (program : Program) (kinds : Kinds) (budget number : ℕ) (world : World) (one : Global) → ProgramFits program → slice_get program.globals number ≡ Some one →
    WorldFits program kinds world → Stopped program kinds (world_after program (initial_body program number one world budget))

-- and the end of an entry of a global, by its expiry function
abbrev pub ExpiriesKeepTypes : Type 0
ExpiriesKeepTypes = (program : Program) (kinds : Kinds) (budget number order : ℕ) (world : World) → ProgramFits program →
    WorldFits program kinds world → Stopped program kinds (expire_of program budget number order world (slice_get program.globals number))

-- Runs -------------------------------------------------------------------------------------------------------------

-- what an item of a capture raises is of its types
abbrev pub RaisesFit : Program → Item → Type 0
RaisesFit program item = (kinds : Kinds) (world : World) → WorldFits program kinds world → Stopped program kinds (item.raises world)

-- the world to which a run comes is of its types, whatever the items raise that is of its types
abbrev pub RunsKeepTypes : Type 0
RunsKeepTypes = (program : Program) (budget : ℕ) (items : List Item) (last : Moment) → ProgramFits program →
    AllByRecursion (RaisesFit program) items → (kinds : Kinds) × WorldFits program kinds (world_in (run program budget items last))

-- Scripts that break no rule ------------------------------------------------------------------------------------------

-- Where no rule is told, no type is broken: what is not told of a type, for it rests on what is broken elsewhere, is told there.
abbrev pub TypesAreTold : Type 0
TypesAreTold = (files : List File) (home : Home) (tree : «Type») → errors files ≡ [] → type_of (scripts_of files) home tree ≢ Err []

-- Nor is the record type of a log that has a stream unknown.
abbrev pub LogsAreTold : Type 0
LogsAreTold = (files : List File) (word : List ℕ) → errors files ≡ [] → log_type (scripts_of files) word ≢ Some None

-- So each declared type and each type in the head of a body is known,
abbrev pub HeadsAreKnown : Type 0
HeadsAreKnown = (files : List File) → errors files ≡ [] → AllByRecursion (HeadIsKnown (scripts_of files)) (load_order files)

-- and a body has the types of the declaration that is found by its name.
abbrev pub BodiesAreDeclared : Type 0
BodiesAreDeclared = (files : List File) → errors files ≡ [] → AllByRecursion (BodyIsDeclared (scripts_of files)) (load_order files)

-- The functions of a typed program that says what its scripts say have the types of their declarations, where what they say
-- of logs fits,
abbrev pub TypedFunctionsFit : Type 0
TypedFunctionsFit = (files : List File) (program : Program) → TypedProgram files program → Agrees program (scripts_of files) →
    AllByRecursion (λ one. StmtLogsFit program one.body) program.functions → AllByRecursion (FunctionFits program) program.functions

-- and so have its handlers.
abbrev pub TypedHandlersFit : Type 0
TypedHandlersFit = (files : List File) (program : Program) → TypedProgram files program → Agrees program (scripts_of files) →
    AllByRecursion (λ one. StmtLogsFit program one.body) program.handlers → AllByRecursion (HandlerFits program) program.handlers

-- So have the values that its globals begin with,
abbrev pub TypedValuesFit : Type 0
TypedValuesFit = (files : List File) (program : Program) → TypedProgram files program → Agrees program (scripts_of files) →
    AllByRecursion (ValuesLogFit program) program.globals → AllByRecursion (ValuesFit program) program.globals

-- and its fields have the types that its scripts give them
abbrev pub TypedFieldsAgree : Type 0
TypedFieldsAgree = (files : List File) (program : Program) → TypedProgram files program → (number : RecordNo) (n : ℕ) (field : FieldInfo) (of : ValueType) →
    slice_get (fields_of (scripts_of files) number.0) n ≡ Some field → field.field_type ≡ Ok of → field_type program number n ≡ Some of

-- and begin with values of these, whatever else.
abbrev pub TypedFieldsBegin : Type 0
TypedFieldsBegin = (files : List File) (program : Program) → TypedProgram files program → (number : RecordNo) → AllByRecursion FieldBegins (record_fields program number)

-- Where a typed program says what its scripts say, it is one that fits.
abbrev pub TypedProgramsFit : Type 0
TypedProgramsFit = (files : List File) (program : Program) → TypedProgram files program → SaysItsScripts program (scripts_of files) → ProgramFits program

-- So each of its bodies keeps the types of the world, however it ends, as does its whole run.
abbrev pub TypedHandlersKeepTypes : Type 0
TypedHandlersKeepTypes = (files : List File) (program : Program) (kinds : Kinds) (budget : ℕ) (world : World) (what : Queued) → TypedProgram files program →
    SaysItsScripts program (scripts_of files) → WorldFits program kinds world → QueuedFits program kinds what → Stopped program kinds (dispatch program budget world what)

abbrev pub TypedRunsKeepTypes : Type 0
TypedRunsKeepTypes = (files : List File) (program : Program) (budget : ℕ) (items : List Item) (last : Moment) → TypedProgram files program → SaysItsScripts program (scripts_of files) →
    AllByRecursion (RaisesFit program) items → (kinds : Kinds) × WorldFits program kinds (world_in (run program budget items last))

-- Nor does a body of a typed program give a global whose entries expire another value, so these keep their tables.
abbrev pub TypedTablesStay : Type 0
TypedTablesStay = (files : List File) (program : Program) → TypedProgram files program → TablesStay program

-- So network time never falls over a run of a typed program, and of two turns the one that is due earlier comes first.
abbrev pub TypedTimesRise : Type 0
TypedTimesRise = (files : List File) (program : Program) (budget : ℕ) (items : List Item) (last : Moment) → TypedProgram files program → ItemsGo items
    → AreInOrder (record { 0 = pos 0 }) items last → last.0 ≤ℤ last_moment → IsInTime program budget items last

-- Rows -------------------------------------------------------------------------------------------------------------

-- each row that a run has written has cells that fit their columns
abbrev pub RunsWriteRowsThatFit : Type 0
RunsWriteRowsThatFit = (program : Program) (budget : ℕ) (items : List Item) (last : Moment) → ProgramFits program →
    AllByRecursion (RaisesFit program) items → AllByRecursion RowFits (world_in (run program budget items last)).rows

-- as log files have such a row, each cell fits its column, where strings are of bytes
abbrev pub ShownRowsFit : Type 0
ShownRowsFit = (row : Row) → RowFits row → AllByRecursion CellIsBytes row.cells → Fit (map shown_column row.columns) (map shown_cell row.cells)

-- so the text of such a row is that of no other row of the same columns
abbrev pub TextsTellRows : Type 0
TextsTellRows = (a b : Row) → RowFits a → RowFits b → AllByRecursion CellIsBytes a.cells → AllByRecursion CellIsBytes b.cells → a.columns ≡ b.columns →
    row_text (map shown_cell a.cells) ≡ row_text (map shown_cell b.cells) → a.cells ≡ b.cells

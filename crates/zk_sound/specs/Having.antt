-- Which typed forms have a type: a rule for each form, and a row for each primitive and each action, with the types of the
-- operands that it takes (Zeek manual, Expressions; Statements).
use Rattle.std.specs.Prelude.{◌≡◌, ◌⊎◌, ℕ, zero, suc, true, List, [], ◌∷◌, ◌++◌, length, map, Option, Some, None, slice_get}
use Rattle.std.specs.List.{AllByRecursion}
use Rattle.zk_base.specs.declared.numbers.RecordNo.{RecordNo}
use Rattle.zk_typed.specs.declared.script.action.Action.{Action}
use Rattle.zk_typed.specs.declared.script.action.Action.TheVariants as action
use Rattle.zk_typed.specs.declared.script.action.Left.{Left}
use Rattle.zk_typed.specs.declared.script.action.Left.TheVariants as left
use Rattle.zk_typed.specs.declared.script.log_call.LogCall.{LogCall}
use Rattle.zk_typed.specs.declared.script.log_call.LogCall.TheVariants as log
use Rattle.zk_typed.specs.declared.script.primitive.Binary.{Binary}
use Rattle.zk_typed.specs.declared.script.primitive.Binary.TheVariants.{Plus, Minus}
use Rattle.zk_typed.specs.declared.script.primitive.BuiltIn.{BuiltIn}
use Rattle.zk_typed.specs.declared.script.primitive.BuiltIn.TheVariants as built_in
use Rattle.zk_typed.specs.declared.script.primitive.Primitive.{Primitive}
use Rattle.zk_typed.specs.declared.script.primitive.Primitive.TheVariants as primitive
use Rattle.zk_typed.specs.declared.script.primitive.Unary.{Unary}
use Rattle.zk_typed.specs.declared.script.primitive.Unary.TheVariants.{Not, Negate, ToInt}
use Rattle.zk_typed.specs.declared.script.stmt.Names.{Names as LoopNames}
use Rattle.zk_typed.specs.declared.script.types.SimpleType.{SimpleType}
use Rattle.zk_typed.specs.declared.script.types.SimpleType.TheVariants as simple
use Rattle.zk_typed.specs.declared.script.program.Log.{Log}
use Rattle.zk_typed.specs.Columns.{record_fields}
use Rattle.zk_typed.specs.Declarations.{is_column}
use Rattle.zk_typed.specs.Forms as form
use Rattle.zk_typed.specs.Forms.{Expr, Exprs, Givens, Stmt, Stmts}
use Rattle.zk_typed.specs.Operations.{arithmetic_of, built_in_type}
use Rattle.zk_typed.specs.Predefined as type
use Rattle.zk_typed.specs.Predefined.{filter_record, zeek_init, zeek_done}
use Rattle.zk_typed.specs.Program.{Program, Field, Function, Hook, HookBody, Global, Handler}
use Rattle.zk_typed.specs.Programs.{no_function}
use Rattle.zk_typed.specs.Types.{ValueType, Simple, Record, Table, Set, Vector}
use Rattle.zk_sound.specs.Holding.{is_word, HasType, key_types, field_types, MayBegin}
use Rattle.zk_sound.specs.Worlds.{Names, type_of, global_names, field_type, hook_params, event_params, row_type, PolicyFits, RowEventFits, AreLogged}

-- Types ------------------------------------------------------------------------------------------------------------

-- the values of a type have texts
abbrev pub IsSimple : ValueType → Type 0
IsSimple (Simple one) = Unit {0}
IsSimple other = ⊥

-- a container of entries with these keys
abbrev pub HasKeys : ValueType → List SimpleType → Type 0
HasKeys (Table others item) keys = others ≡ keys
HasKeys (Set others) keys = others ≡ keys
HasKeys other keys = ⊥

-- the types of a group of operands, so many times over
abbrev pub repeated : ℕ → List ValueType → List ValueType
repeated zero types = []
repeated (suc count) types = types ++ repeated count types

-- Operators --------------------------------------------------------------------------------------------------------

abbrev pub UnaryTakes : Unary → ValueType → ValueType → Type 0
UnaryTakes Not operand of = (operand ≡ type.bool) × (of ≡ type.bool)
UnaryTakes ToInt operand of = (operand ≡ type.count) × (of ≡ type.int)
UnaryTakes Negate operand of = Negates operand
  where
    Negates : ValueType → Type 0
    Negates (Simple simple.Count) = of ≡ type.int
    Negates (Simple simple.Int) = of ≡ type.int
    Negates (Simple simple.Interval) = of ≡ type.interval
    Negates other = ⊥

abbrev pub HasSize : ValueType → Type 0
HasSize (Simple simple.String) = Unit {0}
HasSize (Simple simple.Int) = Unit {0}
HasSize (Table keys item) = Unit {0}
HasSize (Set keys) = Unit {0}
HasSize (Vector item) = Unit {0}
HasSize other = ⊥

-- a type whose values are stepped
abbrev pub IsStepped : ValueType → Type 0
IsStepped (Simple simple.Count) = Unit {0}
IsStepped (Simple simple.Int) = Unit {0}
IsStepped other = ⊥

-- what is added to a value of a type or taken from it in place, and its type
abbrev pub UpdateTakes : Binary → ValueType → ValueType → Type 0
UpdateTakes by (Simple a) added = (b : SimpleType) × (added ≡ Simple b) × (arithmetic_of by a b ≡ Some a)
UpdateTakes Plus (Set keys) added = added ≡ Set keys
UpdateTakes Minus (Set keys) added = added ≡ Set keys
UpdateTakes Plus (Vector item) added = added ≡ item
UpdateTakes by other added = ⊥

-- Left sides -------------------------------------------------------------------------------------------------------

-- a left side with operands of these types is of a type
abbrev pub SideTakes : Program → Names → Left → List ValueType → ValueType → Type 0
SideTakes program names (left.Local number) types of = (types ≡ []) × (type_of names number ≡ Some of)
SideTakes program names (left.Global number) types of = (types ≡ []) × (type_of (global_names program) number ≡ Some of)
SideTakes program names (left.Field one) types of = (types ≡ Record one.«record» ∷ []) × (field_type program one.«record» one.field ≡ Some of)
SideTakes program names left.Element types of = (keys : List SimpleType) × (types ≡ Table keys of ∷ key_types keys)
SideTakes program names left.Item types of = types ≡ Vector of ∷ type.count ∷ []

-- Calls of the log framework ---------------------------------------------------------------------------------------

-- the event and the policy that a log is given take the record of its rows, and its columns are logged
abbrev pub LogCallFits : Program → LogCall → Type 0
LogCallFits program (log.Create log event path policy columns) =
    AreLogged program log columns × ((row : RecordNo) → row_type program log ≡ Some row → RowEventFits program row event × PolicyFits program row policy)
LogCallFits program (log.AddFilter log name path policy columns) = (row : RecordNo) → row_type program log ≡ Some row → PolicyFits program row policy
LogCallFits program (log.RemoveFilter log name) = Unit {0}

-- Primitives -------------------------------------------------------------------------------------------------------

abbrev pub BuiltInTakes : BuiltIn → List ValueType → ValueType → Type 0
BuiltInTakes built_in.Fmt types of = (others : List ValueType) × (types ≡ type.string ∷ others) × AllByRecursion IsSimple others × (of ≡ type.string)
BuiltInTakes built_in.Cat types of = AllByRecursion IsSimple types × (of ≡ type.string)
BuiltInTakes built_in.Copy types of = types ≡ of ∷ []
BuiltInTakes other types of = built_in_type other ≡ Some (types, of)

-- a primitive takes operands of these types and gives a value of a type
abbrev pub Takes : Program → Names → Primitive → List ValueType → ValueType → Type 0
Takes program names (primitive.Unary operator) types of = (a : ValueType) × (types ≡ a ∷ []) × UnaryTakes operator a of
Takes program names (primitive.Binary operator) types of =
    (a : SimpleType) × (b : SimpleType) × (gives : SimpleType) × (types ≡ Simple a ∷ Simple b ∷ []) × (arithmetic_of operator a b ≡ Some gives) × (of ≡ Simple gives)
Takes program names (primitive.Compare relation) types of = (a : SimpleType) × (types ≡ Simple a ∷ Simple a ∷ []) × (of ≡ type.bool)
Takes program names primitive.HasKey types of = (keys : List SimpleType) × (over : ValueType) × (types ≡ key_types keys ++ over ∷ []) × HasKeys over keys × (of ≡ type.bool)
Takes program names primitive.HasText types of = (types ≡ type.string ∷ type.string ∷ []) × (of ≡ type.bool)
Takes program names primitive.HasAddress types of = (types ≡ type.addr ∷ type.subnet ∷ []) × (of ≡ type.bool)
Takes program names primitive.HasIndex types of = (item : ValueType) × (types ≡ type.count ∷ Vector item ∷ []) × (of ≡ type.bool)
Takes program names primitive.Size types of = (a : ValueType) × (types ≡ a ∷ []) × HasSize a × (of ≡ type.count)
Takes program names (primitive.Field one) types of = (types ≡ Record one.«record» ∷ []) × (field_type program one.«record» one.field ≡ Some of)
Takes program names (primitive.HasField one) types of = (types ≡ Record one.«record» ∷ []) × (of ≡ type.bool)
Takes program names primitive.Element types of = (keys : List SimpleType) × (types ≡ Table keys of ∷ key_types keys)
Takes program names primitive.Item types of = types ≡ Vector of ∷ type.count ∷ []
Takes program names (primitive.NewTable shape) types of =
    (keys : List SimpleType) × (item : ValueType) × (count : ℕ) × (types ≡ repeated count (key_types keys ++ item ∷ [])) × (shape.keys ≡ length keys) × (of ≡ Table keys item) × MayBegin item shape.default
Takes program names (primitive.NewSet shape) types of =
    (keys : List SimpleType) × (count : ℕ) × (types ≡ repeated count (key_types keys)) × (shape.keys ≡ length keys) × (of ≡ Set keys)
Takes program names primitive.NewVector types of = (item : ValueType) × (count : ℕ) × (types ≡ repeated count (item ∷ [])) × (of ≡ Vector item)
Takes program names (primitive.Step side by) types of = SideTakes program names side types of × IsStepped of
Takes program names (primitive.BuiltIn function) types of = BuiltInTakes function types of
Takes program names (primitive.Log call) types of = (types ≡ []) × (of ≡ type.bool) × LogCallFits program call

-- a left side is no name, so that a value stands behind it
abbrev pub IsNoName : Left → Type 0
IsNoName (left.Local number) = ⊥
IsNoName (left.Global number) = ⊥
IsNoName other = Unit {0}

-- A primitive reads no name, which may have no value. A copy goes through values within one another to a depth.
abbrev pub ReadsNoName : Primitive → Type 0
ReadsNoName (primitive.Step side by) = IsNoName side
ReadsNoName (primitive.BuiltIn built_in.Copy) = ⊥
ReadsNoName other = Unit {0}

-- an action reads no name
abbrev pub ActsOnNoName : Action → Type 0
ActsOnNoName (action.Update side by) = IsNoName side
ActsOnNoName other = Unit {0}

-- Calls ------------------------------------------------------------------------------------------------------------

-- a function is called with arguments of these types; one without a body takes any
abbrev pub CallTakes : Function → List ValueType → Type 0
CallTakes one types = (one ≡ no_function) ⊎ (one.params ≡ types)

-- the type of what a function gives, where it gives something
abbrev pub MayGive : Option ValueType → ValueType → Type 0
MayGive None of = Unit {0}
MayGive (Some one) of = one ≡ of

-- Expressions ------------------------------------------------------------------------------------------------------

abbrev mutual
  pub HasForm : Program → Names → Expr → ValueType → Type 0
  HasForm program names (form.Constant one) of = HasType [] of one
  HasForm program names (form.Local number) of = type_of names number ≡ Some of
  HasForm program names (form.Global number) of = type_of (global_names program) number ≡ Some of
  HasForm program names (form.Apply primitive operands) of = (types : List ValueType) × HaveForms program names operands types × Takes program names primitive types of
  HasForm program names (form.New number given) of = (of ≡ Record number) × GivensFit program names number given
  HasForm program names (form.And a b) of = (of ≡ type.bool) × HasForm program names a type.bool × HasForm program names b type.bool
  HasForm program names (form.Or a b) of = (of ≡ type.bool) × HasForm program names a type.bool × HasForm program names b type.bool
  HasForm program names (form.Choice test met otherwise) of = HasForm program names test type.bool × HasForm program names met of × HasForm program names otherwise of
  HasForm program names (form.Call function operands) of =
      (one : Function) × (types : List ValueType) × (slice_get program.functions function ≡ Some one) × MayGive one.«result» of × HaveForms program names operands types × CallTakes one types
  HasForm program names (form.Hook hook operands) of =
      (types : List ValueType) × (of ≡ type.bool) × (hook_params program hook ≡ Some types) × HaveForms program names operands types
  HasForm program names (form.Write log row) of = (number : RecordNo) × (of ≡ type.bool) × (row_type program log ≡ Some number) × HasForm program names row (Record number)

  -- as many as there are types
  pub HaveForms : Program → Names → Exprs → List ValueType → Type 0
  HaveForms program names form.NoExpr [] = Unit {0}
  HaveForms program names form.NoExpr (of ∷ types) = ⊥
  HaveForms program names (form.AndExpr first others) [] = ⊥
  HaveForms program names (form.AndExpr first others) (of ∷ types) = HasForm program names first of × HaveForms program names others types

  -- fields of a record type that are given
  pub GivensFit : Program → Names → RecordNo → Givens → Type 0
  GivensFit program names number form.NoField = Unit {0}
  GivensFit program names number (form.AndField field one others) =
      (of : ValueType) × (field_type program number field ≡ Some of) × HasForm program names one of × GivensFit program names number others
  GivensFit program names number (form.AndWire field «from» read others) =
      (of : ValueType) × (field_type program number field ≡ Some of) × (field_type program read.«record» read.field ≡ Some of) × HasForm program names «from» (Record read.«record») × GivensFit program names number others

-- Statements -------------------------------------------------------------------------------------------------------

abbrev pub ActionTakes : Program → Names → Action → List ValueType → Type 0
ActionTakes program names action.Print types = AllByRecursion IsSimple types
ActionTakes program names (action.Assign side) types = (of : ValueType) × (others : List ValueType) × (types ≡ of ∷ others) × SideTakes program names side others of
ActionTakes program names (action.Update side by) types =
    (of : ValueType) × (added : ValueType) × (others : List ValueType) × (types ≡ added ∷ others) × SideTakes program names side others of × UpdateTakes by of added
ActionTakes program names (action.Forget number) types = types ≡ []
ActionTakes program names action.Add types = (keys : List SimpleType) × (types ≡ Set keys ∷ key_types keys)
ActionTakes program names action.Delete types = (keys : List SimpleType) × (over : ValueType) × (types ≡ over ∷ key_types keys) × HasKeys over keys
ActionTakes program names (action.Queue event) types = event_params program event ≡ Some types
ActionTakes program names (action.Schedule event) types = (params : List ValueType) × (types ≡ type.interval ∷ params) × (event_params program event ≡ Some params)

-- the names of a `for` are of the types that it gives them
abbrev pub NamesTake : Names → List ℕ → List ValueType → Type 0
NamesTake names [] types = Unit {0}
NamesTake names (number ∷ numbers) [] = ⊥
NamesTake names (number ∷ numbers) (of ∷ types) = (type_of names number ≡ Some of) × NamesTake names numbers types

abbrev pub NameTakes : Names → Option ℕ → ValueType → Type 0
NameTakes names None of = Unit {0}
NameTakes names (Some number) of = type_of names number ≡ Some of

-- a `for` over a table takes its keys and its values, and one over a set its members
abbrev pub LoopTakes : Names → LoopNames → ValueType → Type 0
LoopTakes names loop (Table keys item) = NamesTake names loop.keys (key_types keys) × NameTakes names loop.value item
LoopTakes names loop (Set keys) = NamesTake names loop.keys (key_types keys) × (loop.value ≡ None)
LoopTakes names loop (Vector item) = NamesTake names loop.keys (type.count ∷ []) × NameTakes names loop.value item
LoopTakes names loop other = ⊥

abbrev pub IsTable : ValueType → Type 0
IsTable (Table keys item) = Unit {0}
IsTable (Set keys) = Unit {0}
IsTable other = ⊥

-- a statement of a body that gives a value of this type, or none
abbrev mutual
  pub StmtFits : Program → Names → Option ValueType → Stmt → Type 0
  StmtFits program names gives (form.Block stmts) = StmtsFit program names gives stmts
  StmtFits program names gives (form.Do place action operands) = (types : List ValueType) × HaveForms program names operands types × ActionTakes program names action types
  StmtFits program names gives (form.Move place to number «from» read) =
      (of : ValueType) × (field_type program number.«record» number.field ≡ Some of) × (field_type program read.«record» read.field ≡ Some of)
      × HasForm program names to (Record number.«record») × HasForm program names «from» (Record read.«record»)
  StmtFits program names gives (form.Evaluate place one) = (of : ValueType) × HasForm program names one of
  StmtFits program names gives (form.Perform place function operands) =
      (one : Function) × (types : List ValueType) × (slice_get program.functions function ≡ Some one) × HaveForms program names operands types × CallTakes one types
  StmtFits program names gives (form.If place test met otherwise) =
      HasForm program names test type.bool × StmtFits program names gives met × StmtFits program names gives otherwise
  StmtFits program names gives (form.While place test body) = HasForm program names test type.bool × StmtFits program names gives body
  StmtFits program names gives (form.ForKeys place loop over body) =
      (of : ValueType) × IsTable of × HasForm program names over of × LoopTakes names loop of × StmtFits program names gives body
  StmtFits program names gives (form.ForIndexes place loop over body) =
      (item : ValueType) × HasForm program names over (Vector item) × LoopTakes names loop (Vector item) × StmtFits program names gives body
  StmtFits program names gives (form.Return place None) = Unit {0}
  StmtFits program names gives (form.Return place (Some one)) = (of : ValueType) × (gives ≡ Some of) × HasForm program names one of
  StmtFits program names gives (form.Next place) = Unit {0}
  StmtFits program names gives (form.Break place) = Unit {0}

  pub StmtsFit : Program → Names → Option ValueType → Stmts → Type 0
  StmtsFit program names gives form.NoStmt = Unit {0}
  StmtsFit program names gives (form.AndStmt first others) = StmtFits program names gives first × StmtsFit program names gives others

-- Programs ---------------------------------------------------------------------------------------------------------

-- a body whose first names are parameters of these types
pub record BodyFits (program : Program) (params : List ValueType) (gives : Option ValueType) (body : Stmt) : Type 0 where
  pub locals : Names
  pub fits : StmtFits program (map Some params ++ locals) gives body

abbrev pub FieldBegins : Field → Type 0
FieldBegins field = MayBegin field.field_type field.begins

-- a field that is marked `&log` is of a type that columns have, and the text of a log's word stands for itself in one
abbrev pub FieldLogs : Field → Type 0
FieldLogs field = field.log ≡ true → is_column field.field_type ≡ true

abbrev pub WordFits : Log → Type 0
WordFits log = is_word log.word ≡ true

abbrev pub FunctionFits : Program → Function → Type 0
FunctionFits program one = BodyFits program one.params one.«result» one.body

abbrev pub HookBodyFits : Program → List ValueType → HookBody → Type 0
HookBodyFits program params one = BodyFits program params None one.body

abbrev pub HookFits : Program → Hook → Type 0
HookFits program one = AllByRecursion (HookBodyFits program one.params) one.bodies

abbrev pub HandlerFits : Program → Handler → Type 0
HandlerFits program one = (params : List ValueType) × (event_params program one.event ≡ Some params) × BodyFits program params None one.body

-- what may be added to the initial value of a global
abbrev pub AddedFits : Program → ValueType → Expr → Type 0
AddedFits program of one = (added : ValueType) × UpdateTakes Plus of added × HasForm program [] one added

abbrev pub InitialFits : Program → ValueType → Option Expr → Type 0
InitialFits program of None = Unit {0}
InitialFits program of (Some one) = HasForm program [] one of

-- the values that a global begins with
abbrev pub ValuesFit : Program → Global → Type 0
ValuesFit program one = InitialFits program one.global_type one.initial × AllByRecursion (AddedFits program one.global_type) one.added

-- the function that says how long an entry stays takes the table and its key, and gives an interval
abbrev pub ExpiryTakes : Program → ValueType → Option ℕ → Type 0
ExpiryTakes program of None = Unit {0}
ExpiryTakes program of (Some number) = (one : Function) × (keys : List SimpleType) × (slice_get program.functions number ≡ Some one)
    × HasKeys of keys × CallTakes one (of ∷ key_types keys) × MayGive one.«result» type.interval

pub record GlobalFits (program : Program) (one : Global) : Type 0 where
  pub initial : InitialFits program one.global_type one.initial
  pub added : AllByRecursion (AddedFits program one.global_type) one.added
  pub expiry : ExpiryTakes program one.global_type one.expire_func

-- what a filter is: its name and its path, and fields that scripts add
abbrev pub FilterTypes : List ValueType → Type 0
FilterTypes types = (added : List ValueType) × (types ≡ type.string ∷ type.string ∷ added)

-- each body, initial value and default of a program has the types of its place, and its first and its last event have no
-- arguments
pub record ProgramFits (program : Program) : Type 0 where
  pub fields : (number : RecordNo) → AllByRecursion FieldBegins (record_fields program number)
  pub columns : (number : RecordNo) → AllByRecursion FieldLogs (record_fields program number)
  pub logs : AllByRecursion WordFits program.logs
  pub filter : FilterTypes (field_types program filter_record)
  pub begins : event_params program zeek_init ≡ Some []
  pub ends : event_params program zeek_done ≡ Some []
  pub globals : AllByRecursion (GlobalFits program) program.globals
  pub functions : AllByRecursion (FunctionFits program) program.functions
  pub hooks : AllByRecursion (HookFits program) program.hooks
  pub handlers : AllByRecursion (HandlerFits program) program.handlers

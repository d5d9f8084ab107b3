-- Programs that say what their scripts say: the types of fields, of functions, hooks and events, of globals and of logs.
use Rattle.std.specs.Prelude.{◌≡◌, ◌≢◌, ℕ, ◌==◌, nat_eq, nat_le, Bool, true, false, ◌&&◌, ◌||◌, codes, List, [], ◌∷◌, Option, Some, None, Ok, slice_get}
use Rattle.std.specs.List.{AllByRecursion, list_all, starts_with}
use Rattle.zk_base.specs.declared.numbers.RecordNo.{RecordNo}
use Rattle.zk_tree.specs.declared.decl.Decl.{Decl, out-Decl}
use Rattle.zk_tree.specs.declared.decl.Decl.TheOpen.{Decl-F}
use Rattle.zk_tree.specs.declared.decl.Decl.TheOpen as decl
use Rattle.zk_tree.specs.declared.name.Name.{Name}
use Rattle.zk_typed.specs.declared.script.primitive.Primitive.{Primitive}
use Rattle.zk_typed.specs.declared.script.primitive.Primitive.TheVariants as primitive
use Rattle.zk_typed.specs.Forms as form
use Rattle.zk_typed.specs.Forms.{Expr, Exprs, Givens, Stmt, Stmts}
use Rattle.zk_typed.specs.LogCalls.{is_log_word, stream_type}
use Rattle.zk_typed.specs.LoadOrder.{Home, Stated}
use Rattle.zk_typed.specs.Names.{Declared, Word, Event, Hook, Function, Signature, Node, RecordNode, EnumNode, whole_name, look_up, decl_nodes}
use Rattle.zk_typed.specs.Program.{Program, Global, Function as Body}
use Rattle.zk_typed.specs.Resolving.{Scripts, FieldInfo, fields_of, params_of, result_of}
use Rattle.zk_typed.specs.Statements.{Context, Within, InFunction}
use Rattle.zk_typed.specs.Types.{ValueType}
use Rattle.zk_typed.specs.Typing.{Env, LocalName, Wanted, Nothing, Wants, Unclear, number_among, is_event, is_hook, is_function}
use Rattle.zk_sound.specs.Holding.{is_word}
use Rattle.zk_sound.specs.Worlds.{Names, type_of, global_names, field_type, hook_params, event_params, row_type}
use Rattle.zk_sound.specs.Having.{CallTakes, MayGive, LogCallFits, ExpiryTakes}

-- a function of a program is called with arguments of these types, and gives a value of a type, or none
pub record FunctionAgrees (program : Program) (number : ℕ) (params : List ValueType) (gives : Option ValueType) : Type 0 where
  pub function : Body
  pub there : slice_get program.functions number ≡ Some function
  pub takes : CallTakes function params
  pub may_give : (of : ValueType) → gives ≡ Some of → MayGive function.«result» of

-- the numbers of names in a program are those of what they mean in its scripts
pub record NamesAgree (program : Program) (scripts : Scripts) : Type 0 where
  pub functions : (module_name name : List ℕ) (one : Declared) (signature : Signature) (params : List ValueType) (gives : Option ValueType) → look_up scripts.names module_name name ≡ Some one → one.meant ≡ Function signature →
      params_of scripts signature ≡ Ok params → result_of scripts signature ≡ Ok gives → FunctionAgrees program (number_among is_function scripts one) params gives
  pub hooks : (module_name name : List ℕ) (one : Declared) (signature : Signature) (params : List ValueType) → look_up scripts.names module_name name ≡ Some one → one.meant ≡ Hook signature →
      params_of scripts signature ≡ Ok params → hook_params program (record { 0 = number_among is_hook scripts one }) ≡ Some params
  pub events : (module_name name : List ℕ) (one : Declared) (signature : Signature) (params : List ValueType) → look_up scripts.names module_name name ≡ Some one → one.meant ≡ Event signature →
      params_of scripts signature ≡ Ok params → event_params program (record { 0 = number_among is_event scripts one }) ≡ Some params
  pub logs : (module_name name : List ℕ) (one : Declared) → look_up scripts.names module_name name ≡ Some one → is_log_word one ≡ true →
      row_type program (record { 0 = number_among is_log_word scripts one }) ≡ stream_type scripts one.name
  pub words : (module_name name : List ℕ) (one : Declared) (number : ℕ) → look_up scripts.names module_name name ≡ Some one → one.meant ≡ Word number → is_word one.name ≡ true

-- a program says what its scripts say
pub record Agrees (program : Program) (scripts : Scripts) : Type 0 where
  pub fields : (number : RecordNo) (n : ℕ) (field : FieldInfo) (of : ValueType) → slice_get (fields_of scripts number.0) n ≡ Some field → field.field_type ≡ Ok of → field_type program number n ≡ Some of
  pub names : NamesAgree program scripts

-- an environment stands for names of these types
pub record EnvAgrees (program : Program) (names : Names) (env : Env) : Type 0 where
  pub scripts : Agrees program env.scripts
  pub locals : (number : ℕ) (one : LocalName) (of : ValueType) → slice_get env.locals number ≡ Some one → one.type ≡ Ok of → type_of names number ≡ Some of
  pub globals : (number : ℕ) (of : ValueType) → env.global_type number ≡ Ok of → type_of (global_names program) number ≡ Some of

-- what is wanted is known
abbrev pub IsClear : Wanted → Type 0
IsClear Unclear = ⊥
IsClear other = Unit {0}

-- Logs -------------------------------------------------------------------------------------------------------------

abbrev pub PrimitiveLogs : Program → Primitive → Type 0
PrimitiveLogs program (primitive.Log call) = LogCallFits program call
PrimitiveLogs program other = Unit {0}

abbrev pub IsKnown : Option RecordNo → Type 0
IsKnown None = ⊥
IsKnown (Some number) = Unit {0}

-- what a form says of logs fits their record types: a policy and an event take the record, and a row is written to a log
-- that has a record type
abbrev mutual
  pub LogsFit : Program → Expr → Type 0
  LogsFit program (form.Constant one) = Unit {0}
  LogsFit program (form.Local number) = Unit {0}
  LogsFit program (form.Global number) = Unit {0}
  LogsFit program (form.Apply primitive operands) = PrimitiveLogs program primitive × AllLogsFit program operands
  LogsFit program (form.New number given) = GivenLogsFit program given
  LogsFit program (form.And a b) = LogsFit program a × LogsFit program b
  LogsFit program (form.Or a b) = LogsFit program a × LogsFit program b
  LogsFit program (form.Choice test met otherwise) = LogsFit program test × LogsFit program met × LogsFit program otherwise
  LogsFit program (form.Call function operands) = AllLogsFit program operands
  LogsFit program (form.Hook hook operands) = AllLogsFit program operands
  LogsFit program (form.Write log row) = IsKnown (row_type program log) × LogsFit program row

  pub AllLogsFit : Program → Exprs → Type 0
  AllLogsFit program form.NoExpr = Unit {0}
  AllLogsFit program (form.AndExpr first others) = LogsFit program first × AllLogsFit program others

  pub GivenLogsFit : Program → Givens → Type 0
  GivenLogsFit program form.NoField = Unit {0}
  GivenLogsFit program (form.AndField number one others) = LogsFit program one × GivenLogsFit program others
  GivenLogsFit program (form.AndWire number «from» read others) = LogsFit program «from» × GivenLogsFit program others

abbrev mutual
  pub StmtLogsFit : Program → Stmt → Type 0
  StmtLogsFit program (form.Block stmts) = StmtsLogsFit program stmts
  StmtLogsFit program (form.Do place action operands) = AllLogsFit program operands
  StmtLogsFit program (form.Move place to number «from» read) = LogsFit program to × LogsFit program «from»
  StmtLogsFit program (form.Evaluate place one) = LogsFit program one
  StmtLogsFit program (form.Perform place function operands) = AllLogsFit program operands
  StmtLogsFit program (form.If place test met otherwise) = LogsFit program test × StmtLogsFit program met × StmtLogsFit program otherwise
  StmtLogsFit program (form.While place test body) = LogsFit program test × StmtLogsFit program body
  StmtLogsFit program (form.ForKeys place loop over body) = LogsFit program over × StmtLogsFit program body
  StmtLogsFit program (form.ForIndexes place loop over body) = LogsFit program over × StmtLogsFit program body
  StmtLogsFit program (form.Return place None) = Unit {0}
  StmtLogsFit program (form.Return place (Some one)) = LogsFit program one
  StmtLogsFit program (form.Next place) = Unit {0}
  StmtLogsFit program (form.Break place) = Unit {0}

  pub StmtsLogsFit : Program → Stmts → Type 0
  StmtsLogsFit program form.NoStmt = Unit {0}
  StmtsLogsFit program (form.AndStmt first others) = StmtLogsFit program first × StmtsLogsFit program others

-- what an initial value says of logs fits, where there is one
abbrev pub InitialLogsFit : Program → Option Expr → Type 0
InitialLogsFit program None = Unit {0}
InitialLogsFit program (Some one) = LogsFit program one

abbrev pub ValuesLogFit : Program → Global → Type 0
ValuesLogFit program one = InitialLogsFit program one.initial × AllByRecursion (LogsFit program) one.added

-- Bodies -----------------------------------------------------------------------------------------------------------

-- locals are of these types
pub record LocalsAgree (names : Names) (locals : List LocalName) : Type 0 where
  pub of : (number : ℕ) (one : LocalName) (of : ValueType) → slice_get locals number ≡ Some one → one.type ≡ Ok of → type_of names number ≡ Some of

-- what a body gives: a function with a result whose type is known, and any other body nothing
abbrev pub WithinGives : Within → Option ValueType → Type 0
WithinGives (InFunction (Some (Wants of))) gives = gives ≡ Some of
WithinGives (InFunction (Some Nothing)) gives = ⊥
WithinGives (InFunction (Some Unclear)) gives = ⊥
WithinGives other gives = gives ≡ None

-- where a statement stands: in a body that gives this type, or none
pub record StandsIn (program : Program) (gives : Option ValueType) (context : Context) : Type 0 where
  pub scripts : Agrees program context.scripts
  pub globals : (number : ℕ) (of : ValueType) → context.global_type number ≡ Ok of → type_of (global_names program) number ≡ Some of
  pub within : WithinGives context.within gives

-- Names as they are written ----------------------------------------------------------------------------------------

-- a byte that stands in a name, which may be one of a module
abbrev pub in_names : ℕ → Bool
in_names byte = (nat_le 97 byte && nat_le byte 122) || (nat_le 65 byte && nat_le byte 90) || (nat_le 48 byte && nat_le byte 57) || byte == 95 || byte == 58

abbrev pub is_name : List ℕ → Bool
is_name [] = false
is_name (byte ∷ bytes) = list_all in_names (byte ∷ bytes)

-- the name of a body doesn't begin with the colon of a module
abbrev pub BodyBegins : Decl-F Decl → Type 0
BodyBegins (decl.Body place kind name params attrs block) = starts_with nat_eq name.text (codes ":") ≡ false
BodyBegins other = Unit {0}

abbrev pub AreNames : Home → List Name → Type 0
AreNames home words = AllByRecursion (λ word. is_name (whole_name home.module_name word.text) ≡ true) words

abbrev pub WordsAreNames : Node → Type 0
WordsAreNames (RecordNode home place fields) = Unit {0}
WordsAreNames (EnumNode home place words) = AreNames home words

-- the words of enums, and those that are added to one
abbrev pub AddedAreNames : Home → Decl-F Decl → Type 0
AddedAreNames home (decl.RedefEnum place name words comma) = AreNames home words
AddedAreNames home other = Unit {0}

-- The names of a declaration are names, as they are wherever a script was read: letters, digits, `_`, and `::` behind a module
-- (Zeek manual, Script Reference, identifiers).
pub record IsWritten (one : Stated) : Type 0 where
  pub body : BodyBegins (out-Decl one.decl)
  pub words : AllByRecursion WordsAreNames (decl_nodes one.home (out-Decl one.decl))
  pub added : AddedAreNames one.home (out-Decl one.decl)

-- Whole programs ---------------------------------------------------------------------------------------------------

-- names differ from one another
abbrev pub AreApart : List Declared → Type 0
AreApart [] = Unit {0}
AreApart (one ∷ others) = AllByRecursion (λ other. one.name ≢ other.name) others × AreApart others

-- A program says what its scripts say: its names are written as names, what its bodies and values say of logs fits, and an
-- expiry function takes its table.
pub record SaysItsScripts (program : Program) (scripts : Scripts) : Type 0 where
  pub written : AllByRecursion IsWritten scripts.stated
  pub functions : AllByRecursion (λ one. StmtLogsFit program one.body) program.functions
  pub hooks : AllByRecursion (λ hook. AllByRecursion (λ one. StmtLogsFit program one.body) hook.bodies) program.hooks
  pub handlers : AllByRecursion (λ one. StmtLogsFit program one.body) program.handlers
  pub values : AllByRecursion (ValuesLogFit program) program.globals
  pub expiry : AllByRecursion (λ one. ExpiryTakes program one.global_type one.expire_func) program.globals

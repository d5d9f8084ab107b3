-- The code of programs: one list of operations, and the places in it at which bodies begin. An operation takes operands off a
-- stack and puts its value there; it holds numbers, values, names and places alone. A jump goes over so many operations; what
-- leads back takes a unit.
use Rattle.std.specs.Prelude.{ℕ, ℤ, List, [], Option}
use Rattle.zk_base.specs.declared.numbers.EventNo.{EventNo}
use Rattle.zk_base.specs.declared.numbers.HookNo.{HookNo}
use Rattle.zk_base.specs.declared.numbers.LogId.{LogId}
use Rattle.zk_base.specs.declared.numbers.RecordNo.{RecordNo}
use Rattle.zk_tree.specs.declared.expiry.Expiry.{Expiry}
use Rattle.zk_tree.specs.declared.place.Place.{Place}
use Rattle.zk_tree.specs.Value.{Value}
use Rattle.zk_typed.specs.declared.script.action.Action.{Action}
use Rattle.zk_typed.specs.declared.script.primitive.Primitive.{Primitive}
use Rattle.zk_typed.specs.declared.script.program.Log.{Log}
use Rattle.zk_typed.specs.declared.script.stmt.Names.{Names}
use Rattle.zk_typed.specs.Program.{Program, RecordType}

pub data Op : Type 0 where
  -- Values: one is pushed
  Push : (value : Value) → Op
  Local : (place : Place) (number : ℕ) → Op
  Global : (place : Place) (number : ℕ) → Op
  -- so many operands are taken, and a value is pushed
  Apply : (place : Place) (primitive : Primitive) (count : ℕ) → Op
  -- a value is taken for each of these fields
  New : (place : Place) (record_no : RecordNo) (fields : List ℕ) → Op
  -- a value is taken, and then another to which it is added
  Sum : (place : Place) → Op
  -- so many operands are taken
  Do : (place : Place) (action : Action) (count : ℕ) → Op
  -- a value is taken
  Drop : Op
  -- Control
  Tick : (place : Place) → Op
  Jump : (over : ℕ) → Op
  -- a truth value is taken: T goes on, and F jumps
  Unless : (place : Place) (over : ℕ) → Op
  -- a truth value is taken: T begins another turn so many operations before, and F goes on
  Turn : (place : Place) (back : ℕ) → Op
  -- a table is taken, over whose keys a loop begins
  BeginKeys : (place : Place) → Op
  -- the next turn so many operations before, or the end of the loop behind the operation after this one
  NextKey : (place : Place) (names : Names) (back : ℕ) → Op
  BeginIndexes : (place : Place) → Op
  NextIndex : (place : Place) (names : Names) (back : ℕ) → Op
  EndLoop : Op
  -- Calls: so many arguments are taken
  Call : (place : Place) (function : ℕ) (count : ℕ) → Op
  Perform : (place : Place) (function : ℕ) (count : ℕ) → Op
  Hook : (place : Place) (hook : HookNo) (count : ℕ) → Op
  -- a record is taken
  Write : (place : Place) (log : LogId) → Op
  -- the end of a body: without a value, with one, or by a `break`
  End : Op
  Give : Op
  Break : Op

-- where a body begins, and how many parameters and locals it has
pub record BodyCode : Type 0 where
  pub entry : ℕ
  pub locals : ℕ

pub record HandlerCode : Type 0 where
  pub event : EventNo
  pub priority : ℤ
  pub body : BodyCode

pub record GlobalCode : Type 0 where
  pub place : Place
  -- what computes its initial value, where it has one
  pub initial : Option ℕ
  pub expiry : Option Expiry
  pub expire_func : Option ℕ

-- each list in load order, but the bodies of a hook by falling priority and then in load order
pub record Code : Type 0 where
  pub files : List (List ℕ)
  pub records : List RecordType
  pub logs : List Log
  pub ops : List Op
  pub globals : List GlobalCode
  pub functions : List BodyCode
  pub hooks : List (List BodyCode)
  pub handlers : List HandlerCode

-- the types that code speaks of, as a program without names and bodies
abbrev pub types_of : List (List ℕ) → List RecordType → List Log → Program
types_of files records logs = record {
  files = files;
  records = records;
  logs = logs;
  globals = [];
  functions = [];
  hooks = [];
  events = [];
  handlers = [];
}

abbrev pub types_in : Code → Program
types_in code = types_of code.files code.records code.logs

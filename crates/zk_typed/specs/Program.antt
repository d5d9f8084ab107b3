-- Typed programs: what their records, names and bodies are. The Rust types of the same names say more of each.
use Rattle.std.specs.Prelude.{ℕ, ℤ, Bool, List, Option}
use Rattle.zk_base.specs.declared.numbers.EventNo.{EventNo}
use Rattle.zk_tree.specs.declared.expiry.Expiry.{Expiry}
use Rattle.zk_tree.specs.declared.place.Place.{Place}
use Rattle.zk_typed.specs.declared.script.literal.DefaultValue.{DefaultValue}
use Rattle.zk_typed.specs.declared.script.program.Log.{Log}
use Rattle.zk_typed.specs.Forms.{Expr, Stmt}
use Rattle.zk_typed.specs.Types.{ValueType}

pub record Field : Type 0 where
  pub name : List ℕ
  pub field_type : ValueType
  pub log : Bool
  pub wire : Bool
  -- what it begins with where a constructor doesn't give it
  pub begins : Option DefaultValue

pub record RecordType : Type 0 where
  pub fields : List Field

pub record Global : Type 0 where
  pub place : Place
  pub global_type : ValueType
  -- its last `=`, or the empty value of its type; then each later `+=`
  pub initial : Option Expr
  pub added : List Expr
  pub expiry : Option Expiry
  pub expire_func : Option ℕ

pub record Function : Type 0 where
  pub params : List ValueType
  pub «result» : Option ValueType
  -- how many parameters and locals its body has
  pub locals : ℕ
  pub body : Stmt

pub record HookBody : Type 0 where
  pub priority : ℤ
  pub locals : ℕ
  pub body : Stmt

pub record Hook : Type 0 where
  pub params : List ValueType
  pub bodies : List HookBody

pub record Event : Type 0 where
  pub name : List ℕ
  pub params : List ValueType

pub record Handler : Type 0 where
  pub event : EventNo
  pub priority : ℤ
  pub locals : ℕ
  pub body : Stmt

-- each list in load order
pub record Program : Type 0 where
  pub files : List (List ℕ)
  pub records : List RecordType
  pub logs : List Log
  pub globals : List Global
  pub functions : List Function
  pub hooks : List Hook
  pub events : List Event
  pub handlers : List Handler

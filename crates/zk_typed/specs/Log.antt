-- The streams that scripts write logs to, and the rows that come of it (Zeek manual, Logging Framework).
use Rattle.std.specs.Prelude.{ℕ, Bool, List, Option}
use Rattle.zk_base.specs.declared.numbers.EventNo.{EventNo}
use Rattle.zk_base.specs.declared.numbers.HookNo.{HookNo}
use Rattle.zk_base.specs.declared.numbers.LogId.{LogId}
use Rattle.zk_base.specs.declared.time.Moment.{Moment}

-- a filter: where it names no path or policy, those of its stream count
pub record Filter : Type 0 where
  pub name : List ℕ
  pub path : Option (List ℕ)
  pub policy : Option HookNo
  -- the columns that it keeps, by their numbers among the columns of the stream, from 0
  pub columns : List ℕ

-- a stream with its filters, in the order in which they were added
pub record Stream : Type 0 where
  pub id : LogId
  pub event : Option EventNo
  pub path : List ℕ
  pub policy : Option HookNo
  -- The fields of its record type that are logged, by their numbers among all of its fields, from 0. The fields of a
  -- nested record count in the place of the field that holds it: those of
  -- `record { a: count; r: record { b: count; c: count; }; }` are a, r.b and r.c.
  pub columns : List ℕ
  pub filters : List Filter

-- a column: its name, the name of its type, and whether its field is marked `&wire`
pub record Column : Type 0 where
  pub name : List ℕ
  pub kind : List ℕ
  pub wire : Bool

-- a string, or the text of any other value: of a port its number alone
pub data Atom : Type 0 where
  Text : (bytes : List ℕ) → Atom
  Plain : (bytes : List ℕ) → Atom

-- a field without a value, with one, or with the elements of a set or vector
pub data Cell : Type 0 where
  Unset : Cell
  One : (atom : Atom) → Cell
  Many : (atoms : List Atom) → Cell

-- a row for the log of a path, at its network time
pub record Row : Type 0 where
  pub path : List ℕ
  pub columns : List Column
  pub cells : List Cell
  pub at : Moment

-- The plain code that the Rust types stand for.
use Rattle.std.specs.Prelude.{ℕ, ◌-◌, List, map}
use Rattle.zk_tree.specs.declared.place.Place.{Place}
use Rattle.zk_typed.specs.declared.script.stmt.Names.{Names}
use Rattle.zk_typed.specs.declared.script.expr.Given.{fold-Given}
use Rattle.zk_typed.specs.declared.script.expr.Given as given
use Rattle.zk_typed.specs.Forms.{Expr, Givens}
use Rattle.zk_typed.specs.View.{Prefixed, expr_step, given_step, givens_of, record_of}
use Rattle.zk_value.specs.Plain.{value_of}
use Rattle.zk_lower.specs.declared.code.BodyCode.{BodyCode as RustBody}
use Rattle.zk_lower.specs.declared.code.Code.{Code as RustCode}
use Rattle.zk_lower.specs.declared.code.GlobalCode.{GlobalCode as RustGlobal}
use Rattle.zk_lower.specs.declared.code.HandlerCode.{HandlerCode as RustHandler}
use Rattle.zk_lower.specs.declared.op.Op as declared
use Rattle.zk_lower.specs.declared.op.Op.TheVariants as rust
use Rattle.zk_lower.specs.declared.ways.Ways.{Ways}
use Rattle.zk_lower.specs.declared.ways.Walk.{Walk}
use Rattle.zk_lower.specs.declared.ways.Walk.TheVariants.{Keys, Indexes}
use Rattle.zk_lower.specs.Code.{Op, BodyCode, HandlerCode, GlobalCode, Code}
use Rattle.zk_lower.specs.Lowering.{Exits}
use Rattle.zk_lower.specs.Code as op

abbrev pub op_of : declared.Op → Op
op_of (rust.Push value) = op.Push (value_of value)
op_of (rust.Local place number) = op.Local place number
op_of (rust.Global place number) = op.Global place number
op_of (rust.Apply place primitive count) = op.Apply place primitive count
op_of (rust.New place record_no fields) = op.New place record_no fields
op_of (rust.Sum place) = op.Sum place
op_of (rust.Do place action count) = op.Do place action count
op_of rust.Drop = op.Drop
op_of (rust.Tick place) = op.Tick place
op_of (rust.Jump over) = op.Jump over
op_of (rust.Unless place over) = op.Unless place over
op_of (rust.Turn place back) = op.Turn place back
op_of (rust.BeginKeys place) = op.BeginKeys place
op_of (rust.NextKey place names back) = op.NextKey place names back
op_of (rust.BeginIndexes place) = op.BeginIndexes place
op_of (rust.NextIndex place names back) = op.NextIndex place names back
op_of rust.EndLoop = op.EndLoop
op_of (rust.Call place function count) = op.Call place function count
op_of (rust.Perform place function count) = op.Perform place function count
op_of (rust.Hook place hook count) = op.Hook place hook count
op_of (rust.Write place log) = op.Write place log
op_of rust.End = op.End
op_of rust.Give = op.Give
op_of rust.Break = op.Break

-- the fields that a constructor gives
abbrev pub prefix_of : given.Given → Prefixed
prefix_of = fold-Given Expr Prefixed expr_step given_step

abbrev pub givens_in : List given.Given → Givens
givens_in list = givens_of (map prefix_of list)

-- `break` and `next` lead over what stands before the places behind which so many operations stand
abbrev pub exits_at : Ways → ℕ → Exits
exits_at ways size = record { «break» = size - ways.break_at; next = size - ways.next_at }

abbrev pub begin_of : Walk → Place → Op
begin_of Keys place = op.BeginKeys place
begin_of Indexes place = op.BeginIndexes place

abbrev pub next_of : Walk → Place → Names → ℕ → Op
next_of Keys place names = op.NextKey place names
next_of Indexes place names = op.NextIndex place names

abbrev pub body_of : RustBody → BodyCode
body_of body = record { entry = body.entry; locals = body.locals }

abbrev pub handler_of : RustHandler → HandlerCode
handler_of handler = record { event = handler.event; priority = handler.priority; body = body_of handler.body }

abbrev pub global_of : RustGlobal → GlobalCode
global_of global = record {
  place = global.place;
  initial = global.initial;
  expiry = global.expiry;
  expire_func = global.expire_func;
}

-- the code that a value of the Rust type stands for
abbrev pub code_of : RustCode → Code
code_of code = record {
  files = code.files;
  records = map record_of code.records;
  logs = code.logs;
  ops = map op_of code.ops;
  globals = map global_of code.globals;
  functions = map body_of code.functions;
  hooks = map (map body_of) code.hooks;
  handlers = map handler_of code.handlers;
}

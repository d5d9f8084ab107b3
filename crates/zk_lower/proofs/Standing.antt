-- Where the code of a form stands: from a place, and to the one behind it. Between the two the places are such as the
-- operations lead to.
use Rattle.std.proofs.Common.{◌≡◌, ℕ, ◌+◌, ◌-◌, true, false, List, [], ◌∷◌, Option, Some, None}
use Rattle.std.specs.Prelude.{slice_get}
use Rattle.zk_base.specs.declared.numbers.HookNo.{HookNo}
use Rattle.zk_tree.specs.declared.place.Place.{Place}
use Rattle.zk_tree.specs.Value as plain
use Rattle.zk_tree.specs.Value.{Value}
use Rattle.zk_typed.specs.declared.script.action.Action.TheVariants as action
use Rattle.zk_typed.specs.declared.script.action.Left.TheVariants as left
use Rattle.zk_typed.specs.declared.script.primitive.Primitive.TheVariants as primitive
use Rattle.zk_typed.specs.Forms.{Expr, Exprs, Givens, Stmt, Stmts}
use Rattle.zk_typed.specs.Forms as form
use Rattle.zk_typed.specs.Meaning.{bodies_of}
use Rattle.zk_typed.specs.Program.{Program, Function, HookBody}
use Rattle.zk_lower.specs.Code.{Op, BodyCode, Code, types_of, types_in}
use Rattle.zk_lower.specs.Code as op
use Rattle.zk_lower.specs.Lowering.{count, field_numbers}
use Rattle.zk_lower.specs.Steps.{hook_in}

-- an operation stands at a place
abbrev pub At : List Op → Op → ℕ → Type 0
At ops one at = slice_get ops at ≡ Some one

-- code between two places
abbrev pub Stretch : Type 1
Stretch = ℕ → ℕ → Type 0

-- one operation
pub record OneAt (ops : List Op) (one : Op) (at to : ℕ) : Type 0 where
  pub here : At ops one at
  pub end : at + 1 ≡ to

-- a stretch, and then another
pub record ThenAt (First Second : Stretch) (at to : ℕ) : Type 0 where
  pub mid : ℕ
  pub first : First at mid
  pub second : Second mid to

-- one of two stretches, by a truth value
pub record ChoiceAt (ops : List Op) (place : Place) (Met Otherwise : Stretch) (at to : ℕ) : Type 0 where
  pub over : ℕ
  pub decides : At ops (op.Unless place over) at
  pub met_from : ℕ
  pub goes_on : at + 1 ≡ met_from
  pub met_to : ℕ
  pub met : Met met_from met_to
  pub skip : ℕ
  pub jumps : At ops (op.Jump skip) met_to
  pub joins : met_to + 1 + skip ≡ to
  pub else_from : ℕ
  pub goes_over : at + 1 + over ≡ else_from
  pub otherwise : Otherwise else_from to

-- where `break` and `next` lead
pub record Ways : Type 0 where
  pub «break» : ℕ
  pub next : ℕ

module _ (ops : List Op) where
  abbrev mutual
    pub ExprAt : Place → Expr → Stretch
    ExprAt place (form.Constant value) = OneAt ops (op.Push value)
    ExprAt place (form.Local number) = OneAt ops (op.Local place number)
    ExprAt place (form.Global number) = OneAt ops (op.Global place number)
    ExprAt place (form.Apply primitive operands) = ThenAt (ExprsAt place operands) (OneAt ops (op.Apply place primitive (count operands)))
    ExprAt place (form.New record_no given) = ThenAt (GivensAt place given) (OneAt ops (op.New place record_no (field_numbers given)))
    ExprAt place (form.And left right) = ThenAt (ExprAt place left) (ChoiceAt ops place (ExprAt place right) (OneAt ops (op.Push (plain.Bool false))))
    ExprAt place (form.Or left right) = ThenAt (ExprAt place left) (ChoiceAt ops place (OneAt ops (op.Push (plain.Bool true))) (ExprAt place right))
    ExprAt place (form.Choice test met otherwise) = ThenAt (ExprAt place test) (ChoiceAt ops place (ExprAt place met) (ExprAt place otherwise))
    ExprAt place (form.Call function operands) = ThenAt (ExprsAt place operands) (OneAt ops (op.Call place function (count operands)))
    ExprAt place (form.Hook hook operands) = ThenAt (ExprsAt place operands) (OneAt ops (op.Hook place hook (count operands)))
    ExprAt place (form.Write log row) = ThenAt (ExprAt place row) (OneAt ops (op.Write place log))

    pub ExprsAt : Place → Exprs → Stretch
    ExprsAt place form.NoExpr = λ at to. at ≡ to
    ExprsAt place (form.AndExpr first others) = ThenAt (ExprAt place first) (ExprsAt place others)

    pub GivensAt : Place → Givens → Stretch
    GivensAt place form.NoField = λ at to. at ≡ to
    GivensAt place (form.AndField field value others) = ThenAt (ExprAt place value) (GivensAt place others)
    GivensAt place (form.AndWire field «from» read others) = ThenAt (ExprAt place «from») (ThenAt (OneAt ops (op.Apply place (primitive.Field read) 1)) (GivensAt place others))

  -- a unit, and then a stretch
  abbrev pub TickAt : Place → Stretch → Stretch
  TickAt place Rest = ThenAt (OneAt ops (op.Tick place)) Rest

  abbrev pub GivenAt : Place → Option Expr → Stretch
  GivenAt place None = OneAt ops op.End
  GivenAt place (Some one) = ThenAt (ExprAt place one) (OneAt ops op.Give)

  -- a jump to a place
  pub record JumpAt (target at to : ℕ) : Type 0 where
    pub over : ℕ
    pub here : At ops (op.Jump over) at
    pub lands : at + 1 + over ≡ target
    pub end : at + 1 ≡ to

  -- the turns of a `while`: first to the test
  pub record TurnsAt (place : Place) (Test : Stretch) (Body : Ways → Stretch) (at to : ℕ) : Type 0 where
    pub over : ℕ
    pub jumps : At ops (op.Jump over) at
    pub test_from : ℕ
    pub lands : at + 1 + over ≡ test_from
    pub body_from : ℕ
    pub body : Body (record { «break» = to; next = test_from }) body_from test_from
    pub turn_at : ℕ
    pub test : Test test_from turn_at
    pub back : ℕ
    pub turns : At ops (op.Turn place back) turn_at
    pub leads_back : turn_at - back ≡ body_from
    pub end : turn_at + 1 ≡ to

  -- a `for`, behind what it goes over
  pub record ForAt (begin : Op) (next : ℕ → Op) (Body : Ways → Stretch) (at to : ℕ) : Type 0 where
    pub begins : At ops begin at
    pub jump_at : ℕ
    pub goes_on : at + 1 ≡ jump_at
    pub over : ℕ
    pub jumps : At ops (op.Jump over) jump_at
    pub next_at : ℕ
    pub lands : jump_at + 1 + over ≡ next_at
    pub back : ℕ
    pub turns : At ops (next back) next_at
    pub body_from : ℕ
    pub leads_back : next_at - back ≡ body_from
    pub end_at : ℕ
    pub behind : next_at + 1 ≡ end_at
    pub body : Body (record { «break» = end_at; next = next_at }) body_from next_at
    pub ends : At ops op.EndLoop end_at
    pub end : next_at + 2 ≡ to
    pub leaves : end_at + 1 ≡ to

  abbrev mutual
    pub StmtAt : Stmt → Ways → Stretch
    StmtAt (form.Block stmts) ways = StmtsAt stmts ways
    StmtAt (form.Do place action operands) ways = TickAt place (ThenAt (ExprsAt place operands) (OneAt ops (op.Do place action (count operands))))
    StmtAt (form.Move place to number «from» read) ways = TickAt place (ThenAt (ExprAt place «from») (ThenAt (OneAt ops (op.Apply place (primitive.Field read) 1))
        (ThenAt (ExprAt place to) (OneAt ops (op.Do place (action.Assign (left.Field number)) 2)))))
    StmtAt (form.Evaluate place value) ways = TickAt place (ThenAt (ExprAt place value) (OneAt ops op.Drop))
    StmtAt (form.Perform place function operands) ways = TickAt place (ThenAt (ExprsAt place operands) (OneAt ops (op.Perform place function (count operands))))
    StmtAt (form.If place test met otherwise) ways = TickAt place (ThenAt (ExprAt place test) (ChoiceAt ops place (StmtAt met ways) (StmtAt otherwise ways)))
    StmtAt (form.While place test body) ways = TickAt place (TurnsAt place (ExprAt place test) (StmtAt body))
    StmtAt (form.ForKeys place names over body) ways = TickAt place (ThenAt (ExprAt place over) (ForAt (op.BeginKeys place) (op.NextKey place names) (StmtAt body)))
    StmtAt (form.ForIndexes place names over body) ways = TickAt place (ThenAt (ExprAt place over) (ForAt (op.BeginIndexes place) (op.NextIndex place names) (StmtAt body)))
    StmtAt (form.Return place value) ways = TickAt place (GivenAt place value)
    StmtAt (form.Next place) ways = TickAt place (JumpAt ways.next)
    StmtAt (form.Break place) ways = TickAt place (JumpAt ways.«break»)

    pub StmtsAt : Stmts → Ways → Stretch
    StmtsAt form.NoStmt ways = λ at to. at ≡ to
    StmtsAt (form.AndStmt first others) ways = ThenAt (StmtAt first ways) (StmtsAt others ways)

  -- a body, which ends by the operation behind it, or by the next one where a `break` leads out of it
  pub record BodyAt (body : Stmt) (at : ℕ) : Type 0 where
    pub end_at : ℕ
    pub break_at : ℕ
    pub ends : At ops op.End end_at
    pub breaks : At ops op.Break break_at
    pub stands : StmtAt body (record { «break» = break_at; next = end_at }) at end_at

  abbrev pub FunctionAt : Option BodyCode → Option Function → Type 0
  FunctionAt None None = Unit {0}
  FunctionAt None (Some function) = ⊥
  FunctionAt (Some code) None = ⊥
  FunctionAt (Some code) (Some function) = (code.locals ≡ function.locals) × BodyAt function.body code.entry

  abbrev pub BodiesAt : List BodyCode → List HookBody → Type 0
  BodiesAt [] [] = Unit {0}
  BodiesAt [] (body ∷ bodies) = ⊥
  BodiesAt (code ∷ codes) [] = ⊥
  BodiesAt (code ∷ codes) (body ∷ bodies) = (code.locals ≡ body.locals) × BodyAt body.body code.entry × BodiesAt codes bodies

-- the functions and hooks of a program stand in code
pub record Stands (code : Code) (program : Program) : Type 0 where
  pub types : types_in code ≡ types_of program.files program.records program.logs
  pub function : (number : ℕ) → FunctionAt code.ops (slice_get code.functions number) (slice_get program.functions number)
  pub hook : (number : HookNo) → BodiesAt code.ops (hook_in code number) (bodies_of (slice_get program.hooks number.0))

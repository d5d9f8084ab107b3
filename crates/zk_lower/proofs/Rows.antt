-- What lowered code does for small programs, computed by the checker.
use Rattle.std.proofs.Common.{◌≡◌, ℕ, List, [], ◌∷◌, codes, pos, refl, Some, None, Option}
use Rattle.std.specs.Fmt.{digits}
use Rattle.zk_tree.specs.declared.place.Place.{Place}
use Rattle.zk_tree.specs.Table.{entry_at, with_entry}
use Rattle.zk_tree.specs.Value.{Count, same}
use Rattle.zk_typed.specs.declared.ends.BodyEnd.{BodyEnd}
use Rattle.zk_typed.specs.declared.ends.BodyEnd.TheVariants.{Done, Fault, Spent}
use Rattle.zk_typed.specs.declared.ends.FaultKind.TheVariants.{ZeroDivisor}
use Rattle.zk_typed.specs.declared.script.action.Action.TheVariants as action
use Rattle.zk_typed.specs.declared.script.action.Left.TheVariants as left
use Rattle.zk_typed.specs.declared.script.primitive.Binary.TheVariants as binary
use Rattle.zk_typed.specs.declared.script.primitive.Direction.TheVariants as direction
use Rattle.zk_typed.specs.declared.script.primitive.Primitive.{Primitive}
use Rattle.zk_typed.specs.declared.script.primitive.Primitive.TheVariants as primitive
use Rattle.zk_typed.specs.declared.script.primitive.Relation.TheVariants as relation
use Rattle.zk_typed.specs.Dispatch.{Left}
use Rattle.zk_typed.specs.Forms.{Expr, Constant, Local, Global, Apply, Exprs, NoExpr, AndExpr, Stmt, Block, Do, Evaluate, Perform, While, Stmts, NoStmt, AndStmt}
use Rattle.zk_typed.specs.Predefined as type
use Rattle.zk_typed.specs.Program as program
use Rattle.zk_typed.specs.Program.{Program, Handler, Function, HookBody}
use Rattle.zk_typed.specs.State.{first_world}
use Rattle.zk_lower.specs.Code as op
use Rattle.zk_lower.specs.Code.{Op}
use Rattle.zk_lower.specs.Lowering.{lowered}
use Rattle.zk_lower.specs.Meant.{handler_run, initial_run}
use Rattle.zk_lower.specs.Run.{run}

at : ℕ → Place
at byte = record { file = 0; byte = byte }

exprs : List Expr → Exprs
exprs [] = NoExpr
exprs (one ∷ others) = AndExpr one (exprs others)

stmts : List Stmt → Stmts
stmts [] = NoStmt
stmts (one ∷ others) = AndStmt one (stmts others)

block : List Stmt → Stmt
block list = Block (stmts list)

apply : Primitive → List Expr → Expr
apply one list = Apply one (exprs list)

number : ℕ → Expr
number n = Constant (Count n)

print : ℕ → List Expr → Stmt
print byte list = Do (at byte) action.Print (exprs list)

-- with one handler
script : List program.Global → List Function → ℕ → List Stmt → Program
script globals functions locals list = record {
  files = codes "s.zeek" ∷ [];
  records = [];
  logs = [];
  globals = globals;
  functions = functions;
  hooks = [];
  events = [];
  handlers = record { event = record { 0 = 0 }; priority = pos 0; locals = locals; body = block list } ∷ [];
}

-- what is left of the handler, after the initial value of the global
after_initial : Program → ℕ → Option Left → Option Left
after_initial one budget None = None
after_initial one budget (Some first) = handler_run (lowered one) 0 [] first.world budget

-- how the handler ends, and the lines that it printed
said : Option Left → Option (BodyEnd × List (List ℕ) × ℕ)
said None = None
said (Some one) = Some (one.end, one.world.lines, one.units)

-- global t: table[count] of count;
-- function f(t: table[count] of count) { t[2] = 5; }
-- event zeek_init() { f(t); print |t|, t[2], 7 / 2; print 7 / 0; print 1; }
by_reference : Program
by_reference = script
    (record { place = at 0; global_type = type.count; initial = Some (apply (primitive.NewTable (record { keys = 1; expiry = None; default = None })) []); added = []; expiry = None; expire_func = None } ∷ [])
    (record { params = type.count ∷ []; «result» = None; locals = 1; body = block (Do (at 10) (action.Assign left.Element) (exprs (number 5 ∷ Local 0 ∷ number 2 ∷ [])) ∷ []) } ∷ [])
    0 (
    Perform (at 20) 0 (exprs (Global 0 ∷ [])) ∷
    print 30 (apply primitive.Size (Global 0 ∷ []) ∷ apply primitive.Element (Global 0 ∷ number 2 ∷ []) ∷ apply (primitive.Binary binary.Over) (number 7 ∷ number 2 ∷ []) ∷ []) ∷
    print 40 (apply (primitive.Binary binary.Over) (number 7 ∷ number 0 ∷ []) ∷ []) ∷
    print 50 (number 1 ∷ []) ∷ [])

a_fault_ends_code_and_keeps_what_it_did : said (after_initial by_reference 1000 (initial_run (lowered by_reference) 0 (first_world (None ∷ [])) 1000))
    ≡ Some (Fault ZeroDivisor (at 40), codes "1, 5, 3" ∷ [], 995)
unfolding said after_initial by_reference script print number apply block stmts exprs at digits same entry_at with_entry run
a_fault_ends_code_and_keeps_what_it_did = refl

-- event zeek_init() { local i = 0; while ( i < 3 ) ++i; print i; }
counting : Program
counting = script [] [] 1 (
    Do (at 20) (action.Assign (left.Local 0)) (exprs (number 0 ∷ [])) ∷
    While (at 33) (apply (primitive.Compare relation.Less) (Local 0 ∷ number 3 ∷ [])) (Evaluate (at 49) (apply (primitive.Step (left.Local 0) direction.Up) [])) ∷
    print 54 (Local 0 ∷ []) ∷ [])

-- flat operations, of which none holds another
the_code_of_a_loop : (lowered counting).ops ≡
    op.Tick (at 20) ∷ op.Push (Count 0) ∷ op.Do (at 20) (action.Assign (left.Local 0)) 1 ∷
    op.Tick (at 33) ∷ op.Jump 3 ∷ op.Tick (at 49) ∷ op.Apply (at 49) (primitive.Step (left.Local 0) direction.Up) 0 ∷ op.Drop ∷
    op.Local (at 33) 0 ∷ op.Push (Count 3) ∷ op.Apply (at 33) (primitive.Compare relation.Less) 2 ∷ op.Turn (at 33) 6 ∷
    op.Tick (at 54) ∷ op.Local (at 54) 0 ∷ op.Do (at 54) action.Print 1 ∷ op.End ∷ op.Break ∷ []
unfolding counting script print number apply block stmts exprs at
the_code_of_a_loop = refl

statements_and_turns_cost_a_unit_each : said (handler_run (lowered counting) 0 [] (first_world []) 9) ≡ Some (Done, codes "3" ∷ [], 0)
unfolding said counting script print number apply block stmts exprs at digits same run
statements_and_turns_cost_a_unit_each = refl

a_unit_less_is_spent_at_the_print : said (handler_run (lowered counting) 0 [] (first_world []) 8) ≡ Some (Spent (at 54), [], 0)
unfolding said counting script print number apply block stmts exprs at digits same run
a_unit_less_is_spent_at_the_print = refl

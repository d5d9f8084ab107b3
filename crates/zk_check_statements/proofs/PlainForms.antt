-- Statements that have no others within them, by their forms.
use Rattle.std.proofs.Common.{Bool, ◌≡◌, ℕ, zero, suc, ◌<◌, true, false, List, Option, Result, Ok, refl, sym, ap, ◌∙◌, subst, arith}
use Rattle.zk_tree.specs.declared.expr.Expr.{Expr}
use Rattle.zk_tree.specs.declared.expr.Item.{Item}
use Rattle.zk_tree.specs.declared.name.Name.{Name}
use Rattle.zk_tree.specs.declared.place.Place.{Place}
use Rattle.zk_tree.specs.declared.stmt.Stmt.{Stmt}
use Rattle.zk_tree.specs.declared.stmt.Stmt.TheVariants as tree
use Rattle.zk_tree.specs.declared.stmt.Stmt.TheVariants.{outs-Empty, outs-Print, outs-Event, outs-Schedule, outs-Add, outs-Delete, outs-Return, outs-Next, outs-Break, outs-Expr}
use Rattle.zk_typed.specs.declared.refusal.Refusal.{Refusal}
use Rattle.zk_typed.specs.declared.script.action.Action.TheVariants as action
use Rattle.zk_typed.specs.declared.script.stmt.Stmt.{Stmt as RustStmt}
use Rattle.zk_typed.specs.Checked.{Checked}
use Rattle.zk_typed.specs.Expressions.{expr_typed}
use Rattle.zk_typed.specs.Forms as form
use Rattle.zk_typed.specs.Predefined as type
use Rattle.zk_typed.specs.Statements.{Context, Locals, Stated, breaks, check_in, element_of, env_of, expr_stmt, no_stmt, place_of, return_typed, stated, stmt_to}
use Rattle.zk_typed.specs.Tells.{Tells}
use Rattle.zk_typed.specs.Typing.{Env, Wants}
use Rattle.zk_typed.specs.View.{stmt_of}
use Rattle.zk_check_statements.specs.Acting.{delayed, element_acted, event_of, print_of, queued}
use Rattle.zk_check_statements.specs.Steps.{next_where, break_where}

abbrev made_at : ℕ → Context → Locals → Stmt → Checked form.Stmt
made_at depth context locals one = (stmt_to depth context locals one).made

-- an answer by what a form is
told_by : (given : Result RustStmt Refusal) (depth : ℕ) (context : Context) (locals : Locals) (one same : Stmt) (made : Checked form.Stmt) →
    one ≡ same → stated made locals ≡ stmt_to depth context locals same → Tells stmt_of given made → Tells stmt_of given (made_at depth context locals one)
told_by given depth context locals one same made is layer tells =
    let P : Checked form.Stmt → Type 0 = λ wanted. Tells stmt_of given wanted in
    subst P (ap (λ (one_stated : Stated). one_stated.made) layer ∙ ap (made_at depth context locals) (sym is)) tells

layer_empty : (depth : ℕ) (context : Context) (locals : Locals) (place : ℕ) → 0 < depth → stated (Ok no_stmt) locals ≡ stmt_to depth context locals (tree.Empty place)
layer_empty zero context locals place some = absurd (omega arith)
layer_empty (suc depth) context locals place some = rw outs-Empty refl

pub empty_at : (given : Result RustStmt Refusal) (depth : ℕ) (context : Context) (locals : Locals) (one : Stmt) (place : ℕ) →
    0 < depth → one ≡ tree.Empty place → Tells stmt_of given (Ok no_stmt) → Tells stmt_of given (made_at depth context locals one)
empty_at given depth context locals one place some is tells = told_by given depth context locals one (tree.Empty place) _ is (layer_empty depth context locals place some) tells

layer_print : (depth : ℕ) (context : Context) (locals : Locals) (place : ℕ) (values : List Expr) → 0 < depth → stated (print_of context locals place values) locals ≡ stmt_to depth context locals (tree.Print place values)
layer_print zero context locals place values some = absurd (omega arith)
layer_print (suc depth) context locals place values some = rw outs-Print refl

pub print_at : (given : Result RustStmt Refusal) (depth : ℕ) (context : Context) (locals : Locals) (one : Stmt) (place : ℕ) (values lent : List Expr) →
    0 < depth → one ≡ tree.Print place values → lent ≡ values → Tells stmt_of given (print_of context locals place lent) → Tells stmt_of given (made_at depth context locals one)
print_at given depth context locals one place values lent some is same tells =
    told_by given depth context locals one (tree.Print place values) _ is (ap (λ all. stated (print_of context locals place all) locals) same ∙ layer_print depth context locals place values some) tells

layer_event : (depth : ℕ) (context : Context) (locals : Locals) (place : ℕ) (name : Name) (items : List Item) → 0 < depth →
    stated (queued (place_of context place) (event_of context locals place name items)) locals ≡ stmt_to depth context locals (tree.Event place name items)
layer_event zero context locals place name items some = absurd (omega arith)
layer_event (suc depth) context locals place name items some = rw outs-Event refl

pub event_at : (given : Result RustStmt Refusal) (depth : ℕ) (context : Context) (locals : Locals) (one : Stmt) (place : ℕ) (name : Name) (items lent : List Item) →
    0 < depth → one ≡ tree.Event place name items → lent ≡ items → Tells stmt_of given (queued (place_of context place) (event_of context locals place name lent)) → Tells stmt_of given (made_at depth context locals one)
event_at given depth context locals one place name items lent some is same tells =
    told_by given depth context locals one (tree.Event place name items) _ is
    (ap (λ all. stated (queued (place_of context place) (event_of context locals place name all)) locals) same ∙ layer_event depth context locals place name items some) tells

abbrev due_after : Context → Locals → ℕ → Expr → Name → List Item → Checked form.Stmt
due_after context locals place delay name items = delayed (place_of context place) (check_in context locals (Wants type.interval) delay) (event_of context locals place name items)

layer_schedule : (depth : ℕ) (context : Context) (locals : Locals) (place : ℕ) (delay : Expr) (name : Name) (items : List Item) → 0 < depth →
    stated (due_after context locals place delay name items) locals ≡ stmt_to depth context locals (tree.Schedule place delay name items)
layer_schedule zero context locals place delay name items some = absurd (omega arith)
layer_schedule (suc depth) context locals place delay name items some = rw outs-Schedule refl

pub schedule_at : (given : Result RustStmt Refusal) (depth : ℕ) (context : Context) (locals : Locals) (one : Stmt) (place : ℕ) (delay : Expr) (name : Name) (items lent : List Item) →
    0 < depth → one ≡ tree.Schedule place delay name items → lent ≡ items →
    Tells stmt_of given (delayed (place_of context place) (check_in context locals (Wants type.interval) delay) (event_of context locals place name lent)) → Tells stmt_of given (made_at depth context locals one)
schedule_at given depth context locals one place delay name items lent some is same tells =
    told_by given depth context locals one (tree.Schedule place delay name items) _ is
    (ap (λ all. stated (due_after context locals place delay name all) locals) same ∙ layer_schedule depth context locals place delay name items some) tells

layer_add : (depth : ℕ) (context : Context) (locals : Locals) (place : ℕ) (element : Expr) → 0 < depth →
    stated (element_acted (place_of context place) action.Add (element_of (check_in context locals) (env_of context locals) (place_of context place) false element)) locals ≡ stmt_to depth context locals (tree.Add place element)
layer_add zero context locals place element some = absurd (omega arith)
layer_add (suc depth) context locals place element some = rw outs-Add refl

pub add_at : (given : Result RustStmt Refusal) (depth : ℕ) (context : Context) (locals : Locals) (one : Stmt) (place : ℕ) (element : Expr) → 0 < depth → one ≡ tree.Add place element →
    Tells stmt_of given (element_acted (place_of context place) action.Add (element_of (check_in context locals) (env_of context locals) (place_of context place) false element)) → Tells stmt_of given (made_at depth context locals one)
add_at given depth context locals one place element some is tells = told_by given depth context locals one (tree.Add place element) _ is (layer_add depth context locals place element some) tells

layer_delete : (depth : ℕ) (context : Context) (locals : Locals) (place : ℕ) (element : Expr) → 0 < depth →
    stated (element_acted (place_of context place) action.Delete (element_of (check_in context locals) (env_of context locals) (place_of context place) true element)) locals ≡ stmt_to depth context locals (tree.Delete place element)
layer_delete zero context locals place element some = absurd (omega arith)
layer_delete (suc depth) context locals place element some = rw outs-Delete refl

pub delete_at : (given : Result RustStmt Refusal) (depth : ℕ) (context : Context) (locals : Locals) (one : Stmt) (place : ℕ) (element : Expr) → 0 < depth → one ≡ tree.Delete place element →
    Tells stmt_of given (element_acted (place_of context place) action.Delete (element_of (check_in context locals) (env_of context locals) (place_of context place) true element)) → Tells stmt_of given (made_at depth context locals one)
delete_at given depth context locals one place element some is tells = told_by given depth context locals one (tree.Delete place element) _ is (layer_delete depth context locals place element some) tells

layer_return : (depth : ℕ) (context : Context) (locals : Locals) (byte : ℕ) (value : Option Expr) → 0 < depth →
    stated (return_typed context (check_in context locals) (place_of context byte) value) locals ≡ stmt_to depth context locals (tree.Return byte value)
layer_return zero context locals byte value some = absurd (omega arith)
layer_return (suc depth) context locals byte value some = rw outs-Return refl

pub return_at : (given : Result RustStmt Refusal) (depth : ℕ) (context : Context) (locals : Locals) (one : Stmt) (byte : ℕ) (place : Place) (value : Option Expr) →
    0 < depth → one ≡ tree.Return byte value → place ≡ place_of context byte → Tells stmt_of given (return_typed context (check_in context locals) place value) → Tells stmt_of given (made_at depth context locals one)
return_at given depth context locals one byte place value some is here tells =
    told_by given depth context locals one (tree.Return byte value) _ is
    (ap (λ at. stated (return_typed context (check_in context locals) at value) locals) here ∙ layer_return depth context locals byte value some) tells

layer_next : (depth : ℕ) (context : Context) (locals : Locals) (byte : ℕ) → 0 < depth → stated (next_where context.in_loop (place_of context byte)) locals ≡ stmt_to depth context locals (tree.Next byte)
layer_next zero context locals byte some = absurd (omega arith)
layer_next (suc depth) context locals byte some = rw outs-Next refl

pub next_at : (given : Result RustStmt Refusal) (depth : ℕ) (context : Context) (locals : Locals) (one : Stmt) (byte : ℕ) (place : Place) →
    0 < depth → one ≡ tree.Next byte → place ≡ place_of context byte → Tells stmt_of given (next_where context.in_loop place) → Tells stmt_of given (made_at depth context locals one)
next_at given depth context locals one byte place some is here tells =
    told_by given depth context locals one (tree.Next byte) _ is (ap (λ at. stated (next_where context.in_loop at) locals) here ∙ layer_next depth context locals byte some) tells

layer_break : (depth : ℕ) (context : Context) (locals : Locals) (byte : ℕ) → 0 < depth → stated (break_where (breaks context) (place_of context byte)) locals ≡ stmt_to depth context locals (tree.Break byte)
layer_break zero context locals byte some = absurd (omega arith)
layer_break (suc depth) context locals byte some = rw outs-Break refl

pub break_at : (given : Result RustStmt Refusal) (depth : ℕ) (context : Context) (locals : Locals) (one : Stmt) (byte : ℕ) (place : Place) (may : Bool) →
    0 < depth → one ≡ tree.Break byte → place ≡ place_of context byte → may ≡ breaks context → Tells stmt_of given (break_where may place) → Tells stmt_of given (made_at depth context locals one)
break_at given depth context locals one byte place may some is here same tells =
    told_by given depth context locals one (tree.Break byte) _ is
    (ap (λ at. stated (break_where may at) locals) here ∙ ap (λ it. stated (break_where it (place_of context byte)) locals) same ∙ layer_break depth context locals byte some) tells

layer_expr : (depth : ℕ) (context : Context) (locals : Locals) (value : Expr) → 0 < depth → stated (expr_stmt (check_in context locals) (env_of context locals) value) locals ≡ stmt_to depth context locals (tree.Expr value)
layer_expr zero context locals value some = absurd (omega arith)
layer_expr (suc depth) context locals value some = rw outs-Expr refl

pub expr_at : (given : Result RustStmt Refusal) (depth : ℕ) (context : Context) (locals : Locals) (one : Stmt) (env : Env) (value : Expr) →
    0 < depth → one ≡ tree.Expr value → env ≡ env_of context locals → Tells stmt_of given (expr_stmt (expr_typed env) env value) → Tells stmt_of given (made_at depth context locals one)
expr_at given depth context locals one env value some is same tells =
    told_by given depth context locals one (tree.Expr value) _ is (ap (λ at. stated (expr_stmt (expr_typed at) at value) locals) same ∙ layer_expr depth context locals value some) tells

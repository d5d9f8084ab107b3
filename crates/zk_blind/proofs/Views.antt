-- What the views give at the parts of a form.
use Rattle.std.proofs.Common.{◌≡◌, ℕ, ◌&&◌, List, [], ◌∷◌, map, refl, sym, ◌∙◌, ap}
use Rattle.std.specs.List.{list_all}
use Rattle.std.proofs.lemmas.List.Folds.{list_all-map}
use Rattle.zk_typed.specs.declared.script.expr.Expr.{Expr}
use Rattle.zk_typed.specs.declared.script.expr.Given.{Given}
use Rattle.zk_typed.specs.declared.script.program.Hook.{Hook}
use Rattle.zk_typed.specs.declared.script.program.Program.{Program as RustProgram}
use Rattle.zk_typed.specs.declared.script.expr.Expr.TheOpen as layer
use Rattle.zk_typed.specs.declared.script.expr.Expr.TheFolds.{fold-roll-Expr}
use Rattle.zk_typed.specs.declared.script.expr.Expr.TheVariants as expr
use Rattle.zk_typed.specs.declared.script.primitive.Primitive.{Primitive}
use Rattle.zk_typed.specs.declared.script.stmt.Stmt.{Stmt, Block, fold-roll-Stmt}
use Rattle.zk_typed.specs.declared.script.stmt.Stmt.TheOpen as opened
use Rattle.zk_typed.specs.declared.script.stmt.Stmt.TheVariants.{rolls-Block}
use Rattle.zk_base.specs.declared.numbers.HookNo.{HookNo}
use Rattle.zk_base.specs.declared.numbers.RecordNo.{RecordNo}
use Rattle.zk_typed.specs.Blind as spec
use Rattle.zk_typed.specs.Forms as form
use Rattle.zk_typed.specs.Program.{Program}
use Rattle.zk_typed.specs.View.{exprs_of, expr_of, all_of, givens_of, stmt_of, stmts_of, stmt_step, Prefixed, expr_step, given_step, program_of, global_of, hook_of, hook_body_of, handler_of}
use Rattle.zk_blind.specs.Givens.{given_of, all_given}

pub operands_are : (all : List Expr) → exprs_of (map expr_of all) ≡ all_of all
operands_are [] = refl
operands_are (first ∷ others) = ap (form.AndExpr (expr_of first)) (operands_are others)

pub given_are : (all : List Given) → givens_of (map given_of all) ≡ all_given all
given_are [] = refl
given_are (first ∷ others) = ap (given_of first) (given_are others)

pub apply_is : (primitive : Primitive) (operands : List Expr) → expr_of (expr.Apply primitive operands) ≡ form.Apply primitive (all_of operands)
apply_is primitive operands =
    ap expr_of (sym (expr.rolls-Apply primitive operands)) ∙ fold-roll-Expr form.Expr Prefixed expr_step given_step (layer.Apply primitive operands) ∙ ap (form.Apply primitive) (operands_are operands)

pub new_is : (number : RecordNo) (given : List Given) → expr_of (expr.New number given) ≡ form.New number (all_given given)
new_is number given =
    ap expr_of (sym (expr.rolls-New number given)) ∙ fold-roll-Expr form.Expr Prefixed expr_step given_step (layer.New number given) ∙ ap (form.New number) (given_are given)

pub call_is : (function : ℕ) (operands : List Expr) → expr_of (expr.Call function operands) ≡ form.Call function (all_of operands)
call_is function operands =
    ap expr_of (sym (expr.rolls-Call function operands)) ∙ fold-roll-Expr form.Expr Prefixed expr_step given_step (layer.Call function operands) ∙ ap (form.Call function) (operands_are operands)

pub hook_is : (hook : HookNo) (operands : List Expr) → expr_of (expr.Hook hook operands) ≡ form.Hook hook (all_of operands)
hook_is hook operands =
    ap expr_of (sym (expr.rolls-Hook hook operands)) ∙ fold-roll-Expr form.Expr Prefixed expr_step given_step (layer.Hook hook operands) ∙ ap (form.Hook hook) (operands_are operands)

pub exprs_are_all : (program : Program) (all : List Expr) → spec.exprs_blind program (all_of all) ≡ list_all (spec.expr_blind program) (map expr_of all)
exprs_are_all program [] = refl
exprs_are_all program (first ∷ others) = ap (λ rest. spec.expr_blind program (expr_of first) && rest) (exprs_are_all program others)

pub stmts_are_all : (program : Program) (all : List Stmt) → spec.stmts_blind program (stmts_of (map stmt_of all)) ≡ list_all (λ one. spec.stmt_blind program (stmt_of one)) all
stmts_are_all program [] = refl
stmts_are_all program (first ∷ others) = ap (λ rest. spec.stmt_blind program (stmt_of first) && rest) (stmts_are_all program others)

pub block_is_blind : (program : Program) (all : List Stmt) → spec.stmt_blind program (stmt_of (Block all)) ≡ list_all (λ one. spec.stmt_blind program (stmt_of one)) all
block_is_blind program all =
    ap (λ one. spec.stmt_blind program (stmt_of one)) (sym (rolls-Block all))
    ∙ ap (spec.stmt_blind program) (fold-roll-Stmt form.Stmt stmt_step (opened.Block all))
    ∙ stmts_are_all program all

pub hook_is_blind : (program : Program) (hook : Hook) → spec.hook_blind program (hook_of hook) ≡ list_all (λ body. spec.stmt_blind program (stmt_of body.body)) hook.bodies
hook_is_blind program hook = list_all-map (λ body. spec.stmt_blind program body.body) hook_body_of hook.bodies

pub program_is_blind : (program : RustProgram) → spec.is_blind (program_of program) ≡
    list_all (λ one. spec.global_blind (program_of program) (global_of one)) program.globals &&
    list_all (λ one. spec.stmt_blind (program_of program) (stmt_of one.body)) program.functions &&
    list_all (λ one. spec.hook_blind (program_of program) (hook_of one)) program.hooks &&
    list_all (λ one. spec.handler_blind (program_of program) (handler_of one)) program.handlers
program_is_blind program = simp list_all-map

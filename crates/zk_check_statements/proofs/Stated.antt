-- What the views give at the statements that are made.
use Rattle.std.proofs.Common.{rules, ◌≡◌, ℕ, List, [], ◌∷◌, ◌++◌, map, Some, refl, sym, ap, ◌∙◌}
use Rattle.zk_tree.specs.declared.name.Name.{Name}
use Rattle.zk_tree.specs.declared.place.Place.{Place}
use Rattle.zk_typed.specs.declared.script.action.Action.{Action}
use Rattle.zk_typed.specs.declared.script.expr.Expr as declared
use Rattle.zk_typed.specs.declared.script.stmt.Names.{Names}
use Rattle.zk_typed.specs.declared.script.stmt.Stmt as stmt
use Rattle.zk_typed.specs.declared.script.stmt.Stmt.TheOpen as opened
use Rattle.zk_typed.specs.declared.script.stmt.Stmt.{fold-roll-Stmt}
use Rattle.zk_typed.specs.declared.script.stmt.Stmt.TheVariants.{rolls-Block, rolls-Do, rolls-If, rolls-While, rolls-ForKeys, rolls-ForIndexes, rolls-Call}
use Rattle.zk_typed.specs.Forms as form
use Rattle.zk_typed.specs.Statements.{as_names}
use Rattle.zk_typed.specs.View.{expr_of, all_of, stmt_of, stmt_step, stmts_of}
use Rattle.zk_check_statements.specs.Blocks.{all_stated}

pub do_is : (place : Place) (action : Action) (operands : List declared.Expr) → stmt_of (stmt.Do place action operands) ≡ form.Do place action (all_of operands)
do_is place action operands = ap stmt_of (sym (rolls-Do place action operands)) ∙ search (rules, fold-roll-Stmt)

pub perform_is : (place : Place) (function : ℕ) (operands : List declared.Expr) → stmt_of (stmt.Call place function operands) ≡ form.Perform place function (all_of operands)
perform_is place function operands = ap stmt_of (sym (rolls-Call place function operands)) ∙ search (rules, fold-roll-Stmt)

pub if_is : (place : Place) (test : declared.Expr) (met otherwise : stmt.Stmt) → stmt_of (stmt.If place test met otherwise) ≡ form.If place (expr_of test) (stmt_of met) (stmt_of otherwise)
if_is place test met otherwise = ap stmt_of (sym (rolls-If place test met otherwise)) ∙ search (rules, fold-roll-Stmt)

pub while_is : (place : Place) (test : declared.Expr) (body : stmt.Stmt) → stmt_of (stmt.While place test body) ≡ form.While place (expr_of test) (stmt_of body)
while_is place test body = ap stmt_of (sym (rolls-While place test body)) ∙ search (rules, fold-roll-Stmt)

pub for_keys_is : (place : Place) (names : Names) (over : declared.Expr) (body : stmt.Stmt) → stmt_of (stmt.ForKeys place names over body) ≡ form.ForKeys place names (expr_of over) (stmt_of body)
for_keys_is place names over body = ap stmt_of (sym (rolls-ForKeys place names over body)) ∙ search (rules, fold-roll-Stmt)

pub for_indexes_is : (place : Place) (names : Names) (over : declared.Expr) (body : stmt.Stmt) → stmt_of (stmt.ForIndexes place names over body) ≡ form.ForIndexes place names (expr_of over) (stmt_of body)
for_indexes_is place names over body = ap stmt_of (sym (rolls-ForIndexes place names over body)) ∙ search (rules, fold-roll-Stmt)

-- the last number is that of the value
pub names_are : (name : Name) (numbers : List ℕ) (last : ℕ) → as_names (Some name) (numbers ++ last ∷ []) ≡ record { keys = numbers; value = Some last }
names_are name [] last = refl
names_are name (first ∷ []) last = refl
names_are name (first ∷ second ∷ numbers) last = ap (λ (names : Names). record names { keys = first ∷ names.keys }) (names_are name (second ∷ numbers) last)

pub stmts_are : (all : List stmt.Stmt) → stmts_of (map stmt_of all) ≡ all_stated all
stmts_are [] = refl
stmts_are (first ∷ others) = ap (form.AndStmt (stmt_of first)) (stmts_are others)

pub block_is : (all : List stmt.Stmt) → stmt_of (stmt.Block all) ≡ form.Block (all_stated all)
block_is all =
    ap stmt_of (sym (rolls-Block all)) ∙ fold-roll-Stmt form.Stmt stmt_step (opened.Block all) ∙ ap form.Block (stmts_are all)

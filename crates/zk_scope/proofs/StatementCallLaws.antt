-- The calls in a statement, by its parts.
use Rattle.std.proofs.Common.{◌≡◌, ℕ, zero, suc, List, ◌++◌, Option, refl}
use Rattle.zk_tree.specs.declared.expr.Expr.{Expr}
use Rattle.zk_tree.specs.declared.expr.Item.{Item}
use Rattle.zk_tree.specs.declared.name.Name.{Name}
use Rattle.zk_tree.specs.declared.stmt.Init.{Init}
use Rattle.zk_tree.specs.declared.stmt.Stmt.TheVariants as stmt
use Rattle.zk_tree.specs.declared.stmt.Stmt.TheVariants.{outs-Local, outs-Print, outs-Event, outs-Schedule, outs-Add, outs-Delete, outs-Return, outs-Expr}
use Rattle.zk_tree.specs.declared.types.Type.{«Type»}
use Rattle.zk_typed.specs.LoadOrder.{Home}
use Rattle.zk_typed.specs.LogCalls.{expr_calls, init_calls, maybe_calls, stmt_calls_to}
use Rattle.zk_scope.specs.Calls.{all_exprs_calls, all_items_calls}

pub in_local : (depth : ℕ) (home : Home) (place : ℕ) (name : Name) (tree : Option «Type») (init : Option Init) → (depth ≡ 0 → ⊥) →
    stmt_calls_to depth home (stmt.Local place name tree init) ≡ init_calls home init
in_local zero home place name tree init h = absurd (h refl)
in_local (suc depth) home place name tree init h = rw outs-Local refl

pub in_print : (depth : ℕ) (home : Home) (place : ℕ) (values : List Expr) → (depth ≡ 0 → ⊥) →
    stmt_calls_to depth home (stmt.Print place values) ≡ all_exprs_calls home values
in_print zero home place values h = absurd (h refl)
in_print (suc depth) home place values h = rw outs-Print refl

pub in_event : (depth : ℕ) (home : Home) (place : ℕ) (name : Name) (items : List Item) → (depth ≡ 0 → ⊥) →
    stmt_calls_to depth home (stmt.Event place name items) ≡ all_items_calls home items
in_event zero home place name items h = absurd (h refl)
in_event (suc depth) home place name items h = rw outs-Event refl

pub in_schedule : (depth : ℕ) (home : Home) (place : ℕ) (delay : Expr) (name : Name) (items : List Item) → (depth ≡ 0 → ⊥) →
    stmt_calls_to depth home (stmt.Schedule place delay name items) ≡ expr_calls home delay ++ all_items_calls home items
in_schedule zero home place delay name items h = absurd (h refl)
in_schedule (suc depth) home place delay name items h = rw outs-Schedule refl

pub in_add : (depth : ℕ) (home : Home) (place : ℕ) (one : Expr) → (depth ≡ 0 → ⊥) → stmt_calls_to depth home (stmt.Add place one) ≡ expr_calls home one
in_add zero home place one h = absurd (h refl)
in_add (suc depth) home place one h = rw outs-Add refl

pub in_delete : (depth : ℕ) (home : Home) (place : ℕ) (one : Expr) → (depth ≡ 0 → ⊥) → stmt_calls_to depth home (stmt.Delete place one) ≡ expr_calls home one
in_delete zero home place one h = absurd (h refl)
in_delete (suc depth) home place one h = rw outs-Delete refl

pub in_return : (depth : ℕ) (home : Home) (place : ℕ) (one : Option Expr) → (depth ≡ 0 → ⊥) → stmt_calls_to depth home (stmt.Return place one) ≡ maybe_calls home one
in_return zero home place one h = absurd (h refl)
in_return (suc depth) home place one h = rw outs-Return refl

pub in_value : (depth : ℕ) (home : Home) (one : Expr) → (depth ≡ 0 → ⊥) → stmt_calls_to depth home (stmt.Expr one) ≡ expr_calls home one
in_value zero home one h = absurd (h refl)
in_value (suc depth) home one h = rw outs-Expr refl

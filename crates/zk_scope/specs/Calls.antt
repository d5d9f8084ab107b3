-- Calls in the texts of scripts, as what is lent stands for them.
use Rattle.std.specs.Prelude.{ℕ, suc, true, List, [], ◌∷◌, map, flat_map}
use Rattle.zk_tree.specs.declared.expr.Expr.{Expr}
use Rattle.zk_tree.specs.declared.expr.Expr.TheVariants as expr
use Rattle.zk_tree.specs.declared.expr.Item.{Item}
use Rattle.zk_tree.specs.declared.expr.Link.{Link, out-Link}
use Rattle.zk_tree.specs.declared.expr.Part.{Part}
use Rattle.zk_tree.specs.declared.stmt.Stmt.{Stmt}
use Rattle.zk_typed.specs.LoadOrder.{Home}
use Rattle.zk_typed.specs.LogCalls.{Call, item_expr, expr_calls, expr_calls_to, stmt_calls_to}
use Rattle.zk_scope.specs.declared.calls.Call.{Call as LentCall}
use Rattle.zk_scope.specs.Lent.{home_of}

abbrev pub call_of : LentCall → Call
call_of call = record { home = home_of call.home; whole = call.whole.now; name = call.name.now; items = call.items.now }

abbrev pub calls_lent : List LentCall → List Call
calls_lent calls = map call_of calls

-- the calls in several expressions of a list
abbrev pub exprs_calls : (Expr → List Call) → List Expr → List Call
exprs_calls more ones = flat_map more ones

abbrev pub items_calls : (Expr → List Call) → List Item → List Call
items_calls more items = flat_map (λ item. more (item_expr item)) items

abbrev pub links_calls : (Expr → List Call) → List Link → List Call
links_calls more links = flat_map (λ link. more (out-Link link).operand) links

-- an expression without calls
unfoldable pub nothing_called : Expr
nothing_called = expr.Truth 0 true

-- the calls in what stands behind an expression
unfoldable pub part_calls : ℕ → Home → Part → List Call
part_calls depth home part = expr_calls_to (suc depth) home (expr.Post nothing_called (part ∷ []))

abbrev pub parts_calls : ℕ → Home → List Part → List Call
parts_calls depth home parts = flat_map (part_calls depth home) parts

-- the calls in whole expressions of a list, and in arguments
abbrev pub all_exprs_calls : Home → List Expr → List Call
all_exprs_calls home ones = flat_map (expr_calls home) ones

abbrev pub all_items_calls : Home → List Item → List Call
all_items_calls home items = flat_map (λ item. expr_calls home (item_expr item)) items

abbrev pub stmts_calls : ℕ → Home → List Stmt → List Call
stmts_calls depth home stmts = flat_map (stmt_calls_to depth home) stmts

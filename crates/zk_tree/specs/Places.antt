-- The place of a node: that of its first byte. A node that does not begin with a token of its own begins where its
-- first part does.
use Rattle.std.specs.Prelude.{◌≡◌, ℕ, zero, suc, ◌≤◌}
use Rattle.zk_tree.specs.declared.expr.Expr.{Expr, out-Expr, size-Expr}
use Rattle.zk_tree.specs.declared.expr.Expr.TheOpen.{Expr-F}
use Rattle.zk_tree.specs.declared.expr.Expr.TheOpen as written
use Rattle.zk_tree.specs.declared.expr.Item.{Item}
use Rattle.zk_tree.specs.declared.expr.Link.{Link}
use Rattle.zk_tree.specs.declared.expr.Part.{Part}
use Rattle.zk_tree.specs.declared.types.«Type».{«Type», out-Type}
use Rattle.zk_tree.specs.declared.types.«Type».TheOpen.{Type-F}
use Rattle.zk_tree.specs.declared.types.«Type».TheOpen as of
use Rattle.zk_tree.specs.declared.types.Field.{Field}
use Rattle.zk_tree.specs.declared.types.Param.{Param}
use Rattle.zk_tree.specs.declared.stmt.Block.{Block, out-Block}
use Rattle.zk_tree.specs.declared.stmt.Init.{Init}
use Rattle.zk_tree.specs.declared.stmt.Init.TheVariants as init
use Rattle.zk_tree.specs.declared.stmt.Stmt.{Stmt, out-Stmt}
use Rattle.zk_tree.specs.declared.stmt.Stmt.TheOpen.{Stmt-F}
use Rattle.zk_tree.specs.declared.stmt.Stmt.TheOpen as stmt
use Rattle.zk_tree.specs.declared.decl.Decl.{Decl, out-Decl}
use Rattle.zk_tree.specs.declared.decl.Decl.TheOpen.{Decl-F}
use Rattle.zk_tree.specs.declared.decl.Decl.TheOpen as decl

-- that of an expression whose parts nest at most so deep
abbrev pub place_to : ℕ → Expr → ℕ
place_to zero one = 0
place_to (suc depth) one = of_form (place_to depth) (out-Expr one)
  where
    of_form : (Expr → ℕ) → Expr-F Expr Item Part Link → ℕ
    of_form first (written.Assign one operator other) = first one
    of_form first (written.Choice one other third) = first one
    of_form first (written.Chain level one others) = first one
    of_form first (written.Compare one operator other) = first one
    of_form first (written.Unary place operator one) = place
    of_form first (written.Post one parts) = first one
    of_form first (written.Number place number) = place
    of_form first (written.Interval place number unit plural) = place
    of_form first (written.Literal place literal) = place
    of_form first (written.Truth place truth) = place
    of_form first (written.Name name) = name.place
    of_form first (written.Parenthesis place inner) = place
    of_form first (written.Size place inner) = place
    of_form first (written.List place items) = place
    of_form first (written.Make place container items) = place
    of_form first (written.Hook place name items) = place

abbrev pub expr_place : Expr → ℕ
expr_place one = place_to (size-Expr one) one

-- the place of an expression, at each depth that is enough
abbrev pub IsPlace : ℕ → Expr → Type 0
IsPlace place one = (depth : ℕ) → size-Expr one ≤ depth → place ≡ place_to depth one

abbrev pub init_place : Init → ℕ
init_place (init.Value one) = expr_place one
init_place (init.Braces place values comma) = place

abbrev pub type_place : «Type» → ℕ
type_place tree = of_form (out-Type tree)
  where
    of_form : Type-F «Type» Field Param → ℕ
    of_form (of.Atomic place atomic) = place
    of_form (of.Named name) = name.place
    of_form (of.Table place keys value) = place
    of_form (of.Set place keys) = place
    of_form (of.Vector place item) = place
    of_form (of.Record place fields) = place
    of_form (of.Enum place words comma) = place
    of_form (of.Event place params) = place
    of_form (of.Hook place params) = place
    of_form (of.Procedure place params) = place
    of_form (of.Function place params «result») = place

abbrev pub stmt_place : Stmt → ℕ
stmt_place one = of_form (out-Stmt one)
  where
    of_form : Stmt-F Stmt Block → ℕ
    of_form (stmt.Block block) = (out-Block block).place
    of_form (stmt.Empty place) = place
    of_form (stmt.If place test body) = place
    of_form (stmt.IfElse place test body other) = place
    of_form (stmt.While place test body) = place
    of_form (stmt.For place keys value over body) = place
    of_form (stmt.Local place name type init) = place
    of_form (stmt.Print place values) = place
    of_form (stmt.Event place name items) = place
    of_form (stmt.Schedule place delay name items) = place
    of_form (stmt.Add place element) = place
    of_form (stmt.Delete place element) = place
    of_form (stmt.Return place value) = place
    of_form (stmt.Next place) = place
    of_form (stmt.Break place) = place
    of_form (stmt.Expr value) = expr_place value

abbrev pub decl_place : Decl → ℕ
decl_place one = of_form (out-Decl one)
  where
    of_form : Decl-F Decl → ℕ
    of_form (decl.Module place name) = place
    of_form (decl.Export place decls) = place
    of_form (decl.Load place file) = place
    of_form (decl.Variable place lasting name type init attrs) = place
    of_form (decl.Redef place name operator init) = place
    of_form (decl.RedefEnum place name words comma) = place
    of_form (decl.RedefRecord place name fields) = place
    of_form (decl.Type place name meant) = place
    of_form (decl.Body place kind name params attrs body) = place
    of_form (decl.Function place name params «result» body) = place

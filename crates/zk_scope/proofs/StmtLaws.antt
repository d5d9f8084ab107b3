-- The types of the locals in a statement, by its parts.
use Rattle.std.proofs.Common.{◌≡◌, ℕ, List, [], ◌∷◌, ◌++◌, flat_map, Option, refl, ap, append-nil}
use Rattle.zk_tree.specs.declared.expr.Expr.{Expr}
use Rattle.zk_tree.specs.declared.name.Name.{Name}
use Rattle.zk_tree.specs.declared.stmt.Block.{Block}
use Rattle.zk_tree.specs.declared.stmt.Keys.{Keys}
use Rattle.zk_tree.specs.declared.stmt.Stmt.{Stmt}
use Rattle.zk_tree.specs.declared.stmt.Stmt as tree
use Rattle.zk_tree.specs.Opening.{trees}
use Rattle.zk_typed.specs.Within.{stmt_locals}

block_parts : (place : ℕ) (stmts : List Stmt) → stmt_locals (tree.Block (record { place = place; stmts = stmts })) ≡ flat_map stmt_locals stmts
unfolding trees
block_parts place [] = refl
block_parts place (one ∷ others) = ap (λ more. stmt_locals one ++ more) (block_parts place others)

pub locals_of_block : (block : Block) → stmt_locals (tree.Block block) ≡ flat_map stmt_locals block.stmts
locals_of_block block = block_parts block.place block.stmts

pub locals_of_if : (place : ℕ) (test : Expr) (met : Stmt) → stmt_locals (tree.If place test met) ≡ stmt_locals met
unfolding trees
locals_of_if place test met = append-nil (stmt_locals met)

pub locals_of_else : (place : ℕ) (test : Expr) (met otherwise : Stmt) → stmt_locals (tree.IfElse place test met otherwise) ≡ stmt_locals met ++ stmt_locals otherwise
unfolding trees
locals_of_else place test met otherwise = rw (append-nil (stmt_locals met), append-nil (stmt_locals otherwise)) refl

pub locals_of_while : (place : ℕ) (test : Expr) (body : Stmt) → stmt_locals (tree.While place test body) ≡ stmt_locals body
unfolding trees
locals_of_while place test body = append-nil (stmt_locals body)

pub locals_of_for : (place : ℕ) (keys : Keys) (value : Option Name) (over : Expr) (body : Stmt) → stmt_locals (tree.For place keys value over body) ≡ stmt_locals body
unfolding trees
locals_of_for place keys value over body = append-nil (stmt_locals body)

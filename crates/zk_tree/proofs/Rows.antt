-- The places of nodes, computed by the checker.
use Rattle.std.specs.Prelude.{◌≡◌, [], ◌∷◌, codes, refl}
use Rattle.zk_tree.specs.declared.expr.Expr.{Expr}
use Rattle.zk_tree.specs.declared.expr.Expr.TheVariants as expr
use Rattle.zk_tree.specs.declared.expr.Part.TheVariants as part
use Rattle.zk_tree.specs.declared.operator.Comparing.TheVariants as comparing
use Rattle.zk_tree.specs.declared.stmt.Stmt.TheVariants as stmt
use Rattle.zk_tree.specs.Opening.{trees}
use Rattle.zk_tree.specs.Places.{expr_place, stmt_place}

-- 7 in x ? 8 : 9, where the question mark does not begin the expression
abbrev choice_of_a_comparison : Expr
choice_of_a_comparison = expr.Choice (expr.Compare (expr.Number 5 7) comparing.In (expr.Name (record { place = 10; text = codes "x" }))) (expr.Number 14 8) (expr.Number 18 9)

expression_begins_with_its_first_operand : expr_place choice_of_a_comparison ≡ 5
unfolding trees
expression_begins_with_its_first_operand = refl

-- (x)$f, and the statement that it makes
abbrev field_of_parenthesis : Expr
field_of_parenthesis = expr.Post (expr.Parenthesis 3 (expr.Name (record { place = 4; text = codes "x" }))) (part.Field (record { place = 7; text = codes "f" }) ∷ [])

statement_begins_with_its_expression : stmt_place (stmt.Expr field_of_parenthesis) ≡ 3
unfolding trees
statement_begins_with_its_expression = refl

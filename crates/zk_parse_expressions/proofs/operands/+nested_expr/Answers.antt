use Rattle.std.proofs.Common.{arith}
use Rattle.zk_tree.specs.Rules.{AnExpr, ACond, AUnary}
use Rattle.zk_parse_expressions.specs.Nesting.{nest_of}
use Rattle.zk_parse_core.proofs.Depth.{not_within, within_less}
use Rattle.zk_parse_expressions.proofs.operands.+nested_expr.Goals as goal

pub returns-then-depth-eq0 : goal.returns-then-depth-eq0
returns-then-depth-eq0 t c = not_within (nest_of c.args.what) c.args.depth c.args.tokens.now (omega arith)

pub returns-in-Expr : goal.returns-in-Expr
returns-in-Expr t c = rw c.in-Expr.is (rw (within_less AnExpr c.args.depth c.args.tokens.now (omega arith)) c.assignment.ensures)

pub returns-in-Cond : goal.returns-in-Cond
returns-in-Cond t c = rw c.in-Cond.is (rw (within_less ACond c.args.depth c.args.tokens.now (omega arith)) c.choice.ensures)

pub returns-in-Unary : goal.returns-in-Unary
returns-in-Unary t c = rw c.in-Unary.is (rw (within_less AUnary c.args.depth c.args.tokens.now (omega arith)) c.unary.ensures)

-- An expression begins where its first part does, however deep it is nested.
use Rattle.std.proofs.Common.{ℕ, zero, suc, List, arith}
use Rattle.zk_tree.specs.declared.expr.Expr.{Expr}
use Rattle.zk_tree.specs.declared.expr.Expr.TheVariants as expr
use Rattle.zk_tree.specs.declared.expr.Link.{Link}
use Rattle.zk_tree.specs.declared.expr.Part.{Part}
use Rattle.zk_tree.specs.declared.operator.Assigning.{Assigning}
use Rattle.zk_tree.specs.declared.operator.Comparing.{Comparing}
use Rattle.zk_tree.specs.declared.operator.Level.{Level}
use Rattle.zk_tree.specs.Opening.{trees}
use Rattle.zk_tree.specs.Places.{IsPlace}

pub assign_begins : (left : Expr) (operator : Assigning) (right : Expr) (place : ℕ) → IsPlace place left → IsPlace place (expr.Assign left operator right)
unfolding trees
assign_begins left operator right place is zero enough = omega (arith, enough)
assign_begins left operator right place is (suc depth) enough = is depth (omega (arith, enough))

pub choice_begins : (test one other : Expr) (place : ℕ) → IsPlace place test → IsPlace place (expr.Choice test one other)
unfolding trees
choice_begins test one other place is zero enough = omega (arith, enough)
choice_begins test one other place is (suc depth) enough = is depth (omega (arith, enough))

pub chain_begins : (level : Level) (first : Expr) (others : List Link) (place : ℕ) → IsPlace place first → IsPlace place (expr.Chain level first others)
unfolding trees
chain_begins level first others place is zero enough = omega (arith, enough)
chain_begins level first others place is (suc depth) enough = is depth (omega (arith, enough))

pub compare_begins : (left : Expr) (operator : Comparing) (right : Expr) (place : ℕ) → IsPlace place left → IsPlace place (expr.Compare left operator right)
unfolding trees
compare_begins left operator right place is zero enough = omega (arith, enough)
compare_begins left operator right place is (suc depth) enough = is depth (omega (arith, enough))

pub post_begins : (first : Expr) (parts : List Part) (place : ℕ) → IsPlace place first → IsPlace place (expr.Post first parts)
unfolding trees
post_begins first parts place is zero enough = omega (arith, enough)
post_begins first parts place is (suc depth) enough = is depth (omega (arith, enough))

pub ruleset begins = (assign_begins, choice_begins, chain_begins, compare_begins, post_begins)

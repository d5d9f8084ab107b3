use Rattle.std.proofs.Common.{length, List, refl, sym, ◌∙◌}
use Rattle.zk_tree.specs.declared.expr.Expr.{Expr}
use Rattle.zk_tree.specs.declared.expr.Expr.TheVariants as expr
use Rattle.zk_tree.specs.declared.expr.Part.{Part}
use Rattle.zk_tree.specs.Grammar.{post, post_expr, posted, a_part}
use Rattle.zk_parse_core.specs.Reading.{opens, read, repeated, within}
use Rattle.zk_parse_expressions.proofs.FollowLaws.{none_follows, some_follow, made_from, made_with}
use Rattle.zk_parse_expressions.proofs.expr.Exprs.post.Goals as goal

pub returns-then-not-goes_on : goal.returns-then-not-goes_on
unfolding post
returns-then-not-goes_on g c =
    let tokens = c.prim.new.tokens in
    rw (c.in_ok-first.ensures, none_follows (opens a_part) (read (within c.args.self.now.depth) a_part) tokens (length tokens) (sym c.goes_on.ensures ∙ c.if-not-goes_on.true)) refl

pub returns : goal.returns
unfolding post
returns g c =
    let tokens = c.prim.new.tokens in
    let first = c.in_ok-first.first in
    let make : List Part → Expr = posted first in
    let post : List Part → Expr = λ all. expr.Post first all in
    let parts = repeated (opens a_part) (read (within c.args.self.now.depth) a_part) (length tokens) tokens in
    rw (c.in_ok-first-2.ensures, c.in_ok-first.ensures) (
    made_with post_expr first parts
    ∙ some_follow make post (λ part more. refl) (opens a_part) (read (within c.args.self.now.depth) a_part) tokens (length tokens) (sym c.goes_on.ensures ∙ c.if-not-goes_on.false)
    ∙ made_from post parts c.in_ok-parts.parts c.repeat.new.tokens (rw c.new-2.ensures at c.in_ok-parts.ensures))

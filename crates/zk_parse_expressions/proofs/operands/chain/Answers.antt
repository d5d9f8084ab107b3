use Rattle.std.proofs.Common.{length, List, refl, sym, ◌∙◌}
use Rattle.zk_tree.specs.declared.expr.Expr.{Expr}
use Rattle.zk_tree.specs.declared.expr.Expr.TheVariants as expr
use Rattle.zk_tree.specs.declared.expr.Link.{Link}
use Rattle.zk_tree.specs.Grammar.{chained}
use Rattle.zk_parse_core.specs.Reading.{repeated}
use Rattle.zk_parse_expressions.proofs.FollowLaws.{none_follows, some_follow, made_from}
use Rattle.zk_parse_expressions.proofs.operands.chain.Goals as goal

pub returns-then-not-goes_on : goal.returns-then-not-goes_on
returns-then-not-goes_on g c =
    let links = c.args.links.now in
    let tokens = c.args.tokens.now in
    rw (none_follows (g.N.Turns.goes links) (g.N.Turns.at links) tokens (length tokens) (sym c.goes_on.ensures ∙ c.if-not-goes_on.true)) refl

pub returns : goal.returns
returns g c =
    let links = c.args.links.now in
    let tokens = c.args.tokens.now in
    let make : List Link → Expr = chained c.args.level c.args.first in
    let chain : List Link → Expr = λ all. expr.Chain c.args.level c.args.first all in
    rw c.in_ok-first.ensures (
    some_follow make chain (λ link more. refl) (g.N.Turns.goes links) (g.N.Turns.at links) tokens (length tokens) (sym c.goes_on.ensures ∙ c.if-not-goes_on.false)
    ∙ made_from chain (repeated (g.N.Turns.goes links) (g.N.Turns.at links) (length tokens) tokens) c.in_ok-others.others c.repeat.new.tokens (rw c.new-2.ensures at c.in_ok-others.ensures))

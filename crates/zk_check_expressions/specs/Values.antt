-- Expressions by whether they hand inward what is wanted.
use Rattle.std.specs.Prelude.{Option, Some, None}
use Rattle.zk_tree.specs.declared.expr.Expr.{Expr, out-Expr}
use Rattle.zk_tree.specs.declared.expr.Expr.TheOpen.{Expr-F}
use Rattle.zk_tree.specs.declared.expr.Expr.TheOpen as written
use Rattle.zk_tree.specs.declared.expr.Item.{Item}
use Rattle.zk_tree.specs.declared.expr.Link.{Link}
use Rattle.zk_tree.specs.declared.expr.Part.{Part}
use Rattle.zk_tree.specs.Value as plain
use Rattle.zk_typed.specs.Checked.{Checked, ◌>>=◌, ◌>>◌, broken_anyway}
use Rattle.zk_typed.specs.declared.rule.Rule.TheVariants as rule
use Rattle.zk_typed.specs.Expressions.{assigned_parts, wanted_first, compared, unary_typed, size_typed, choice}
use Rattle.zk_typed.specs.Making.{post_typed, called_name, hook_typed, brackets_typed, container_typed, members_in}
use Rattle.zk_typed.specs.Predefined as type
use Rattle.zk_typed.specs.Typing.{Typed, Env, at, expr_place, Wanted, Nothing, Check, fit, constant, interval_of, literal_typed, name_typed, chained, found}

abbrev pub constant_of : Expr-F Expr Item Part Link → Option Typed
constant_of (written.Number place number) = Some (constant type.count (plain.Count number))
constant_of (written.Interval place number unit plural) = Some (constant type.interval (interval_of number unit))
constant_of (written.Literal place literal) = Some (literal_typed literal)
constant_of (written.Truth place truth) = Some (constant type.bool (plain.Bool truth))
constant_of other = None

-- an expression whose value is what it is wherever it stands; any other is a part
abbrev pub value_typed : Check → Env → Expr → Expr-F Expr Item Part Link → Checked Typed
value_typed check env one (written.Chain level first links) = chained check env level (expr_place env first) (check (wanted_first level) first) links
value_typed check env one (written.Compare a operator b) = compared check env operator a b
value_typed check env one (written.Unary place operator operand) = unary_typed check env (at env place) operator operand
value_typed check env one (written.Post first parts) = post_typed check env (expr_place env first) first parts (called_name first parts)
value_typed check env one (written.Name name) = name_typed env name
value_typed check env one (written.Size place inner) = check Nothing inner >>= size_typed (expr_place env inner)
value_typed check env one (written.Hook place name items) = hook_typed check env (at env place) name items (found env name)
value_typed check env one other = check Nothing one

abbrev pub fitted : Check → Env → Wanted → Expr → Expr-F Expr Item Part Link → Checked Typed
fitted check env wanted one form = of_constant (constant_of form)
  where
    of_constant : Option Typed → Checked Typed
    of_constant (Some made) = fit (expr_place env one) wanted made
    of_constant None = value_typed check env one form >>= fit (expr_place env one) wanted

abbrev pub by_form : Check → Env → Wanted → Expr → Expr-F Expr Item Part Link → Checked Typed
by_form check env wanted one (written.Assign a operator b) = broken_anyway (assigned_parts check env operator a b) rule.WrongType (expr_place env one)
by_form check env wanted one (written.Choice test a b) = choice check env wanted test a b
by_form check env wanted one (written.Parenthesis place inner) = check wanted inner
by_form check env wanted one (written.List place items) = brackets_typed check env (at env place) items wanted
by_form check env wanted one (written.Make place container items) = container_typed check env (at env place) container (members_in check env items) wanted
by_form check env wanted one form = fitted check env wanted one form

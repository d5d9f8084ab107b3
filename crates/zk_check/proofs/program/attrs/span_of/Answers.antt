use Rattle.std.proofs.Common.{Some, sym, ap, ◌∙◌}
use Rattle.std.specs.Option.{option_map}
use Rattle.zk_check_expressions.proofs.KeyLaws.{simple_is}
use Rattle.zk_scope.specs.Lent.{home_of}
use Rattle.zk_typed.specs.declared.script.types.SimpleType.TheVariants.{Interval}
use Rattle.zk_check.specs.Globals.{span_in}
use Rattle.zk_check.specs.Programming.{value_of}
use Rattle.zk_check.proofs.program.attrs.span_of.Goals as goal

pub returns-in-Some : goal.returns-in-Some
returns-in-Some c = λ scripts.
    ap Some c.in_ok-span_in-in-Some.ensures
    ∙ ap (option_map span_in) (sym c.in-Some.is ∙ c.in_ok-given.ensures scripts ∙ ap (value_of scripts (home_of c.args.home) c.args.attrs.now c.args.name.now) (simple_is Interval))

pub returns : goal.returns
returns c = λ scripts.
    ap (option_map span_in) (sym c.in-None.is ∙ c.in_ok-given.ensures scripts ∙ ap (value_of scripts (home_of c.args.home) c.args.attrs.now c.args.name.now) (simple_is Interval))

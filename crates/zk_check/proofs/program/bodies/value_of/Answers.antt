use Rattle.std.proofs.Common.{Option, refl, sym, ap, ◌∙◌}
use Rattle.std.specs.Option.{option_and_then, option_copied}
use Rattle.zk_scope.specs.Lent.{home_of}
use Rattle.zk_tree.specs.declared.expr.Expr.{Expr}
use Rattle.zk_typed.specs.declared.script.literal.DefaultValue.{DefaultValue}
use Rattle.zk_typed.specs.Checked.{Checked}
use Rattle.zk_typed.specs.Declarations.{constant_typed, env_at}
use Rattle.zk_typed.specs.Programs.{if_checked}
use Rattle.zk_typed.specs.Resolving.{attr_value}
use Rattle.zk_typed.specs.View.{type_of}
use Rattle.zk_check.proofs.PartLaws.{given_checked}
use Rattle.zk_check.proofs.program.bodies.value_of.Goals as goal

pub returns-in-None : goal.returns-in-None
returns-in-None c = λ scripts.
    let rules : Expr → Option DefaultValue = λ one. if_checked (constant_typed (env_at scripts (home_of c.args.home)) (type_of c.args.wanted.now) one) in
    sym (ap (option_and_then rules) (sym c.attr_value.ensures ∙ ap option_copied c.in-None.is))

pub returns-in-Some : goal.returns-in-Some
returns-in-Some c = λ scripts.
    let rules : Expr → Checked DefaultValue = λ one. constant_typed (env_at scripts (home_of c.args.home)) (type_of c.args.wanted.now) one in
    given_checked c.constant_typed.result c.if_checked.result rules (attr_value c.args.name.now c.args.attrs.now) c.in-Some.one.now (sym c.attr_value.ensures ∙ ap option_copied c.in-Some.is)
    (c.constant_typed.ensures (env_at scripts (home_of c.args.home)) refl) c.if_checked.ensures

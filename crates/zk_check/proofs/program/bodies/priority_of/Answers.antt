use Rattle.std.proofs.Common.{◌≡◌, ℤ, IfOk, codes, sym, ap, subst, ◌∙◌}
use Rattle.zk_check_expressions.proofs.KeyLaws.{simple_is}
use Rattle.zk_scope.specs.Lent.{home_of}
use Rattle.zk_typed.specs.declared.script.types.SimpleType.TheVariants.{Int}
use Rattle.zk_check.specs.Programming.{priority_in, value_of}
use Rattle.zk_check.proofs.program.bodies.priority_of.Goals as goal

pub returns-in-Some : goal.returns-in-Some
returns-in-Some c = λ scripts.
    subst (λ (wanted : ℤ). IfOk c.number_of.result (λ number. number ≡ wanted))
    (ap priority_in (sym c.in-Some.is ∙ c.in_ok-given.ensures scripts ∙ ap (value_of scripts (home_of c.args.home) c.args.attrs.now (codes "priority")) (simple_is Int)))
    c.number_of.ensures

pub returns : goal.returns
returns c = λ scripts.
    ap priority_in (sym c.in-None.is ∙ c.in_ok-given.ensures scripts ∙ ap (value_of scripts (home_of c.args.home) c.args.attrs.now (codes "priority")) (simple_is Int))

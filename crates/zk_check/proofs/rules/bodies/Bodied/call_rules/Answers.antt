use Rattle.std.proofs.Common.{Bool, List, ◌++◌, ap, sym, subst, ◌∙◌}
use Rattle.std.specs.List.{list_all}
use Rattle.zk_tree.specs.declared.place.Place.{Place}
use Rattle.zk_typed.specs.declared.rule.Rule.TheVariants as rule
use Rattle.zk_typed.specs.Checked.{require}
use Rattle.zk_typed.specs.Errors.{PathUse, agrees}
use Rattle.zk_typed.specs.Resolving.{place_in}
use Rattle.zk_scope.specs.Lent.{home_of}
use Rattle.zk_check_declarations.specs.Paths.{HasPaths, uses_lent}
use Rattle.zk_check_declarations.proofs.RuleLaws.{same_rules}
use Rattle.zk_check.proofs.rules.bodies.Bodied.call_rules.Goals as goal

pub returns-clause-rules : goal.returns-clause-rules
returns-clause-rules c = λ before known.
    same_rules c.require.result
    (ap (λ (uses : List PathUse). require (list_all (agrees before) uses) rule.Twice (place_in (home_of c.args.call.now.home) c.args.call.now.name.now.place)) (sym (ap uses_lent c.deref.ensures.value ∙ c.in_ok-uses.ensures)) ∙
    ap (λ (agreed : Bool). require agreed rule.Twice (place_in (home_of c.args.call.now.home) c.args.call.now.name.now.place)) (sym (c.in_ok-agreed.ensures.agreed before known)) ∙
    ap (λ (place : Place). require c.in_ok-agreed.agreed rule.Twice place) (sym c.place_in.ensures))
    c.require.ensures

pub returns-clause-met : goal.returns-clause-met
returns-clause-met c = λ told before known.
    subst (λ (uses : List PathUse). HasPaths c.meet.new.self (before ++ uses)) (ap uses_lent c.deref.ensures.value ∙ c.in_ok-uses.ensures) (c.in_ok-agreed.ensures.met before known)

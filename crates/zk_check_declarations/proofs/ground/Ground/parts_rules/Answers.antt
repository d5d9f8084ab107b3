use Rattle.std.proofs.Common.{◌≡◌, ap, refl, sym, subst, ◌∙◌}
use Rattle.zk_tree.specs.declared.place.Place.{Place}
use Rattle.zk_tree.specs.Places.{type_place}
use Rattle.zk_typed.specs.Checked.{Checked, both}
use Rattle.zk_typed.specs.Declarations.{nested_to, nothing}
use Rattle.zk_typed.specs.Resolving.{place_in, type_of}
use Rattle.zk_scope.specs.Lent.{home_of}
use Rattle.zk_scope.specs.Scripted.{scripts_in}
use Rattle.zk_check_operators.proofs.BothLaws.{Rules}
use Rattle.zk_check_declarations.specs.Heights.{too_deep}
use Rattle.zk_check_declarations.specs.Nesting.{depth_rules}
use Rattle.zk_check_declarations.proofs.NestLaws.{deepest, parts_is}
use Rattle.zk_check_declarations.proofs.RuleLaws.{also_tells}
use Rattle.zk_check_declarations.proofs.ground.Ground.parts_rules.Goals as goal

pub returns : goal.returns
returns c =
    let scripts = scripts_in c.args.self.now.names.now in
    let home = home_of c.args.home in
    let tree = c.args.tree.now in
    let deep : Place → Checked (Unit {0}) = λ place. depth_rules (too_deep c.args.limit scripts) place (type_of scripts home tree) in
    let at : c.place_in.result ≡ place_in home (type_place tree) = c.place_in.ensures ∙ ap (place_in home) c.place.ensures in
    subst (λ (whole : Checked (Unit {0})). Rules c.also.result whole)
    (ap (λ place. nothing (both (deep place) (nested_to 18_446_744_073_709_551_615 scripts home tree))) at ∙
    ap (λ depth. nothing (both (deep (place_in home (type_place tree))) (nested_to depth scripts home tree))) (deepest 18_446_744_073_709_551_615 refl) ∙
    sym (parts_is (too_deep c.args.limit scripts) scripts home tree))
    (also_tells c.depth_rules-deep.result c.nested-inner.result c.also.result (deep c.place_in.result) (nested_to 18_446_744_073_709_551_615 scripts home tree)
    (c.depth_rules-deep.ensures (type_of scripts home tree) c.type_of-one.ensures) c.nested-inner.ensures c.also.ensures)

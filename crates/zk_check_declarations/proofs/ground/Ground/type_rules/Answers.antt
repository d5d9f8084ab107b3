use Rattle.std.proofs.Common.{sym, subst}
use Rattle.std.specs.Prelude.{Result}
use Rattle.zk_typed.specs.declared.refusal.Refusal.{Refusal}
use Rattle.zk_typed.specs.Checked.{Checked}
use Rattle.zk_typed.specs.Declarations.{is_too_deep, nothing, parts_rules}
use Rattle.zk_typed.specs.Resolving.{type_of}
use Rattle.zk_typed.specs.View as view
use Rattle.zk_scope.specs.Lent.{home_of}
use Rattle.zk_scope.specs.Scripted.{scripts_in}
use Rattle.zk_check_operators.proofs.BothLaws.{Rules}
use Rattle.zk_check_declarations.proofs.RuleLaws.{also_tells, dropped_first, dropped_tells}
use Rattle.zk_check_declarations.proofs.ground.Ground.type_rules.Goals as goal

pub returns : goal.returns
returns c =
    let scripts = scripts_in c.args.self.now.names.now in
    let home = home_of c.args.home in
    let tree = c.args.tree.now in
    subst (λ (whole : Checked (Unit {0})). Rules c.also.result whole) (dropped_first (type_of scripts home tree) (parts_rules (is_too_deep scripts) scripts home tree))
    (also_tells c.dropped.result c.parts_rules-parts.result c.also.result (nothing (type_of scripts home tree)) (parts_rules (is_too_deep scripts) scripts home tree)
    (subst (λ (given : Result (Unit {0}) Refusal). Rules given (nothing (type_of scripts home tree))) (sym c.dropped.ensures) (dropped_tells view.type_of c.type_of-one.result (type_of scripts home tree) c.type_of-one.ensures))
    c.parts_rules-parts.ensures c.also.ensures)

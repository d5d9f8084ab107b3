use Rattle.std.specs.Option.{option_map}
use Rattle.std.proofs.Common.{Option, Some, ap, sym, ◌∙◌}
use Rattle.zk_typed.specs.Within.{maybe_one}
use Rattle.zk_scope.specs.declared.declared.Declared.{Declared}
use Rattle.zk_scope.specs.declared.home.Home.{Home}
use Rattle.zk_scope.specs.Lent.{declared_of, home_of}
use Rattle.zk_scope.specs.Scripted.{scripts_in}
use Rattle.zk_check.specs.Earlier.{first_rules}
use Rattle.zk_check_declarations.specs.Valued.{variable_rules}
use Rattle.zk_check_declarations.proofs.RuleLaws.{same_rules}
use Rattle.zk_check.proofs.rules.bodies.Bodied.variable_decl.Goals as goal

pub returns-in-Some : goal.returns-in-Some
returns-in-Some c =
    let scripts = scripts_in c.args.self.now.valued.ground.names.now in
    let one = c.args.declaration.now in
    same_rules c.variable_rules.result
    (ap (first_rules scripts (home_of c.args.one.home) one.place one.tree.now one.init.now one.attrs.now)
    (sym c.in_ok-declared.ensures ∙ ap (λ (found : Option Declared). maybe_one (option_map declared_of found)) c.in-Some.is) ∙
    ap (λ (home : Home). variable_rules scripts (home_of home) one.place one.tree.now one.init.now one.attrs.now (declared_of c.in-Some.declared)) (sym c.requires.home))
    c.variable_rules.ensures

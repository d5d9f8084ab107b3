use Rattle.std.proofs.Common.{Bool, [], refl, subst}
use Rattle.zk_typed.specs.Declarations.{allowed_in, attr_checked, attr_rules, env_at, with_value}
use Rattle.zk_typed.specs.View.{type_of}
use Rattle.zk_scope.specs.Lent.{home_of}
use Rattle.zk_scope.specs.Scripted.{scripts_in}
use Rattle.zk_check_operators.proofs.BothLaws.{Rules}
use Rattle.zk_check_declarations.proofs.ground.Ground.global_attrs.Goals as goal

pub returns : goal.returns
returns c =
    let scripts = scripts_in c.args.self.now.names.now in
    let home = home_of c.args.home in
    let type = type_of c.args.value_type.now in
    subst (λ (made : Bool). Rules c.attr_rules.result (attr_rules home (allowed_in c.args.lasting made type) with_value (attr_checked (env_at scripts home) type) [] c.args.attrs.now))
    (c.in_ok-made.ensures scripts c.requires.values) (c.attr_rules.ensures home refl)

use Rattle.std.proofs.Common.{[], ◌∷◌, ap, subst, ◌∙◌}
use Rattle.zk_tree.specs.declared.types.Param.{out-Param}
use Rattle.zk_typed.specs.Declarations.{is_one_of, param_rules}
use Rattle.zk_scope.specs.Lent.{home_of}
use Rattle.zk_scope.specs.Scripted.{scripts_in}
use Rattle.zk_check_declarations.specs.Nesting.{one_param}
use Rattle.zk_check_declarations.specs.Seeing.{Sees}
use Rattle.zk_check_declarations.proofs.NestLaws.{params_more}
use Rattle.zk_check_declarations.proofs.RuleLaws.{walk_turn}
use Rattle.zk_check_declarations.proofs.ground.Ground.param_rules.Goals as goal

pub loop-param-preserved : goal.loop-param-preserved
loop-param-preserved c =
    let scripts = scripts_in c.args.self.now.names.now in
    let home = home_of c.args.home in
    walk_turn Sees (param_rules scripts home) (one_param scripts home) (λ param. (out-Param param).name.text)
    c.loop-param.seen c.add.new.self c.loop-param.rules c.param_rule-one.result c.also-rules.result c.args.params.now c.loop-param.param-index c.param-item.result c.in_ok-twice.twice (param_rules scripts home [] c.args.params.now)
    (params_more scripts home) c.loop-param-test.true c.param-item.is c.loop-param.invariant
    (λ before met. c.in_ok-twice.ensures.was before met ∙ ap (is_one_of before) c.as_slice.ensures)
    (λ before met. subst (λ name. Sees c.add.new.self (name ∷ before)) c.as_slice.ensures (c.in_ok-twice.ensures.met before met))
    c.param_rule-one.ensures c.also-rules.ensures

use Rattle.std.proofs.Common.{map}
use Rattle.zk_typed.specs.Expressions as rules
use Rattle.zk_typed.specs.View.{type_of}
use Rattle.zk_check_expressions.specs.Envs.{env_of}
use Rattle.zk_check_expressions.proofs.Matching.{matched_turn, matched_end}
use Rattle.zk_check_expressions.proofs.judge.Judge.matched.Goals as goal

pub loop-item-preserved : goal.loop-item-preserved
loop-item-preserved g c =
    matched_turn (rules.expr_to c.args.self.now.depth (env_of c.args.self.now.env.now)) (env_of c.args.self.now.env.now)
    c.loop-item.others.now c.in-Some.rest.now c.in-Some.param.now c.args.items.now c.loop-item.item-index c.item-item.result
    c.loop-item.all c.argument.result c.with_part-all.result _
    c.in-Some.ensures.cases.0 c.loop-item-test.true c.item-item.is c.loop-item.invariant c.argument.ensures c.with_part-all.ensures

pub returns : goal.returns
returns g c =
    matched_end (rules.expr_to c.args.self.now.depth (env_of c.args.self.now.env.now)) (env_of c.args.self.now.env.now)
    (map type_of c.loop-item.others.now) c.args.items.now c.loop-item.item-index c.loop-item.all _ c.loop-item-test.false c.loop-item.invariant

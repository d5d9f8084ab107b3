use Rattle.zk_check_expressions.specs.Members.{member_of, all_members}
use Rattle.zk_typed.specs.Expressions as rules
use Rattle.zk_check_expressions.specs.Envs.{env_of}
use Rattle.zk_check_expressions.proofs.Eaches.{member_turn}
use Rattle.zk_check_expressions.proofs.judge.Judge.member_values.Goals as goal

pub loop-value-preserved : goal.loop-value-preserved
loop-value-preserved g c =
    member_turn (member_of (rules.expr_to c.args.self.now.depth (env_of c.args.self.now.env.now)) (env_of c.args.self.now.env.now) c.args.kind)
    c.args.values.now c.loop-value.value-index c.value-item.result c.loop-value.all c.member.result c.with_part-all.result
    c.loop-value-test.true c.value-item.is c.loop-value.invariant c.member.ensures c.with_part-all.ensures

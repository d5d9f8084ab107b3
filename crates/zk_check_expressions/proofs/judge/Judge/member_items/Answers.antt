use Rattle.zk_typed.specs.Typing as spec
use Rattle.zk_check_expressions.specs.Members.{member_of, all_members}
use Rattle.zk_typed.specs.Expressions as rules
use Rattle.zk_check_expressions.specs.Envs.{env_of}
use Rattle.zk_check_expressions.proofs.Eaches.{member_turn}
use Rattle.zk_check_expressions.proofs.judge.Judge.member_items.Goals as goal

pub loop-item-preserved : goal.loop-item-preserved
loop-item-preserved g c =
    member_turn (spec.on_item (rules.expr_to c.args.self.now.depth (env_of c.args.self.now.env.now)) (env_of c.args.self.now.env.now) (member_of (rules.expr_to c.args.self.now.depth (env_of c.args.self.now.env.now)) (env_of c.args.self.now.env.now) c.args.kind))
    c.args.items.now c.loop-item.item-index c.item-item.result c.loop-item.all c.member_item.result c.with_part-all.result
    c.loop-item-test.true c.item-item.is c.loop-item.invariant c.member_item.ensures c.with_part-all.ensures

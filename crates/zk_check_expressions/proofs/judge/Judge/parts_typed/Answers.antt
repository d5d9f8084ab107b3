use Rattle.zk_typed.specs.Expressions as rules
use Rattle.zk_typed.specs.Making as making
use Rattle.zk_check_expressions.specs.Envs.{env_of}
use Rattle.zk_check_expressions.proofs.Matching.{parts_turn}
use Rattle.zk_check_expressions.proofs.judge.Judge.parts_typed.Goals as goal

pub loop-part-preserved : goal.loop-part-preserved
loop-part-preserved g c given told = (
  making.part_typed (rules.expr_to c.args.self.now.depth (env_of c.args.self.now.env.now)) (env_of c.args.self.now.env.now) c.args.place (c.loop-part.invariant given told).0 c.part-item.result,
  c.part_typed-before.ensures (c.loop-part.invariant given told).0 (c.loop-part.invariant given told).1,
  parts_turn (rules.expr_to c.args.self.now.depth (env_of c.args.self.now.env.now)) (env_of c.args.self.now.env.now) c.args.place (c.loop-part.invariant given told).0
      c.args.parts.now c.loop-part.part-index c.part-item.result _ c.loop-part-test.true c.part-item.is (c.loop-part.invariant given told).2,
)

use Rattle.std.proofs.Common.{◌≡◌, drop}
use Rattle.zk_check_operators.specs.Views.{typed_of}
use Rattle.zk_typed.specs.Checked.{Checked}
use Rattle.zk_typed.specs.Expressions as rules
use Rattle.zk_typed.specs.Tells.{Tells}
use Rattle.zk_typed.specs.Typing as spec
use Rattle.zk_typed.specs.Typing.{Typed}
use Rattle.zk_check_expressions.specs.Envs.{env_of}
use Rattle.zk_check_expressions.proofs.judge.Judge.chained.Given as goal

abbrev pub invariant-loop-link : goal.invariant-loop-link
invariant-loop-link g l = (given : Checked Typed) → Tells typed_of l.fn.first given →
    (now : Checked Typed) × Tells typed_of l.before now ×
    (spec.chained (rules.expr_to l.self.depth (env_of l.self.env.now)) (env_of l.self.env.now) l.level l.place now (drop l.link-index l.links)
    ≡ spec.chained (rules.expr_to l.self.depth (env_of l.self.env.now)) (env_of l.self.env.now) l.level l.place given l.links)

use Rattle.std.proofs.Common.{◌≡◌, drop}
use Rattle.zk_check_operators.specs.Views.{typed_of}
use Rattle.zk_typed.specs.Checked.{Checked}
use Rattle.zk_typed.specs.Expressions as rules
use Rattle.zk_typed.specs.Making as making
use Rattle.zk_typed.specs.Tells.{Tells}
use Rattle.zk_typed.specs.Typing.{Typed}
use Rattle.zk_check_expressions.specs.Envs.{env_of}
use Rattle.zk_check_expressions.proofs.judge.Judge.parts_typed.Given as goal

abbrev pub invariant-loop-part : goal.invariant-loop-part
invariant-loop-part g l = (given : Checked Typed) → Tells typed_of l.fn.first given →
    (now : Checked Typed) × Tells typed_of l.before now ×
    (making.parts_typed (rules.expr_to l.self.depth (env_of l.self.env.now)) (env_of l.self.env.now) l.place now (drop l.part-index l.parts)
    ≡ making.parts_typed (rules.expr_to l.self.depth (env_of l.self.env.now)) (env_of l.self.env.now) l.place given l.parts)

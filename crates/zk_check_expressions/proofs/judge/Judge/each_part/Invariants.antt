use Rattle.std.proofs.Common.{take}
use Rattle.zk_check_operators.specs.Views.{all_typed}
use Rattle.zk_typed.specs.Checked.{each}
use Rattle.zk_typed.specs.Expressions as rules
use Rattle.zk_typed.specs.Tells.{Tells}
use Rattle.zk_typed.specs.Typing as spec
use Rattle.zk_check_expressions.specs.Envs.{env_of}
use Rattle.zk_check_expressions.proofs.judge.Judge.each_part.Given as goal

abbrev pub invariant-loop-one : goal.invariant-loop-one
invariant-loop-one g l =
    Tells all_typed l.all (each (rules.expr_to l.self.depth (env_of l.self.env.now) spec.Nothing) (take l.one-index l.ones))

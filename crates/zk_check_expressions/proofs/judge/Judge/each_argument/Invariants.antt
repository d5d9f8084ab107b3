use Rattle.std.proofs.Common.{take}
use Rattle.zk_check_operators.specs.Views.{all_typed, wanted_in}
use Rattle.zk_typed.specs.Checked.{each}
use Rattle.zk_typed.specs.Expressions as rules
use Rattle.zk_typed.specs.Making as making
use Rattle.zk_typed.specs.Tells.{Tells}
use Rattle.zk_check_expressions.specs.Envs.{env_of}
use Rattle.zk_check_expressions.proofs.judge.Judge.each_argument.Given as goal

abbrev pub invariant-loop-item : goal.invariant-loop-item
invariant-loop-item g l =
    Tells all_typed l.all (each (making.argument (rules.expr_to l.self.depth (env_of l.self.env.now)) (env_of l.self.env.now) (wanted_in l.wanted)) (take l.item-index l.items))

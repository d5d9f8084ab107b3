use Rattle.std.proofs.Common.{◌≡◌, List, drop, map}
use Rattle.zk_check_operators.specs.Views.{all_typed}
use Rattle.zk_typed.specs.Checked.{Checked}
use Rattle.zk_typed.specs.Expressions as rules
use Rattle.zk_typed.specs.Making as making
use Rattle.zk_typed.specs.Tells.{Tells}
use Rattle.zk_typed.specs.Typing.{Typed}
use Rattle.zk_typed.specs.View.{type_of}
use Rattle.zk_check_expressions.specs.Envs.{env_of}
use Rattle.zk_check_expressions.proofs.Eaches.{with_rest}
use Rattle.zk_check_expressions.proofs.judge.Judge.matched.Given as goal

abbrev pub invariant-loop-item : goal.invariant-loop-item
invariant-loop-item g l =
    (now : Checked (List Typed)) × Tells all_typed l.all now ×
    (with_rest now (making.matched (rules.expr_to l.self.depth (env_of l.self.env.now)) (env_of l.self.env.now) (map type_of l.others) (drop l.item-index l.items))
    ≡ making.matched (rules.expr_to l.self.depth (env_of l.self.env.now)) (env_of l.self.env.now) (map type_of l.params) l.items)

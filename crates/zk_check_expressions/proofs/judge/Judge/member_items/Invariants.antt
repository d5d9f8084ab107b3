use Rattle.std.proofs.Common.{take}
use Rattle.zk_typed.specs.Typing as spec
use Rattle.zk_check_expressions.specs.Members.{member_of, all_members}
use Rattle.zk_typed.specs.Checked.{each}
use Rattle.zk_typed.specs.Expressions as rules
use Rattle.zk_typed.specs.Tells.{Tells}
use Rattle.zk_check_expressions.specs.Envs.{env_of}
use Rattle.zk_check_expressions.proofs.judge.Judge.member_items.Given as goal

abbrev pub invariant-loop-item : goal.invariant-loop-item
invariant-loop-item g l =
    Tells all_members l.all (each (spec.on_item (rules.expr_to l.self.depth (env_of l.self.env.now)) (env_of l.self.env.now) (member_of (rules.expr_to l.self.depth (env_of l.self.env.now)) (env_of l.self.env.now) l.kind)) (take l.item-index l.items))

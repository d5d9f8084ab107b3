use Rattle.std.proofs.Common.{take}
use Rattle.zk_check_expressions.specs.Members.{member_of, all_members}
use Rattle.zk_typed.specs.Checked.{each}
use Rattle.zk_typed.specs.Expressions as rules
use Rattle.zk_typed.specs.Tells.{Tells}
use Rattle.zk_check_expressions.specs.Envs.{env_of}
use Rattle.zk_check_expressions.proofs.judge.Judge.member_values.Given as goal

abbrev pub invariant-loop-value : goal.invariant-loop-value
invariant-loop-value g l =
    Tells all_members l.all (each (member_of (rules.expr_to l.self.depth (env_of l.self.env.now)) (env_of l.self.env.now) l.kind) (take l.value-index l.values))

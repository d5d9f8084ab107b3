use Rattle.std.proofs.Common.{List, subst}
use Rattle.zk_tree.specs.declared.expr.Expr.{Expr}
use Rattle.zk_check_operators.specs.Views.{typed_of}
use Rattle.zk_typed.specs.Checked.{Checked}
use Rattle.zk_typed.specs.Expressions as rules
use Rattle.zk_typed.specs.Tells.{Tells}
use Rattle.zk_typed.specs.Typing.{Typed}
use Rattle.zk_check_expressions.specs.Envs.{env_of}
use Rattle.zk_check_expressions.specs.Members.{all_members, members_of}
use Rattle.zk_check_expressions.proofs.Refusals.{hushed}
use Rattle.zk_check_expressions.proofs.judge.Judge.unclear_members.Goals as goal

pub returns : goal.returns
returns g c =
    hushed all_members typed_of c.members-judged.result c.unclear.result _ c.unclear.ensures
    (subst (λ (x : Expr → Checked (List Typed)). Tells all_members c.members-judged.result (members_of (rules.expr_to c.args.self.now.depth (env_of c.args.self.now.env.now)) (env_of c.args.self.now.env.now) c.args.members x))
    (c.loosely.ensures (rules.expr_to c.args.self.now.depth (env_of c.args.self.now.env.now)) (env_of c.args.self.now.env.now)) c.members-judged.ensures)

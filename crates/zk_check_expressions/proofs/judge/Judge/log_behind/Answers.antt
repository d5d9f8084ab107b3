use Rattle.std.proofs.Common.{refl}
use Rattle.zk_scope.specs.Lent.{log_function_of}
use Rattle.zk_check_operators.specs.Views.{typed_of}
use Rattle.zk_typed.specs.Expressions as rules
use Rattle.zk_typed.specs.LogCalls as logs
use Rattle.zk_check_expressions.specs.Envs.{env_of}
use Rattle.zk_check_expressions.specs.LogSettings.{log_word_of}
use Rattle.zk_check_expressions.proofs.Refusals.{behind_broken}
use Rattle.zk_check_expressions.proofs.judge.Judge.log_behind.Goals as goal

pub returns-in-Err : goal.returns-in-Err
returns-in-Err g c told h =
    behind_broken log_word_of (λ (done : Unit {0}). done) typed_of c.in-Err.refusal c.all_wordless.result c.along.result
    (logs.log_behind (rules.expr_to c.args.self.now.depth (env_of c.args.self.now.env.now)) (env_of c.args.self.now.env.now) c.args.place (log_function_of c.args.function) c.args.others.now)
    (logs.all_wordless (rules.expr_to c.args.self.now.depth (env_of c.args.self.now.env.now)) (env_of c.args.self.now.env.now) (log_function_of c.args.function) c.args.others.now) told (λ rules. refl)
    (rw c.in-Err.is at h) c.all_wordless.ensures c.along.ensures

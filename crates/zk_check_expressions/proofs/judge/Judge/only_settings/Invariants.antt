use Rattle.std.proofs.Common.{◌≡◌, [], drop}
use Rattle.zk_typed.specs.Checked.{both}
use Rattle.zk_typed.specs.Declarations.{nothing}
use Rattle.zk_typed.specs.Expressions as rules
use Rattle.zk_typed.specs.LogCalls.{only_settings}
use Rattle.zk_check_operators.specs.Gather.{told, Told}
use Rattle.zk_check_expressions.specs.Envs.{env_of}
use Rattle.zk_check_expressions.specs.LogSettings.{all_texts, texts_lent}
use Rattle.zk_check_expressions.proofs.judge.Judge.only_settings.Given as goal

abbrev pub invariant-loop-item : goal.invariant-loop-item
invariant-loop-item g l = Told l.told →
    nothing (both (told l.told) (only_settings (rules.expr_to l.self.depth (env_of l.self.env.now)) (env_of l.self.env.now) (texts_lent l.allowed) (all_texts l.given) (drop l.item-index l.items)))
    ≡ only_settings (rules.expr_to l.self.depth (env_of l.self.env.now)) (env_of l.self.env.now) (texts_lent l.allowed) [] l.items

use Rattle.std.proofs.Common.{[], ◌+◌, Ok, drop, ap, sym, ◌∙◌, subst}
use Rattle.zk_tree.specs.declared.expr.Item.{out-Item}
use Rattle.zk_typed.specs.Checked.{both, ◌>>◌}
use Rattle.zk_typed.specs.Declarations.{nothing}
use Rattle.zk_typed.specs.Expressions as rules
use Rattle.zk_typed.specs.LogCalls.{only_settings, setting_name, setting_rules}
use Rattle.zk_typed.specs.Tells.{Tells}
use Rattle.zk_check_operators.specs.Gather.{told}
use Rattle.zk_check_operators.proofs.BothLaws.{one_more}
use Rattle.zk_check_expressions.specs.Envs.{env_of}
use Rattle.zk_check_expressions.specs.LogSettings.{all_texts, texts_lent}
use Rattle.zk_check_expressions.proofs.LogLaws.{alike_only}
use Rattle.zk_check_expressions.proofs.Matching.{front_of}
use Rattle.zk_check_expressions.proofs.judge.Judge.only_settings.Goals as goal

pub loop-item-preserved : goal.loop-item-preserved
loop-item-preserved g c known =
    let env = env_of c.args.self.now.env.now in
    let check = rules.expr_to c.args.self.now.depth env in
    let allowed = texts_lent c.args.allowed.now in
    let item = out-Item c.item-item.result in
    let rest = drop (c.loop-item.item-index + 1) c.args.items.now in
    let front = front_of c.args.items.now c.loop-item.item-index c.item-item.result c.loop-item-test.true c.item-item.is in
    one_more c.loop-item.told c.setting_rules.result c.also-told.result
    (setting_rules check env allowed (all_texts c.loop-item.given) item)
    (only_settings check env allowed (all_texts c.in_ok-given.given) rest)
    (only_settings check env allowed [] c.args.items.now)
    (λ known_before.
    ap (λ more. nothing (both (told c.loop-item.told) (both (setting_rules check env allowed (all_texts c.loop-item.given) item) more >> Ok tt)))
    (alike_only check env allowed (all_texts c.in_ok-given.given) (setting_name item (all_texts c.loop-item.given)) rest c.in_ok-given.ensures)
    ∙ ap (λ left. nothing (both (told c.loop-item.told) (only_settings check env allowed (all_texts c.loop-item.given) left))) (sym front)
    ∙ c.loop-item.invariant known_before)
    (subst (λ given. Tells (λ (done : Unit {0}). done) c.setting_rules.result (setting_rules check env allowed (texts_lent given) item)) c.deref.ensures.value c.setting_rules.ensures)
    c.also-told.ensures known

use Rattle.std.proofs.Common.{ap, sym, ◌∙◌, subst}
use Rattle.std.specs.Option.{option_map}
use Rattle.zk_typed.specs.declared.rule.Rule.TheVariants as rule
use Rattle.zk_typed.specs.Expressions as rules
use Rattle.zk_check_expressions.specs.Envs.{env_of}
use Rattle.zk_check_expressions.specs.LogSettings.{log_word_of}
use Rattle.zk_check_expressions.specs.Refusing.{Refuses}
use Rattle.zk_check_expressions.proofs.LogLaws.{no_word, the_word}
use Rattle.zk_check_expressions.proofs.judge.Judge.log_word.Goals as goal

pub returns-in-Some : goal.returns-in-Some
returns-in-Some g c =
    the_word (rules.expr_to c.args.self.now.depth (env_of c.args.self.now.env.now)) (env_of c.args.self.now.env.now) c.args.one.now c.in-Some.word
    (sym (ap (option_map log_word_of) c.in-Some.is) ∙ c.in_ok-word.ensures)

pub returns-in-None : goal.returns-in-None
returns-in-None g c =
    no_word (rules.expr_to c.args.self.now.depth (env_of c.args.self.now.env.now)) (env_of c.args.self.now.env.now) c.args.one.now c.check-judged.result c.wrong.result
    (sym (ap (option_map log_word_of) c.in-None.is) ∙ c.in_ok-word.ensures)
    (subst (λ place. Refuses rule.WrongType place c.check-judged.result c.wrong.result) c.expr_place.ensures c.wrong.ensures) c.check-judged.ensures

use Rattle.std.proofs.Common.{◌∙◌}
use Rattle.zk_scope.proofs.typing.end_text.Goals as goal

pub returns-in-Some : goal.returns-in-Some
returns-in-Some c = λ text is. c.text_at.ensures ∙ c.in-Some.ensures text is

pub returns-in-None : goal.returns-in-None
returns-in-None c = λ text is. c.in-None.ensures text is

use Rattle.std.proofs.Common.{arith}
use Rattle.std.proofs.lemmas.Grind.{common_steps}
use Rattle.zk_check_operators.proofs.Keys.{verbs_left}
use Rattle.zk_check_operators.proofs.texts.verbs_take.Goals as goal

pub returns-in-None : goal.returns-in-None
returns-in-None c = grind (arith, common_steps, verbs_left)

use Rattle.std.proofs.Common.{arith}
use Rattle.std.proofs.lemmas.Grind.{common_steps}
use Rattle.zk_check_operators.proofs.Keys.{keys_left}
use Rattle.zk_check_operators.proofs.same.same_keys.Goals as goal

pub returns-in-None : goal.returns-in-None
returns-in-None c = grind (arith, common_steps, keys_left)

use Rattle.std.proofs.Common.{arith}
use Rattle.std.proofs.lemmas.Bool.Decides.{nat_tests}
use Rattle.zk_machine.proofs.globals.is_seen.Goals as goal

pub returns-in-Some : goal.returns-in-Some
returns-in-Some c = λ is. (c.in-Some.first, grind (arith, nat_tests, is), c.in-Some.ensures)

use Rattle.zk_check.proofs.CheckLaws.{has_program, same_program}
use Rattle.zk_check.proofs.scripts.one_program.Goals as goal

pub returns-clause-some : goal.returns-clause-some
returns-clause-some c = λ files. (has_program files, λ given. given.1.right)

pub returns-clause-only : goal.returns-clause-only
returns-clause-only c = same_program

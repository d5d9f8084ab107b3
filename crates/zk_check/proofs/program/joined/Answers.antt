use Rattle.zk_check.proofs.ProgramLaws.{program_parts}
use Rattle.zk_check.proofs.program.joined.Goals as goal

pub returns : goal.returns
returns c = λ files scripts is_data is_code. program_parts c.args.first c.args.code files scripts is_data is_code

use Rattle.zk_token.proofs.FaultLaws.{none_begins, one_fault}
use Rattle.zk_token.proofs.TokenLaws.{exact, placed}
use Rattle.zk_token.proofs.splitting.script_tokens.Goals as goal

pub returns : goal.returns
returns c = record { exact = exact; none_begins = none_begins; one_fault = one_fault; placed = placed }

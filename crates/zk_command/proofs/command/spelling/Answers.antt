use Rattle.zk_command.proofs.SpellingLaws as laws
use Rattle.zk_command.proofs.command.spelling.Goals as goal

pub returns : goal.returns
returns c = record { spelled = laws.spelling }

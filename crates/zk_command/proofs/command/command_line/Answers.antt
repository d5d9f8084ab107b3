use Rattle.zk_command.proofs.CommandLaws.{begun, first}
use Rattle.zk_command.proofs.command.command_line.Goals as goal

pub returns : goal.returns
returns c = record { begun = begun; first = first }

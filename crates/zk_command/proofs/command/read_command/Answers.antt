use Rattle.std.proofs.Common.{rules, ◌≡◌, Ok}
use Rattle.zk_command.specs.Command.{command_seen, understand}
use Rattle.zk_command.proofs.CommandLaws.{understood}
use Rattle.zk_command.proofs.command.read_command.Goals as goal

pub returns-in-Some-clause-limits : goal.returns-in-Some-clause-limits
returns-in-Some-clause-limits c =
    let command = command_seen c.in-Some.command in
    understood c.args.words.now command (let is : understand c.args.words.now ≡ Ok command = search rules in is)

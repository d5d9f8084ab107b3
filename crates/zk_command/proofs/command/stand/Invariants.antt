use Rattle.std.proofs.Common.{◌≡◌, drop}
use Rattle.zk_command.specs.declared.command.Standing.TheVariants.{Nothing}
use Rattle.zk_command.specs.Command.{stand_from}
use Rattle.zk_command.proofs.command.stand.Given as goal

-- the words so far begin a command
abbrev pub invariant-loop-number : goal.invariant-loop-number
invariant-loop-number l = stand_from l.standing l.number (drop l.number l.words) ≡ stand_from Nothing 0 l.words

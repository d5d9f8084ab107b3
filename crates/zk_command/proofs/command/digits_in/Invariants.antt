use Rattle.std.proofs.Common.{◌≡◌, ◌≤◌, drop}
use Rattle.zk_command.specs.Command.{number_from}
use Rattle.zk_command.proofs.command.digits_in.Given as goal

-- the digits so far spell a number within the limit
abbrev pub invariant-loop-byte : goal.invariant-loop-byte
invariant-loop-byte l = record {
  within : l.number ≤ l.most;
  rest : number_from l.most l.number (drop l.byte-index l.word) ≡ number_from l.most 0 l.word;
}

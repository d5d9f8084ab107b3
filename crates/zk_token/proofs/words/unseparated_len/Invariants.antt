use Rattle.std.proofs.Common.{◌≡◌, ◌+◌, drop}
use Rattle.zk_token.specs.Words.{unseparated_len}
use Rattle.zk_token.proofs.words.unseparated_len.Given as goal

abbrev pub invariant-loop-index : goal.invariant-loop-index
invariant-loop-index l = unseparated_len l.text ≡ l.index + unseparated_len (drop l.index l.text)

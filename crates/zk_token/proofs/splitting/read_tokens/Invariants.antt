use Rattle.std.proofs.Common.{◌-◌, ◌≤◌, length}
use Rattle.zk_token.specs.Items.{StandBetween}
use Rattle.zk_token.specs.Tokens.{next_token}
use Rattle.zk_token.proofs.splitting.read_tokens.Given as goal

abbrev pub invariant-loop-tokens : goal.invariant-loop-tokens
invariant-loop-tokens l = record {
  within : l.place ≤ length l.text;
  few : length l.tokens.items ≤ l.place;
  stand : StandBetween (next_token l.text) 0 l.tokens.items l.place;
}

abbrev pub decreases-loop-tokens : goal.decreases-loop-tokens
decreases-loop-tokens l = length l.text - l.place

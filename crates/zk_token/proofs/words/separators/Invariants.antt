use Rattle.std.proofs.Common.{◌≡◌, ◌+◌, drop}
use Rattle.zk_token.specs.Words.{separators, separators_after}
use Rattle.zk_token.proofs.words.separators.Given as goal

abbrev pub invariant-loop-index : goal.invariant-loop-index
invariant-loop-index l = separators l.text ≡ l.index + separators_after l.comment (drop l.index l.text)

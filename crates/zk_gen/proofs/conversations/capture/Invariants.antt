-- With the conversations that are to come, what was made is the capture.
use Rattle.std.proofs.Common.{◌≡◌, ◌-◌, ◌++◌}
use Rattle.zk_gen.specs.Capture.{capture_of, conversations}
use Rattle.zk_gen.proofs.conversations.capture.Given as goal

abbrev pub invariant-loop-k : goal.invariant-loop-k
invariant-loop-k l = l.out ++ conversations l.start l.k (l.count - l.k) ≡ capture_of l.start l.count

-- What is added behind the bytes that are to come is what the whole message adds.
use Rattle.std.proofs.Common.{◌≡◌, ◌<◌, ◌++◌, length}
use Rattle.zk_gen.specs.Conversations.{records, one_by_one}
use Rattle.zk_gen.proofs.conversations.send_one_by_one.Given as goal

abbrev pub invariant-bytes : goal.invariant-bytes
invariant-bytes l =
    (l.place < length l.message)
    × (l.out ++ records l.talk (one_by_one l.side l.early l.message l.place) ≡ l.initial.out ++ records l.talk (one_by_one l.side l.early l.message l.initial.place))

abbrev pub decreases-bytes : goal.decreases-bytes
decreases-bytes l = l.place

use Rattle.zk_pcap.proofs.StandingLemmas.{first_len_is, first_long}
use Rattle.zk_pcap.proofs.feed.Feed.first_len.Goals as goal

pub record_len-requires : goal.record_len-requires
record_len-requires c = rw c.as_slice.ensures (first_long c.args.self.now c.requires)

pub record_len-requires-else-self : goal.record_len-requires-else-self
record_len-requires-else-self c = rw c.as_slice-else-self.ensures (first_long c.args.self.now c.requires)

pub returns-then-self : goal.returns-then-self
returns-then-self c = first_len_is c.args.self.now c.record_len.result c.requires (rw (c.if-self.true, ← c.as_slice.ensures) c.record_len.ensures)

pub returns-else-self : goal.returns-else-self
returns-else-self c = first_len_is c.args.self.now c.record_len-else-self.result c.requires (rw (c.if-self.false, ← c.as_slice-else-self.ensures) c.record_len-else-self.ensures)

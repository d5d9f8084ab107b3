use Rattle.zk_pcap.proofs.StandingLemmas.{is_next, packet_there}
use Rattle.zk_pcap.proofs.feed.Feed.next.Goals as goal

pub returns-then-self-clause-next : goal.returns-then-self-clause-next
returns-then-self-clause-next c header file packets stands = is_next c.args.self.now header file packets c.next_in.result stands (rw c.if-self.true c.next_in.ensures.first)

pub returns-then-self-clause-packet : goal.returns-then-self-clause-packet
returns-then-self-clause-packet c = packet_there c.args.self.now c.next_in.result (rw c.if-self.true c.next_in.ensures.first)

pub returns-else-self-clause-next : goal.returns-else-self-clause-next
returns-else-self-clause-next c header file packets stands = is_next c.args.self.now header file packets c.next_in-else-self.result stands (rw c.if-self.false c.next_in-else-self.ensures.first)

pub returns-else-self-clause-packet : goal.returns-else-self-clause-packet
returns-else-self-clause-packet c = packet_there c.args.self.now c.next_in-else-self.result (rw c.if-self.false c.next_in-else-self.ensures.first)

use Rattle.zk_pcap.proofs.FrontLemmas.{header_stays, fronts_begin}
use Rattle.zk_pcap.proofs.FeedLemmas.{record_stays, too_long_stays, feeds_read}
use Rattle.zk_pcap.proofs.feed.feeds_read_captures.Goals as goal

pub returns-clause-stay : goal.returns-clause-stay
returns-clause-stay c = record { packet = record_stays; bad = too_long_stays }

pub returns-clause-captures : goal.returns-clause-captures
returns-clause-captures c = feeds_read

pub returns-clause-headers : goal.returns-clause-headers
returns-clause-headers c = header_stays

pub returns-clause-fronts : goal.returns-clause-fronts
returns-clause-fronts c = fronts_begin

use Rattle.std.proofs.Common.{◌≤◌, ◌-◌, List, length}
use Rattle.zk_pcap.specs.Capture.{StandBetween}
use Rattle.zk_pcap.specs.Record.{record_by}
use Rattle.zk_pcap.specs.declared.records.Packet.{Packet}
use Rattle.zk_pcap.proofs.feed.records_end.Given as goal

abbrev pub invariant-loop-record : goal.invariant-loop-record
invariant-loop-record g l =
    (l.place ≤ length l.bytes) × ((packets : List Packet) × StandBetween (record_by g.T.ByteOrder.number_of l.nano l.bytes) 0 packets l.place)

abbrev pub decreases-loop-record : goal.decreases-loop-record
decreases-loop-record g l = length l.bytes - l.place

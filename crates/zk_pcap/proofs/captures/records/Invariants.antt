use Rattle.std.proofs.Common.{◌-◌, ◌≤◌, length}
use Rattle.zk_pcap.specs.Record.{record_by}
use Rattle.zk_pcap.specs.Capture.{StandBetween}
use Rattle.zk_pcap.proofs.captures.records.Given as goal

abbrev pub invariant-loop-record : goal.invariant-loop-record
invariant-loop-record g l =
    (l.place ≤ length l.file) × StandBetween (record_by g.T.ByteOrder.number_of l.nano l.file) 24 l.packets.items l.place

abbrev pub decreases-loop-record : goal.decreases-loop-record
decreases-loop-record g l = length l.file - l.place

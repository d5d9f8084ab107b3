-- A datagram and a segment as the code has them.
use Rattle.zk_base.specs.declared.time.Moment.{Moment}
use Rattle.zk_traffic.specs.declared.datagram.Datagram.{Datagram as DatagramCode}
use Rattle.zk_traffic.specs.declared.segment.Segment.{Segment as Code}
use Rattle.zk_traffic.specs.Datagram.{Datagram}
use Rattle.zk_traffic.specs.Segments.{Segment}

-- the datagram that it is
abbrev pub datagram_from : DatagramCode → Datagram
datagram_from d = record {
  source = d.src;
  destination = d.dst;
  protocol = d.protocol;
  payload = d.payload.now;
  full_len = d.full_len;
  ip_len = d.ip_len;
  judged = d.judged;
}

-- the segment that it is at a network time
abbrev pub segment_of : Moment → Code → Segment
segment_of moment s = record { moment = moment; view = s.view; ack = s.ack; payload = s.payload.now }

-- The TCP segments and UDP datagrams of a capture (RFC 9293, section 3.1; RFC 768).
use Rattle.std.specs.Prelude.{ℕ, ◌-◌, ◌==◌, if◌then◌else◌, List, Option, Some, None, is_none, option_and_then}
use Rattle.std.specs.List.{filter_map}
use Rattle.zk_base.specs.declared.network.Proto.TheVariants.{Tcp, Udp}
use Rattle.zk_base.specs.declared.time.Moment.{Moment}
use Rattle.zk_base.specs.Captured.{Captured}
use Rattle.zk_l4.specs.Tcp as tcp
use Rattle.zk_l4.specs.Udp as udp
use Rattle.zk_conn.specs.declared.view.L4View.{L4View}
use Rattle.zk_traffic.specs.declared.options.Options.{Options}
use Rattle.zk_traffic.specs.Datagram.{Datagram, datagram_at, time_at}
use Rattle.zk_traffic.specs.Steps.{Step, steps}

pub record Segment : Type 0 where
  -- network time at its record
  pub moment : Moment
  pub view : L4View
  -- the acknowledgment number of TCP
  pub ack : ℕ
  -- what was captured of the payload
  pub payload : List ℕ

abbrev pub tcp_segment : Moment → Datagram → Segment
tcp_segment moment datagram = record {
  moment = moment;
  view = record {
    src = datagram.source;
    dst = datagram.destination;
    sport = tcp.source_port datagram.payload;
    dport = tcp.destination_port datagram.payload;
    proto = Tcp;
    flags = tcp.control_bits datagram.payload;
    seq = tcp.sequence_number datagram.payload;
    payload_len = datagram.full_len - tcp.header_length datagram.payload;
    ip_len = datagram.ip_len;
  };
  ack = tcp.acknowledgment_number datagram.payload;
  payload = tcp.payload datagram.payload;
}

abbrev pub udp_segment : Moment → Datagram → Segment
udp_segment moment datagram = record {
  moment = moment;
  view = record {
    src = datagram.source;
    dst = datagram.destination;
    sport = udp.source_port datagram.payload;
    dport = udp.destination_port datagram.payload;
    proto = Udp;
    flags = 0;
    seq = 0;
    payload_len = udp.length_field datagram.payload - 8;
    ip_len = datagram.ip_len;
  };
  ack = 0;
  payload = udp.payload datagram.payload;
}

-- each is well-formed, and its checksum right where that is judged
abbrev pub tcp_judged : Moment → Datagram → Option Segment
tcp_judged moment datagram =
    if is_none (tcp.tcp_fault datagram.source datagram.destination datagram.payload datagram.full_len datagram.judged)
    then Some (tcp_segment moment datagram)
    else None

abbrev pub udp_judged : Moment → Datagram → Option Segment
udp_judged moment datagram =
    if is_none (udp.udp_fault datagram.source datagram.destination datagram.payload datagram.full_len datagram.judged)
    then Some (udp_segment moment datagram)
    else None

-- the segment in a datagram
abbrev pub segment_in : Moment → Datagram → Option Segment
segment_in moment datagram =
    if datagram.protocol == tcp.protocol then tcp_judged moment datagram
    else if datagram.protocol == udp.protocol then udp_judged moment datagram
    else None

-- the segment that stands at a record
unfoldable pub segment_at : Options → Step Captured → Option Segment
segment_at options step = option_and_then (segment_in (time_at step)) (datagram_at options step)

-- the segments of some records
unfoldable pub segments : Options → List Captured → List Segment
segments options records = filter_map (segment_at options) (steps records)

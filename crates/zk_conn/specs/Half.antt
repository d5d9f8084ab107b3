-- What is kept of one side of a connection, and how a packet of the side changes it.
use Rattle.std.specs.Prelude.{◌+◌, Bool, not, List, nat_lt, length, sum_by, Option, Some, None, unwrap_or, if◌then◌else◌}
use Rattle.zk_base.specs.declared.network.Side.{Side}
use Rattle.zk_conn.specs.declared.facts.EndFacts.{EndFacts}
use Rattle.zk_conn.specs.declared.half.Half.{Half}
use Rattle.zk_conn.specs.declared.half.StreamEnd.{StreamEnd}
use Rattle.zk_conn.specs.declared.half.StreamEnd.TheVariants.{Open}
use Rattle.zk_conn.specs.declared.half.SynSent.{SynSent}
use Rattle.zk_conn.specs.declared.key.Endpoint.{Endpoint}
use Rattle.zk_conn.specs.declared.view.L4View.{L4View}
use Rattle.zk_conn.specs.Instance.{counted, sent_by, syn_in, syn_of, closed_by, end_of, front_of}
use Rattle.zk_conn.specs.Segment.{has_syn}
use Rattle.zk_conn.specs.State.{SideFacts, is_no, is_open}
use Rattle.zk_conn.specs.Told.{Told}

-- what is kept of a side, by what was told of the connection
abbrev pub half_of : Endpoint → Side → List Told → Half
half_of originator side events = record {
  syn = syn_of originator side events;
  end = end_of originator side events;
  packets = counted (length (sent_by originator side events));
  ip_bytes = counted (sum_by (λ p. p.ip_len) (sent_by originator side events));
  payload_bytes = counted (sum_by (λ p. p.payload_len) (sent_by originator side events));
  front = front_of side events;
}

abbrev pub syn_after : SynSent → L4View → SynSent
syn_after syn p = if is_no syn then syn_in (if has_syn p then Some p else None) else syn

-- an end that is closed stays as it is
abbrev pub end_after : StreamEnd → Option StreamEnd → StreamEnd
end_after end closing = if is_open end then unwrap_or closing Open else end

-- a side that has sent one more packet
abbrev pub sent : Half → L4View → Half
sent half p = record {
  syn = syn_after half.syn p;
  end = end_after half.end (closed_by (not (is_no half.syn)) p);
  packets = counted (half.packets + 1);
  ip_bytes = counted (half.ip_bytes + p.ip_len);
  payload_bytes = counted (half.payload_bytes + p.payload_len);
  front = half.front;
}

-- what the table of states looks at
abbrev pub seen : Half → SideFacts
seen half = record { syn = half.syn; spoke = nat_lt 0 half.packets; end = half.end }

-- what is told to the scripts
abbrev pub end_facts_of : Bool → Half → EndFacts
end_facts_of tcp half = record {
  size =
      if tcp then (if is_no half.syn then None else Some half.front)
      else (if nat_lt 0 half.packets then Some half.payload_bytes else None);
  pkts = half.packets;
  ip_bytes = half.ip_bytes;
}

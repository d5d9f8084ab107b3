-- The datagrams of a capture: as they were sent, or put together from fragments (RFC 791, sections 3.1 and 3.2).
use Rattle.std.specs.Prelude.{ℕ, ◌+◌, Bool, true, false, not, ◌||◌, ◌==◌, if◌then◌else◌, List, length, Option, Some, None, is_none, option_and_then}
use Rattle.std.specs.List.{filter_map}
use Rattle.zk_base.specs.declared.network.Addr.{Addr}
use Rattle.zk_base.specs.declared.time.Moment.{Moment}
use Rattle.zk_base.specs.Captured.{Captured}
use Rattle.zk_base.specs.NetworkTime.{now}
use Rattle.zk_link_ip.specs.Frame.{ip_part_of}
use Rattle.zk_link_ip.specs.Ip4 as ip4
use Rattle.zk_frag.specs.declared.joined.Joined.{Joined}
use Rattle.zk_frag.specs.declared.joined.Joined.TheVariants.{Held, Ignored, Whole}
use Rattle.zk_frag.specs.Ip4Fragments.{Ip4Fragment, datagram_of, fragment_of, joined_of}
use Rattle.zk_traffic.specs.declared.options.Options.{Options}
use Rattle.zk_traffic.specs.Steps.{Step, so_far, steps}

pub record Datagram : Type 0 where
  pub source : Addr
  pub destination : Addr
  pub protocol : ℕ
  -- what was captured of the payload
  pub payload : List ℕ
  -- the length of the payload that was sent
  pub full_len : ℕ
  -- the length of the datagram, header and all
  pub ip_len : ℕ
  -- whether the checksum of the segment in it is judged
  pub judged : Bool

-- network time at a record
abbrev pub time_at : Step Captured → Moment
time_at step = now (so_far step)

-- the IPv4 packet in a frame, with what follows it there: its header is well-formed, and its checksum right where that is judged
abbrev pub packet_in : Options → ℕ → List ℕ → Option (List ℕ)
packet_in options link frame =
    option_and_then (λ part. if is_none (ip4.ip4_fault part options.check) then Some part else None) (ip_part_of link frame)

-- the IPv4 packet at a record, in a frame of the record's link type
abbrev pub packet_at : Options → Step Captured → Option (List ℕ)
packet_at options step = packet_in options step.last.link step.last.bytes

-- more fragments follow, or it stands behind others
abbrev pub is_fragment : List ℕ → Bool
is_fragment packet = ip4.more packet || not (ip4.offset packet == 0)

abbrev pub fragment_in : Moment → List ℕ → Option Ip4Fragment
fragment_in moment packet = if is_fragment packet then Some (fragment_of moment packet) else None

abbrev pub fragment_at : Options → Step Captured → Option Ip4Fragment
fragment_at options step = option_and_then (fragment_in (time_at step)) (packet_at options step)

-- the fragments among some records
unfoldable pub fragments : Options → List Captured → List Ip4Fragment
fragments options records = filter_map (fragment_at options) (steps records)

abbrev pub is_whole : Joined → Bool
is_whole Held = false
is_whole Ignored = false
is_whole Whole = true

-- a datagram with a packet's header: of its payload this was captured, and so long it is; its length counts that header
abbrev pub carrying : Options → List ℕ → List ℕ → ℕ → Datagram
carrying options packet payload full_len = record {
  source = ip4.source packet;
  destination = ip4.destination packet;
  protocol = ip4.protocol packet;
  payload = payload;
  full_len = full_len;
  ip_len = ip4.header_len packet + full_len;
  judged = options.check;
}

-- a datagram that is one packet
abbrev pub unfragmented : Options → List ℕ → Datagram
unfragmented options packet = carrying options packet (ip4.payload packet) (ip4.full_len packet)

-- a datagram of this payload, which a fragment has made whole
abbrev pub put_together : Options → List ℕ → List ℕ → Datagram
put_together options packet payload = carrying options packet payload (length payload)

-- the datagram that a packet is, or that it makes whole behind other fragments
abbrev pub datagram_with : Options → List Ip4Fragment → Moment → List ℕ → Option Datagram
datagram_with options before moment packet =
    if not (is_fragment packet) then Some (unfragmented options packet)
    else if is_whole (joined_of before (fragment_of moment packet)) then Some (put_together options packet (datagram_of before (fragment_of moment packet)))
    else None

-- the datagram that stands at a record
unfoldable pub datagram_at : Options → Step Captured → Option Datagram
datagram_at options step =
    option_and_then (datagram_with options (fragments options step.before) (time_at step)) (packet_at options step)

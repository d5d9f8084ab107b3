-- What is known of a connection, by what was told of it: its packets, and the fronts and reached FINs of its two streams.
use Rattle.std.specs.Prelude.{ℕ, ◌^◌, ◌-◌, Bool, true, false, not, ◌&&◌, ◌||◌, nat_lt, List, [], ◌∷◌, ◌++◌, length, filter, find, fold, sum_by, min, Option, None, Some, unwrap_or, if◌then◌else◌, pos, ◌+ℤ◌}
use Rattle.std.specs.List.{list_any, flat_map}
use Rattle.std.specs.Option.{option_or, option_map}
use Rattle.zk_base.specs.declared.network.Side.{Side}
use Rattle.zk_base.specs.declared.network.Side.TheVariants.{Orig, Resp}
use Rattle.zk_base.specs.declared.time.Moment.{Moment}
use Rattle.zk_conn.specs.declared.facts.EndFacts.{EndFacts}
use Rattle.zk_conn.specs.declared.facts.Facts.{Facts}
use Rattle.zk_conn.specs.declared.half.StreamEnd.{StreamEnd}
use Rattle.zk_conn.specs.declared.half.StreamEnd.TheVariants.{Open, Fin, Rst}
use Rattle.zk_conn.specs.declared.half.SynSent.{SynSent}
use Rattle.zk_conn.specs.declared.half.SynSent.TheVariants.{No, Syn, SynAck}
use Rattle.zk_conn.specs.declared.key.Endpoint.{Endpoint}
use Rattle.zk_conn.specs.declared.view.L4View.{L4View}
use Rattle.zk_conn.specs.History.{letters_of, firsts}
use Rattle.zk_conn.specs.Segment.{sender, receiver, same_endpoint, is_tcp, has_syn, has_ack, has_fin, has_rst}
use Rattle.zk_conn.specs.State.{SideFacts, are_established, is_open, is_rst, state_of}
use Rattle.zk_conn.specs.Told.{Told, Packet, Front, Reached, Removal, Ending, packets}

-- the originator is the first sender, or its peer where the first packet has SYN and ACK
abbrev pub originator : L4View → Endpoint
originator first = if has_syn first && has_ack first then receiver first else sender first

abbrev pub responder : L4View → Endpoint
responder first = if has_syn first && has_ack first then sender first else receiver first

-- the side that sends a packet; where both ends are equal it is the originator
abbrev pub side_of : Endpoint → L4View → Side
side_of originator p = if same_endpoint (sender p) originator then Orig else Resp

abbrev pub same_side : Side → Side → Bool
same_side Orig Orig = true
same_side Resp Resp = true
same_side Orig Resp = false
same_side Resp Orig = false

-- a count that would pass the end of its type stands still there
abbrev pub counted : ℕ → ℕ
counted n = min n (2 ^ 64 - 1)

-- the packets of a side
abbrev pub sent_by : Endpoint → Side → List Told → List L4View
sent_by originator side events = filter (λ p. same_side (side_of originator p) side) (packets events)

abbrev pub syn_in : Option L4View → SynSent
syn_in None = No
syn_in (Some p) = if has_ack p then SynAck else Syn

-- what a side's first SYN was
abbrev pub syn_of : Endpoint → Side → List Told → SynSent
syn_of originator side events = syn_in (find has_syn (sent_by originator side events))

-- whether a side sent a SYN
abbrev pub has_sent_syn : Endpoint → Side → List Told → Bool
has_sent_syn originator side events = list_any has_syn (sent_by originator side events)

-- how a packet of a side closes its end: an RST does, and a FIN beside none, where the side has no SYN so far
abbrev pub closed_by : Bool → L4View → Option StreamEnd
closed_by has_sent_syn p =
    if has_rst p then Some Rst
    else if has_fin p && not (has_sent_syn || has_syn p) then Some Fin
    else None

-- how an event closes a side's end, behind the events before it
abbrev pub closing_of : Endpoint → Side → List Told → Told → Option StreamEnd
closing_of originator side before (Packet moment p) =
    if same_side (side_of originator p) side then closed_by (has_sent_syn originator side before) p else None
closing_of originator side before (Reached key of) = if same_side of side then Some Fin else None
closing_of originator side before (Front key of front) = None
closing_of originator side before (Removal key at) = None
closing_of originator side before (Ending key last) = None

-- how the first event that closes a side's end does so
abbrev pub first_closing : Endpoint → Side → List Told → List Told → Option StreamEnd
first_closing originator side before [] = None
first_closing originator side before (event ∷ rest) =
    option_or (closing_of originator side before event) (first_closing originator side (before ++ event ∷ []) rest)

-- a side's end, which never opens again
abbrev pub end_of : Endpoint → Side → List Told → StreamEnd
end_of originator side events = unwrap_or (first_closing originator side [] events) Open

abbrev pub front_after : Side → ℕ → Told → ℕ
front_after side front (Front key of new) = if same_side of side then new else front
front_after side front (Packet moment p) = front
front_after side front (Reached key of) = front
front_after side front (Removal key at) = front
front_after side front (Ending key last) = front

-- the front that was told last of a side's stream
abbrev pub front_of : Side → List Told → ℕ
front_of side events = fold (front_after side) 0 events

-- the bytes of a TCP side with a SYN up to its front, and the full payload of a UDP side that spoke
abbrev pub size_of : Bool → Endpoint → Side → List Told → Option ℕ
size_of tcp originator side events =
    if tcp then (if has_sent_syn originator side events then Some (front_of side events) else None)
    else (if nat_lt 0 (length (sent_by originator side events)) then Some (counted (sum_by (λ p. p.payload_len) (sent_by originator side events))) else None)

abbrev pub end_facts : Bool → Endpoint → Side → List Told → EndFacts
end_facts tcp originator side events = record {
  size = size_of tcp originator side events;
  pkts = counted (length (sent_by originator side events));
  ip_bytes = counted (sum_by (λ p. p.ip_len) (sent_by originator side events));
}

-- what the table of states looks at
abbrev pub side_facts : Endpoint → Side → List Told → SideFacts
side_facts originator side events = record {
  syn = syn_of originator side events;
  spoke = nat_lt 0 (length (sent_by originator side events));
  end = end_of originator side events;
}

abbrev pub is_established : Endpoint → List Told → Bool
is_established originator events = are_established (side_facts originator Orig events) (side_facts originator Resp events)

-- an RST has closed an end
abbrev pub is_reset : Endpoint → List Told → Bool
is_reset originator events = is_rst (end_of originator Orig events) || is_rst (end_of originator Resp events)

abbrev pub letters_from : Endpoint → Told → List ℕ
letters_from originator (Packet moment p) = letters_of (side_of originator p) p
letters_from originator (Front key side front) = []
letters_from originator (Reached key side) = []
letters_from originator (Removal key at) = []
letters_from originator (Ending key last) = []

abbrev pub history_of : Endpoint → List Told → List ℕ
history_of originator events = firsts (flat_map (letters_from originator) events)

abbrev pub moment_after : Moment → Told → Moment
moment_after last (Packet moment p) = moment
moment_after last (Front key side front) = last
moment_after last (Reached key side) = last
moment_after last (Removal key at) = last
moment_after last (Ending key end) = last

-- the packet that began a connection, and its moment
pub record Opening : Type 0 where
  pub moment : Moment
  pub packet : L4View

abbrev pub opening_by : Told → Option Opening
opening_by (Packet moment p) = Some (record { moment = moment; packet = p })
opening_by (Front key side front) = None
opening_by (Reached key side) = None
opening_by (Removal key at) = None
opening_by (Ending key last) = None

-- how a connection began: nothing where what was told of it does not begin with a packet
abbrev pub opening : List Told → Option Opening
opening [] = None
opening (first ∷ rest) = opening_by first

-- the moment of the last packet
abbrev pub last_moment : Opening → List Told → Moment
last_moment first events = fold moment_after first.moment events

-- how many microseconds a connection waits for its next packet: 5 s where an end was reset or both are closed, else 300 s
-- for TCP and 60 s for UDP
abbrev pub wait : Bool → StreamEnd → StreamEnd → ℕ
wait tcp o r =
    if is_rst o || is_rst r || (not (is_open o) && not (is_open r)) then 5000000
    else if tcp then 300000000
    else 60000000

abbrev pub moment_plus : Moment → ℕ → Moment
moment_plus moment microseconds = record { 0 = moment.0 +ℤ pos microseconds }

abbrev pub removal_from : Opening → List Told → Moment
removal_from first events =
    moment_plus (last_moment first events)
    (wait (is_tcp first.packet.proto) (end_of (originator first.packet) Orig events) (end_of (originator first.packet) Resp events))

-- when a connection is removed if no packet comes before
abbrev pub removal_moment : List Told → Option Moment
removal_moment events = option_map (λ first. removal_from first events) (opening events)

abbrev pub facts_from : Opening → List Told → Facts
facts_from first events = record {
  orig_h = (originator first.packet).addr;
  orig_p = (originator first.packet).port;
  resp_h = (responder first.packet).addr;
  resp_p = (responder first.packet).port;
  proto = first.packet.proto;
  start = first.moment;
  last = last_moment first events;
  orig = end_facts (is_tcp first.packet.proto) (originator first.packet) Orig events;
  resp = end_facts (is_tcp first.packet.proto) (originator first.packet) Resp events;
  state = state_of (is_tcp first.packet.proto) (side_facts (originator first.packet) Orig events) (side_facts (originator first.packet) Resp events);
  history = history_of (originator first.packet) events;
}

-- the facts of a connection
abbrev pub facts_of : List Told → Option Facts
facts_of events = option_map (λ first. facts_from first events) (opening events)

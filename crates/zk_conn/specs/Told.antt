-- What connections are told, in its order.
use Rattle.std.specs.Prelude.{ℕ, List, filter, filter_map, Option, None, Some}
use Rattle.zk_base.specs.declared.network.Side.{Side}
use Rattle.zk_base.specs.declared.time.Moment.{Moment}
use Rattle.zk_conn.specs.declared.key.Key.{Key}
use Rattle.zk_conn.specs.declared.view.L4View.{L4View}
use Rattle.zk_conn.specs.Segment.{key_of, same_key}

pub data Told : Type 0 where
  -- a packet came
  Packet : (moment : Moment) (packet : L4View) → Told
  -- a side's stream has this front
  Front : (key : Key) (side : Side) (front : ℕ) → Told
  -- a side's stream has reached its FIN
  Reached : (key : Key) (side : Side) → Told
  -- the connection was removed at its removal moment
  Removal : (key : Key) (at : Moment) → Told
  -- the connection was removed at the end of the capture
  Ending : (key : Key) (last : Moment) → Told

-- the key of the connection that it is told of
abbrev pub key_told : Told → Key
key_told (Packet moment packet) = key_of packet
key_told (Front key side front) = key
key_told (Reached key side) = key
key_told (Removal key at) = key
key_told (Ending key last) = key

-- what is told of one key, in its order
abbrev pub told_of : Key → List Told → List Told
told_of key told = filter (λ event. same_key (key_told event) key) told

abbrev pub packet_of : Told → Option L4View
packet_of (Packet moment packet) = Some packet
packet_of (Front key side front) = None
packet_of (Reached key side) = None
packet_of (Removal key at) = None
packet_of (Ending key last) = None

-- the packets among it
abbrev pub packets : List Told → List L4View
packets events = filter_map packet_of events

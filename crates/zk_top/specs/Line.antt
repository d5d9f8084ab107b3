-- The line of an item, as `list` says it: its moment and its fields, joined by tabs.
use Rattle.std.specs.Prelude.{ℕ, List, [], ◌∷◌, ◌++◌, codes, decimal, true}
use Rattle.std.specs.List.{flat_map}
use Rattle.zk_base.specs.declared.network.Side.{Side}
use Rattle.zk_base.specs.declared.network.Side.TheVariants as side
use Rattle.zk_base.specs.declared.numbers.ConnNo.{ConnNo}
use Rattle.zk_conn.specs.declared.facts.Facts.{Facts}
use Rattle.zk_events.specs.Facts.{state_name}
use Rattle.zk_events.specs.Http.{reason_number}
use Rattle.zk_http.specs.declared.units.UnitKind.{UnitKind}
use Rattle.zk_http.specs.declared.units.UnitKind.TheVariants as unit
use Rattle.zk_io.specs.Said.{line_end}
use Rattle.zk_base.specs.Captured.{Captured}
use Rattle.zk_text.specs.Address.{addr_text}
use Rattle.zk_text.specs.Port.{proto_name}
use Rattle.zk_text.specs.Span.{span_decimal}
use Rattle.zk_traffic.specs.declared.item.Item.{Item}
use Rattle.zk_traffic.specs.declared.item.What.{What}
use Rattle.zk_traffic.specs.declared.item.What.TheVariants as what
use Rattle.zk_traffic.specs.declared.options.Options.{Options}
use Rattle.zk_traffic.specs.Items.{items_of}

-- a field, behind a tab
abbrev pub field : List ℕ → List ℕ
field text = 9 ∷ text

abbrev pub side_name : Side → List ℕ
side_name side.Orig = codes "orig"
side_name side.Resp = codes "resp"

-- what happens to a connection, and its number
abbrev pub conn_fields : List ℕ → ConnNo → List ℕ
conn_fields name conn = field name ++ field (decimal conn.0)

-- the protocol and both ends, a port as its number alone
abbrev pub ends_fields : Facts → List ℕ
ends_fields facts =
    field (proto_name facts.proto) ++ field (addr_text facts.orig_h) ++ field (decimal facts.orig_p)
    ++ field (addr_text facts.resp_h) ++ field (decimal facts.resp_p)

-- what a unit of HTTP is and the place where it stands; behind it the length of a body, or the reason of a violation
abbrev pub unit_fields : ℕ → UnitKind → List ℕ
unit_fields place (unit.Head head) = field (codes "head") ++ field (decimal place)
unit_fields place (unit.Done body header gap) = field (codes "done") ++ field (decimal place) ++ field (decimal body)
unit_fields place unit.Tunnel = field (codes "tunnel") ++ field (decimal place)
unit_fields place (unit.Violation why) = field (codes "violation") ++ field (decimal place) ++ field (decimal (reason_number why))

-- a message of DNS, or bytes that are none: the identifier or the number of the fault, and the number of bytes
abbrev pub message_fields : List ℕ → ConnNo → Side → ℕ → ℕ → List ℕ
message_fields name conn side number len = conn_fields name conn ++ field (side_name side) ++ field (decimal number) ++ field (decimal len)

-- what an item is, and its fields
abbrev pub fields_of : What → List ℕ
fields_of (what.Seen own caplen len) = field (codes "packet") ++ field (span_decimal own.0) ++ field (decimal caplen) ++ field (decimal len)
fields_of (what.Opened conn facts) = conn_fields (codes "opened") conn ++ ends_fields facts
fields_of (what.Established conn facts) = conn_fields (codes "established") conn
fields_of (what.Gap conn facts side from length) = conn_fields (codes "gap") conn ++ field (side_name side) ++ field (decimal from) ++ field (decimal length)
fields_of (what.Http conn facts side unit) = conn_fields (codes "http") conn ++ field (side_name side) ++ unit_fields unit.place unit.what
fields_of (what.Dns conn facts side len message) = message_fields (codes "dns") conn side message.id len
fields_of (what.DnsBad conn facts side fault len) = message_fields (codes "dnsbad") conn side fault len
fields_of (what.Ended conn facts side) = conn_fields (codes "ended") conn ++ field (side_name side)
fields_of (what.GaveUp conn facts side) = conn_fields (codes "gaveup") conn ++ field (side_name side)
fields_of (what.Reset conn facts) = conn_fields (codes "reset") conn
fields_of (what.Removed conn facts) = conn_fields (codes "removed") conn ++ field (state_name facts.state)

abbrev pub line_of : Item → List ℕ
line_of item = span_decimal item.moment.0 ++ fields_of item.what ++ line_end

abbrev pub lines_of : List Item → List ℕ
lines_of items = flat_map line_of items

-- checksums are judged, each packet is an item, and a stream may hold a mebibyte above its front
abbrev pub list_options : Options
list_options = record { check = true; buffer = 1_048_576; packets = true }

-- the lines of a capture
abbrev pub capture_lines : List Captured → List ℕ
capture_lines packets = lines_of (items_of list_options packets true)

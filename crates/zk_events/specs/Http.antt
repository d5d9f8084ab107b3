-- The events that parts of HTTP messages raise (Zeek manual, HTTP events).
use Rattle.std.specs.Prelude.{ℕ, ◌==◌, if◌then◌else◌, List, [], ◌∷◌, codes, map, fold}
use Rattle.std.specs.Char.{to_ascii_uppercase}
use Rattle.percent_encoding.specs.Percent.{percent_decode}
use Rattle.zk_base.specs.declared.network.Side.{Side}
use Rattle.zk_base.specs.declared.numbers.ObjectNo.{ObjectNo}
use Rattle.zk_http.specs.declared.units.Head.{Head}
use Rattle.zk_http.specs.declared.units.Reason.{Reason}
use Rattle.zk_http.specs.declared.units.Reason.TheVariants as reason
use Rattle.zk_http.specs.declared.units.Start.{Start}
use Rattle.zk_http.specs.declared.units.Start.TheVariants as start
use Rattle.zk_http.specs.declared.units.UnitKind.{UnitKind}
use Rattle.zk_http.specs.declared.units.UnitKind.TheVariants as unit
use Rattle.zk_tree.specs.Value as plain
use Rattle.zk_tree.specs.Value.{Value}
use Rattle.zk_typed.specs.Program.{Program}
use Rattle.zk_typed.specs.State.{World}
use Rattle.zk_machine.specs.Made.{Fresh}
use Rattle.zk_events.specs.Numbers.{http_request, http_reply, http_header, http_message_done, http_message_stat, http_tunnel, http_violation}
use Rattle.zk_events.specs.Raising.{raised, made, object, is_orig}

-- the version of a message, by its minor number
abbrev pub version : ℕ → List ℕ
version minor = if minor == 0 then codes "1.0" else codes "1.1"

-- the number of the reason of a violation
abbrev pub reason_number : Reason → ℕ
reason_number reason.HeadTooLong = 1
reason_number reason.HeadBad = 2
reason_number reason.TooManyHeaders = 3
reason_number reason.LengthBad = 4
reason_number reason.CodingBad = 5
reason_number reason.ChunkBad = 6
reason_number reason.Unpaired = 7
reason_number reason.Gap = 8

-- A start line. The unescaped URI has each `%HH` replaced by its byte (RFC 3986, 2.1).
abbrev pub start_raises : ObjectNo → Start → World → World
start_raises c (start.Request method target minor) = raised http_request (
    object c ∷ plain.String method ∷ plain.String target ∷ plain.String (percent_decode target) ∷ plain.String (version minor) ∷ []
    )
start_raises c (start.Response minor code phrase) =
    raised http_reply (object c ∷ plain.String (version minor) ∷ plain.Count code ∷ plain.String phrase ∷ [])

-- a header field, with its name as it stands and in capitals
abbrev pub header_raises : ObjectNo → Side → World → List ℕ × List ℕ → World
header_raises c side world header = raised http_header (
    object c ∷ is_orig side ∷ plain.String header.0 ∷ plain.String (map to_ascii_uppercase header.0) ∷ plain.String header.1 ∷ []
    ) world

-- the start line, and then each header field in order
abbrev pub head_raises : ObjectNo → Side → Head → World → World
head_raises c side head world = fold (header_raises c side) (start_raises c head.start world) head.headers

-- the lengths of a message that has ended
abbrev pub done_raises : ObjectNo → Side → Fresh → World
done_raises c side stat = raised http_message_done (object c ∷ is_orig side ∷ object stat.number ∷ []) stat.world

abbrev pub unit_raises : Program → ObjectNo → Side → UnitKind → World → World
unit_raises program c side (unit.Head head) world = head_raises c side head world
unit_raises program c side (unit.Done body head gap) world =
    done_raises c side (made program http_message_stat (plain.Count body ∷ plain.Count head ∷ plain.Count gap ∷ []) world)
unit_raises program c side unit.Tunnel world = raised http_tunnel (object c ∷ []) world
unit_raises program c side (unit.Violation why) world =
    raised http_violation (object c ∷ is_orig side ∷ plain.Count (reason_number why) ∷ []) world

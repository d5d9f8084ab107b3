-- The types, enum words and events that every program has (Zeek manual, Predefined types and events). They stand before all
-- that scripts declare, so their numbers are the first. `&wire` is this project's own: it marks counts of packets.
use Rattle.std.specs.Prelude.{ℕ, Bool, true, false, List, [], ◌∷◌, codes, None, bytes_eq}
use Rattle.zk_base.specs.declared.numbers.EventNo.{EventNo}
use Rattle.zk_base.specs.declared.numbers.RecordNo.{RecordNo}
use Rattle.zk_typed.specs.declared.script.types.SimpleType.TheVariants as simple
use Rattle.zk_typed.specs.Program.{Field, RecordType, Event}
use Rattle.zk_typed.specs.Types.{ValueType, Simple, Record, Vector}

-- Types ------------------------------------------------------------------------------------------------------------

abbrev pub bool : ValueType
bool = Simple simple.Bool

abbrev pub count : ValueType
count = Simple simple.Count

abbrev pub int : ValueType
int = Simple simple.Int

abbrev pub string : ValueType
string = Simple simple.String

abbrev pub time : ValueType
time = Simple simple.Time

abbrev pub interval : ValueType
interval = Simple simple.Interval

abbrev pub addr : ValueType
addr = Simple simple.Addr

abbrev pub port : ValueType
port = Simple simple.Port

abbrev pub subnet : ValueType
subnet = Simple simple.Subnet

abbrev pub enum : ℕ → ValueType
enum number = Simple (simple.Enum number)

abbrev pub record_no : ℕ → RecordNo
record_no number = record { 0 = number }

-- the enums, by their numbers
abbrev pub transport_proto : ValueType
transport_proto = enum 0

abbrev pub log_id : ValueType
log_id = enum 1

abbrev pub reporter_level : ValueType
reporter_level = enum 2

-- how many there are
abbrev pub enums : ℕ
enums = 3

-- the record types, by their numbers
abbrev pub conn_id : ValueType
conn_id = Record (record_no 0)

abbrev pub endpoint : ValueType
endpoint = Record (record_no 1)

abbrev pub connection : ValueType
connection = Record (record_no 2)

abbrev pub http_message_stat : ValueType
http_message_stat = Record (record_no 3)

abbrev pub dns_msg : ValueType
dns_msg = Record (record_no 4)

abbrev pub dns_answer : ValueType
dns_answer = Record (record_no 5)

abbrev pub dns_soa : ValueType
dns_soa = Record (record_no 6)

abbrev pub filter_record : RecordNo
filter_record = record_no 7

abbrev pub string_vec : ValueType
string_vec = Vector string

-- Record types -----------------------------------------------------------------------------------------------------

abbrev pub plain : List ℕ → ValueType → Field
plain name type = record { name = name; field_type = type; log = false; wire = false; begins = None }

abbrev pub logged : List ℕ → ValueType → Field
logged name type = record { name = name; field_type = type; log = true; wire = false; begins = None }

abbrev pub wired : List ℕ → ValueType → Field
wired name type = record { name = name; field_type = type; log = false; wire = true; begins = None }

abbrev pub record_types : List RecordType
record_types =
    record {
      fields =
          logged (codes "orig_h") addr ∷
          logged (codes "orig_p") port ∷
          logged (codes "resp_h") addr ∷
          logged (codes "resp_p") port ∷
          [];
    } ∷
    record {
      fields =
          plain (codes "size") count ∷
          wired (codes "num_pkts") count ∷
          wired (codes "num_bytes_ip") count ∷
          [];
    } ∷
    record {
      fields =
          plain (codes "id") conn_id ∷
          plain (codes "orig") endpoint ∷
          plain (codes "resp") endpoint ∷
          plain (codes "start_time") time ∷
          plain (codes "duration") interval ∷
          plain (codes "proto") transport_proto ∷
          plain (codes "uid") string ∷
          plain (codes "conn_state") string ∷
          wired (codes "history") string ∷
          [];
    } ∷
    record {
      fields =
          plain (codes "body_length") count ∷
          plain (codes "header_length") count ∷
          plain (codes "content_gap_length") count ∷
          [];
    } ∷
    record {
      fields =
          plain (codes "id") count ∷
          plain (codes "opcode") count ∷
          plain (codes "rcode") count ∷
          plain (codes "QR") bool ∷
          plain (codes "AA") bool ∷
          plain (codes "TC") bool ∷
          plain (codes "RD") bool ∷
          plain (codes "RA") bool ∷
          plain (codes "num_queries") count ∷
          plain (codes "num_answers") count ∷
          plain (codes "num_auth") count ∷
          plain (codes "num_addl") count ∷
          [];
    } ∷
    record {
      fields =
          plain (codes "query") string ∷
          plain (codes "qtype") count ∷
          plain (codes "qclass") count ∷
          plain (codes "TTL") interval ∷
          [];
    } ∷
    record {
      fields =
          plain (codes "mname") string ∷
          plain (codes "rname") string ∷
          plain (codes "serial") count ∷
          plain (codes "refresh") interval ∷
          plain (codes "retry") interval ∷
          plain (codes "expire") interval ∷
          plain (codes "minimum") interval ∷
          [];
    } ∷
    record {
      fields =
          plain (codes "name") string ∷
          plain (codes "path") string ∷
          [];
    } ∷
    []

-- the one field of these that a constructor needn't give: `size` of an endpoint
abbrev pub is_optional : List ℕ → Bool
is_optional name = bytes_eq name (codes "size")

-- Names ------------------------------------------------------------------------------------------------------------

-- the names of types
abbrev pub type_names : List (List ℕ × ValueType)
type_names =
    (codes "transport_proto", transport_proto) ∷ (codes "string_vec", string_vec) ∷ (codes "conn_id", conn_id) ∷
    (codes "endpoint", endpoint) ∷ (codes "connection", connection) ∷ (codes "http_message_stat", http_message_stat) ∷
    (codes "dns_msg", dns_msg) ∷ (codes "dns_answer", dns_answer) ∷ (codes "dns_soa", dns_soa) ∷
    (codes "Log::ID", log_id) ∷ (codes "Reporter::Level", reporter_level) ∷ (codes "Log::Filter", Record filter_record) ∷ []

-- enum words with the numbers of their enums
abbrev pub words : List (List ℕ × ℕ)
words = (codes "tcp", 0) ∷ (codes "udp", 0) ∷ (codes "Reporter::ERROR", 2) ∷ []

-- Events -----------------------------------------------------------------------------------------------------------

abbrev pub event : List ℕ → List ValueType → Event
event name params = record { name = name; params = params }

abbrev pub of_connection : List ℕ → List ValueType → Event
of_connection name params = event name (connection ∷ params)

-- an event of a record of an answer section
abbrev pub of_answer : List ℕ → List ValueType → Event
of_answer name params = of_connection name (dns_msg ∷ dns_answer ∷ params)

abbrev pub zeek_init : EventNo
zeek_init = record { 0 = 0 }

abbrev pub zeek_done : EventNo
zeek_done = record { 0 = 1 }

abbrev pub packet_seen : EventNo
packet_seen = record { 0 = 2 }

-- by their numbers
abbrev pub events : List Event
events =
    event (codes "zeek_init") [] ∷
    event (codes "zeek_done") [] ∷
    event (codes "packet_seen") (time ∷ count ∷ count ∷ []) ∷
    of_connection (codes "new_connection") [] ∷
    of_connection (codes "connection_established") [] ∷
    of_connection (codes "connection_reset") [] ∷
    of_connection (codes "connection_state_remove") [] ∷
    of_connection (codes "content_gap") (bool ∷ count ∷ count ∷ []) ∷
    of_connection (codes "connection_EOF") (bool ∷ []) ∷
    of_connection (codes "stream_gave_up") (bool ∷ []) ∷
    of_connection (codes "http_request") (string ∷ string ∷ string ∷ string ∷ []) ∷
    of_connection (codes "http_reply") (string ∷ count ∷ string ∷ []) ∷
    of_connection (codes "http_header") (bool ∷ string ∷ string ∷ string ∷ []) ∷
    of_connection (codes "http_message_done") (bool ∷ http_message_stat ∷ []) ∷
    of_connection (codes "http_tunnel") [] ∷
    of_connection (codes "http_violation") (bool ∷ count ∷ []) ∷
    of_connection (codes "dns_message") (bool ∷ dns_msg ∷ count ∷ []) ∷
    of_connection (codes "dns_request") (dns_msg ∷ string ∷ count ∷ count ∷ []) ∷
    of_connection (codes "dns_end") (dns_msg ∷ []) ∷
    of_answer (codes "dns_A_reply") (addr ∷ []) ∷
    of_answer (codes "dns_AAAA_reply") (addr ∷ []) ∷
    of_answer (codes "dns_NS_reply") (string ∷ []) ∷
    of_answer (codes "dns_CNAME_reply") (string ∷ []) ∷
    of_answer (codes "dns_PTR_reply") (string ∷ []) ∷
    of_answer (codes "dns_MX_reply") (string ∷ count ∷ []) ∷
    of_answer (codes "dns_TXT_reply") (string_vec ∷ []) ∷
    of_answer (codes "dns_SOA_reply") (dns_soa ∷ []) ∷
    of_answer (codes "dns_unknown_reply") [] ∷
    of_connection (codes "dns_violation") (bool ∷ count ∷ []) ∷
    []

-- Some items with what they raise, computed by the definitions.
use Rattle.std.proofs.Common.{◌≡◌, ℕ, List, [], ◌∷◌, map, length, Some, None, pos, true, false, codes, refl, slice_get}
use Rattle.std.specs.Fmt.{digits}
use Rattle.std.specs.Option.{option_map}
use Rattle.percent_encoding.specs.Percent.{percent_decode}
use Rattle.zk_base.specs.declared.network.Addr.TheVariants.{V4}
use Rattle.zk_base.specs.declared.network.Proto.TheVariants.{Tcp}
use Rattle.zk_base.specs.declared.network.Side.TheVariants.{Orig, Resp}
use Rattle.zk_base.specs.declared.numbers.EventNo.{EventNo}
use Rattle.zk_base.specs.declared.numbers.ConnNo.{ConnNo}
use Rattle.zk_base.specs.declared.numbers.ObjectNo.{ObjectNo}
use Rattle.zk_conn.specs.declared.facts.ConnState.TheVariants as state
use Rattle.zk_conn.specs.declared.facts.Facts.{Facts}
use Rattle.zk_dns.specs.declared.record.AnswerKind.TheVariants as kind
use Rattle.zk_http.specs.declared.units.Start.TheVariants as start
use Rattle.zk_http.specs.declared.units.UnitKind.TheVariants as unit
use Rattle.zk_traffic.specs.declared.item.What.TheVariants as what
use Rattle.zk_tree.specs.Store as store
use Rattle.zk_tree.specs.Value as plain
use Rattle.zk_typed.specs.Predefined as predefined
use Rattle.zk_typed.specs.Program.{Event, Program}
use Rattle.zk_typed.specs.State.{World, first_world}
use Rattle.zk_typed.specs.World.{queued}
use Rattle.zk_events.specs.Known.{Known, none_known}
use Rattle.zk_events.specs.Numbers as number
use Rattle.zk_events.specs.Turns.{known_after, raises}

-- Names ------------------------------------------------------------------------------------------------------------

-- each number is that of the event of its name
pub events_have_their_names : map (λ (event : EventNo). option_map (λ (one : Event). one.name) (slice_get predefined.events event.0)) (
    number.packet_seen ∷ number.new_connection ∷ number.connection_established ∷ number.connection_reset ∷ number.connection_state_remove ∷
    number.content_gap ∷ number.connection_eof ∷ number.stream_gave_up ∷ number.http_request ∷ number.http_reply ∷ number.http_header ∷
    number.http_message_done ∷ number.http_tunnel ∷ number.http_violation ∷ number.dns_message ∷ number.dns_request ∷ number.dns_end ∷
    number.dns_a_reply ∷ number.dns_aaaa_reply ∷ number.dns_ns_reply ∷ number.dns_cname_reply ∷ number.dns_ptr_reply ∷ number.dns_mx_reply ∷
    number.dns_txt_reply ∷ number.dns_soa_reply ∷ number.dns_unknown_reply ∷ number.dns_violation ∷ []
    ) ≡ (
    Some (codes "packet_seen") ∷ Some (codes "new_connection") ∷ Some (codes "connection_established") ∷ Some (codes "connection_reset") ∷
    Some (codes "connection_state_remove") ∷ Some (codes "content_gap") ∷ Some (codes "connection_EOF") ∷ Some (codes "stream_gave_up") ∷
    Some (codes "http_request") ∷ Some (codes "http_reply") ∷ Some (codes "http_header") ∷ Some (codes "http_message_done") ∷
    Some (codes "http_tunnel") ∷ Some (codes "http_violation") ∷ Some (codes "dns_message") ∷ Some (codes "dns_request") ∷ Some (codes "dns_end") ∷
    Some (codes "dns_A_reply") ∷ Some (codes "dns_AAAA_reply") ∷ Some (codes "dns_NS_reply") ∷ Some (codes "dns_CNAME_reply") ∷
    Some (codes "dns_PTR_reply") ∷ Some (codes "dns_MX_reply") ∷ Some (codes "dns_TXT_reply") ∷ Some (codes "dns_SOA_reply") ∷
    Some (codes "dns_unknown_reply") ∷ Some (codes "dns_violation") ∷ []
    )
events_have_their_names = refl

-- A connection -----------------------------------------------------------------------------------------------------

-- a program that declares nothing
abbrev bare : Program
bare = record {
  files = [];
  records = predefined.record_types;
  logs = [];
  globals = [];
  functions = [];
  hooks = [];
  events = predefined.events;
  handlers = [];
}

-- TCP from 10.0.0.1 port 40001 to 10.0.0.80 port 80, of which the responder has sent nothing
abbrev some_facts : Facts
some_facts = record {
  orig_h = V4 167772161;
  orig_p = 40001;
  resp_h = V4 167772240;
  resp_p = 80;
  proto = Tcp;
  start = record { 0 = pos 1_000_000 };
  last = record { 0 = pos 3_500_000 };
  orig = record { size = Some 5; pkts = 3; ip_bytes = 125 };
  resp = record { size = None; pkts = 0; ip_bytes = 0 };
  state = state.S0;
  history = codes "SD";
}

abbrev seven : ConnNo
seven = record { 0 = 7 }

abbrev object_no : ℕ → ObjectNo
object_no n = record { 0 = n }

abbrev value_of : ℕ → plain.Value
value_of n = plain.Object (object_no n)

-- its four objects
abbrev its_store : List store.Object
its_store =
    store.Record number.conn_id (
    Some (plain.Addr (V4 167772161)) ∷ Some (plain.Port 40001 Tcp) ∷ Some (plain.Addr (V4 167772240)) ∷ Some (plain.Port 80 Tcp) ∷ []
    ) ∷
    store.Record number.endpoint (Some (plain.Count 5) ∷ Some (plain.Count 3) ∷ Some (plain.Count 125) ∷ []) ∷
    store.Record number.endpoint (None ∷ Some (plain.Count 0) ∷ Some (plain.Count 0) ∷ []) ∷
    store.Record number.connection (
    Some (value_of 0) ∷ Some (value_of 1) ∷ Some (value_of 2) ∷
    Some (plain.Time (record { 0 = pos 1_000_000 })) ∷ Some (plain.Interval (record { 0 = pos 2_500_000 })) ∷
    Some (plain.Enum (codes "tcp")) ∷ Some (plain.String (codes "C7")) ∷ Some (plain.String (codes "S0")) ∷
    Some (plain.String (codes "SD")) ∷ []
    ) ∷
    []

abbrev opened : World
opened = raises bare none_known (what.Opened seven some_facts) (first_world [])

pub objects_are_made_at_the_first_item : opened.store ≡ its_store
unfolding digits
objects_are_made_at_the_first_item = refl

pub a_new_connection_is_told : opened.queue ≡ queued number.new_connection (value_of 3 ∷ []) ∷ []
a_new_connection_is_told = refl

abbrev known : Known
known = known_after bare none_known (what.Opened seven some_facts) (first_world [])

-- an item later, with other facts, in the same objects
abbrev ended : World
ended = raises bare known (what.Ended seven (record some_facts { resp_p = 81 }) Resp) opened

pub no_object_is_made_again : length ended.store ≡ 4
no_object_is_made_again = refl

pub its_facts_are_renewed : slice_get ended.store 0 ≡ Some (store.Record number.conn_id (
    Some (plain.Addr (V4 167772161)) ∷ Some (plain.Port 40001 Tcp) ∷ Some (plain.Addr (V4 167772240)) ∷ Some (plain.Port 81 Tcp) ∷ []
    ))
its_facts_are_renewed = refl

pub the_events_wait_in_order : ended.queue ≡ queued number.new_connection (value_of 3 ∷ []) ∷ queued number.connection_eof (value_of 3 ∷ plain.Bool false ∷ []) ∷ []
the_events_wait_in_order = refl

-- HTTP -------------------------------------------------------------------------------------------------------------

pub a_request_and_then_its_headers :
    (raises bare known (what.Http seven some_facts Orig (record {
      place = 40;
      what = unit.Head (record {
        start = start.Request (codes "GET") (codes "/a%20b%2") 1;
        headers = (codes "Host", codes "a.test") ∷ [];
      });
    })) opened).queue
    ≡ queued number.new_connection (value_of 3 ∷ []) ∷
    queued number.http_request (
    value_of 3 ∷ plain.String (codes "GET") ∷ plain.String (codes "/a%20b%2") ∷ plain.String (codes "/a b%2") ∷ plain.String (codes "1.1") ∷ []
    ) ∷
    queued number.http_header (
    value_of 3 ∷ plain.Bool true ∷ plain.String (codes "Host") ∷ plain.String (codes "HOST") ∷ plain.String (codes "a.test") ∷ []
    ) ∷ []
unfolding percent_decode
a_request_and_then_its_headers = refl

-- DNS --------------------------------------------------------------------------------------------------------------

-- a response with a TXT record of two strings: the message is object 4, the answer object 5 and the vector object 6
abbrev answered : World
answered = raises bare known (what.Dns seven some_facts Resp 60 (record {
  id = 9;
  opcode = 0;
  rcode = 0;
  qr = true;
  aa = false;
  tc = false;
  rd = true;
  ra = true;
  counts = 1 ∷ 1 ∷ 0 ∷ 0 ∷ [];
  questions = record { name = codes "a.test"; qtype = 16; qclass = 1 } ∷ [];
  answers = record { name = codes "a.test"; rtype = 16; rclass = 1; ttl = 300; what = kind.Txt (codes "x" ∷ codes "y" ∷ []) } ∷ [];
})) opened

pub a_response_tells_its_answers_and_no_question : answered.queue
    ≡ queued number.new_connection (value_of 3 ∷ []) ∷
    queued number.dns_message (value_of 3 ∷ plain.Bool false ∷ value_of 4 ∷ plain.Count 60 ∷ []) ∷
    queued number.dns_txt_reply (value_of 3 ∷ value_of 4 ∷ value_of 5 ∷ value_of 6 ∷ []) ∷
    queued number.dns_end (value_of 3 ∷ value_of 4 ∷ []) ∷ []
a_response_tells_its_answers_and_no_question = refl

pub a_vector_of_its_strings : slice_get answered.store 6 ≡ Some (store.Vector (plain.String (codes "x") ∷ plain.String (codes "y") ∷ []))
a_vector_of_its_strings = refl

pub an_answer_of_its_own : slice_get answered.store 5 ≡ Some (store.Record number.dns_answer (
    Some (plain.String (codes "a.test")) ∷ Some (plain.Count 16) ∷ Some (plain.Count 1) ∷ Some (plain.Interval (record { 0 = pos 300_000_000 })) ∷ []
    ))
an_answer_of_its_own = refl

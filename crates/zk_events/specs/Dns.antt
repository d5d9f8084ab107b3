-- The events that DNS messages raise (Zeek manual, DNS events). All events of a message are given one `dns_msg`, and the
-- event of each answer a `dns_answer` of its own.
use Rattle.std.specs.Prelude.{ℕ, ◌==◌, if◌then◌else◌, Bool, true, false, List, [], ◌∷◌, ◌++◌, length, map, fold, slice_index}
use Rattle.zk_base.specs.declared.network.Addr.TheVariants.{V4, V6}
use Rattle.zk_base.specs.declared.network.Side.{Side}
use Rattle.zk_base.specs.declared.numbers.ObjectNo.{ObjectNo}
use Rattle.zk_dns.specs.declared.record.Answer.{Answer}
use Rattle.zk_dns.specs.declared.record.AnswerKind.{AnswerKind}
use Rattle.zk_dns.specs.declared.record.AnswerKind.TheVariants as kind
use Rattle.zk_dns.specs.declared.record.DnsRecord.{DnsRecord}
use Rattle.zk_dns.specs.declared.record.Question.{Question}
use Rattle.zk_tree.specs.Value as plain
use Rattle.zk_tree.specs.Value.{Value}
use Rattle.zk_typed.specs.Program.{Program}
use Rattle.zk_typed.specs.State.{World}
use Rattle.zk_machine.specs.Made.{Fresh, with_object}
use Rattle.zk_tree.specs.Store as store
use Rattle.zk_events.specs.Numbers.{dns_msg, dns_answer, dns_soa, dns_message, dns_request, dns_end, dns_a_reply, dns_aaaa_reply, dns_ns_reply, dns_cname_reply, dns_ptr_reply, dns_mx_reply, dns_txt_reply, dns_soa_reply, dns_unknown_reply, dns_violation}
use Rattle.zk_events.specs.Raising.{raised, made, object, is_orig, seconds}

-- the fields of a `dns_msg`
abbrev pub message_fields : DnsRecord → List Value
message_fields message =
    plain.Count message.id ∷
    plain.Count message.opcode ∷
    plain.Count message.rcode ∷
    plain.Bool message.qr ∷
    plain.Bool message.aa ∷
    plain.Bool message.tc ∷
    plain.Bool message.rd ∷
    plain.Bool message.ra ∷
    plain.Count (slice_index message.counts 0) ∷
    plain.Count (slice_index message.counts 1) ∷
    plain.Count (slice_index message.counts 2) ∷
    plain.Count (slice_index message.counts 3) ∷
    []

abbrev pub question_raises : ObjectNo → ObjectNo → World → Question → World
question_raises c message world question = raised dns_request (
    object c ∷ object message ∷ plain.String question.name ∷ plain.Count question.qtype ∷ plain.Count question.qclass ∷ []
    ) world

-- the fields of a `dns_answer`
abbrev pub answer_fields : Answer → List Value
answer_fields answer = plain.String answer.name ∷ plain.Count answer.rtype ∷ plain.Count answer.rclass ∷ seconds answer.ttl ∷ []

-- A name is the data of a record of type NS, CNAME or PTR (RFC 1035, 3.2.2).
abbrev pub name_raises : ℕ → List ℕ → List Value → World → World
name_raises rtype name given =
    if rtype == 2 then raised dns_ns_reply (given ++ plain.String name ∷ [])
    else if rtype == 5 then raised dns_cname_reply (given ++ plain.String name ∷ [])
    else if rtype == 12 then raised dns_ptr_reply (given ++ plain.String name ∷ [])
    else raised dns_unknown_reply given

-- an event that is given an object behind what each answer's event is given
abbrev pub raises_with : (List Value → World → World) → List Value → Fresh → World
raises_with raises given fresh = raises (given ++ object fresh.number ∷ []) fresh.world

-- a new vector
abbrev pub vector_of : List Value → World → Fresh
vector_of items world = record { number = record { 0 = length world.store }; world = with_object (store.Vector items) world }

-- the fields of a `dns_soa`: the names of the server and of the mailbox, the serial number, and the times (RFC 1035, 3.3.13)
abbrev pub soa_fields : List ℕ → List ℕ → ℕ → List ℕ → List Value
soa_fields mname rname serial times =
    plain.String mname ∷
    plain.String rname ∷
    plain.Count serial ∷
    seconds (slice_index times 0) ∷
    seconds (slice_index times 1) ∷
    seconds (slice_index times 2) ∷
    seconds (slice_index times 3) ∷
    []

-- what the data of an answer says
abbrev pub kind_raises : Program → ℕ → AnswerKind → List Value → World → World
kind_raises program rtype (kind.A address) given world = raised dns_a_reply (given ++ plain.Addr (V4 address) ∷ []) world
kind_raises program rtype (kind.Aaaa address) given world = raised dns_aaaa_reply (given ++ plain.Addr (V6 address) ∷ []) world
kind_raises program rtype (kind.Name name) given world = name_raises rtype name given world
kind_raises program rtype (kind.Mx preference name) given world =
    raised dns_mx_reply (given ++ plain.String name ∷ plain.Count preference ∷ []) world
kind_raises program rtype (kind.Txt texts) given world =
    raises_with (raised dns_txt_reply) given (vector_of (map plain.String texts) world)
kind_raises program rtype (kind.Soa mname rname serial refresh retry expire minimum) given world =
    raises_with (raised dns_soa_reply) given (made program dns_soa (soa_fields mname rname serial (refresh ∷ retry ∷ expire ∷ minimum ∷ [])) world)
kind_raises program rtype kind.Other given world = raised dns_unknown_reply given world

abbrev pub answered : Program → ObjectNo → ObjectNo → Answer → Fresh → World
answered program c message answer fresh =
    kind_raises program answer.rtype answer.what (object c ∷ object message ∷ object fresh.number ∷ []) fresh.world

abbrev pub answer_raises : Program → ObjectNo → ObjectNo → World → Answer → World
answer_raises program c message world answer = answered program c message answer (made program dns_answer (answer_fields answer) world)

-- each question of a query, or each record of the answer section of a response
abbrev pub content_raises : Program → ObjectNo → ObjectNo → DnsRecord → Bool → World → World
content_raises program c message told true world = fold (answer_raises program c message) world told.answers
content_raises program c message told false world = fold (question_raises c message) world told.questions

abbrev pub told_with : Program → ObjectNo → Side → ℕ → DnsRecord → Fresh → World
told_with program c side len told fresh =
    raised dns_end (object c ∷ object fresh.number ∷ []) (
    content_raises program c fresh.number told told.qr (
    raised dns_message (object c ∷ is_orig side ∷ object fresh.number ∷ plain.Count len ∷ []) fresh.world
    )
    )

-- a message of so many bytes
abbrev pub message_raises : Program → ObjectNo → Side → ℕ → DnsRecord → World → World
message_raises program c side len told world = told_with program c side len told (made program dns_msg (message_fields told) world)

-- bytes that are no message, by the number of their fault
abbrev pub fault_raises : ObjectNo → Side → ℕ → World → World
fault_raises c side fault = raised dns_violation (object c ∷ is_orig side ∷ plain.Count fault ∷ [])

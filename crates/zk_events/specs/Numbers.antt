-- The numbers of the events that items raise, and of the records that they are given (zk_typed/specs/Predefined has their
-- names and types; proofs/Rows shows that these are the numbers of those names).
use Rattle.zk_base.specs.declared.numbers.EventNo.{EventNo}
use Rattle.zk_base.specs.declared.numbers.RecordNo.{RecordNo}
use Rattle.std.specs.Prelude.{ℕ}

-- Records ----------------------------------------------------------------------------------------------------------

abbrev pub record_no : ℕ → RecordNo
record_no number = record { 0 = number }

abbrev pub conn_id : RecordNo
conn_id = record_no 0

abbrev pub endpoint : RecordNo
endpoint = record_no 1

abbrev pub connection : RecordNo
connection = record_no 2

abbrev pub http_message_stat : RecordNo
http_message_stat = record_no 3

abbrev pub dns_msg : RecordNo
dns_msg = record_no 4

abbrev pub dns_answer : RecordNo
dns_answer = record_no 5

abbrev pub dns_soa : RecordNo
dns_soa = record_no 6

-- Events -----------------------------------------------------------------------------------------------------------

abbrev pub event_no : ℕ → EventNo
event_no number = record { 0 = number }

abbrev pub packet_seen : EventNo
packet_seen = event_no 2

abbrev pub new_connection : EventNo
new_connection = event_no 3

abbrev pub connection_established : EventNo
connection_established = event_no 4

abbrev pub connection_reset : EventNo
connection_reset = event_no 5

abbrev pub connection_state_remove : EventNo
connection_state_remove = event_no 6

abbrev pub content_gap : EventNo
content_gap = event_no 7

abbrev pub connection_eof : EventNo
connection_eof = event_no 8

abbrev pub stream_gave_up : EventNo
stream_gave_up = event_no 9

abbrev pub http_request : EventNo
http_request = event_no 10

abbrev pub http_reply : EventNo
http_reply = event_no 11

abbrev pub http_header : EventNo
http_header = event_no 12

abbrev pub http_message_done : EventNo
http_message_done = event_no 13

abbrev pub http_tunnel : EventNo
http_tunnel = event_no 14

abbrev pub http_violation : EventNo
http_violation = event_no 15

abbrev pub dns_message : EventNo
dns_message = event_no 16

abbrev pub dns_request : EventNo
dns_request = event_no 17

abbrev pub dns_end : EventNo
dns_end = event_no 18

abbrev pub dns_a_reply : EventNo
dns_a_reply = event_no 19

abbrev pub dns_aaaa_reply : EventNo
dns_aaaa_reply = event_no 20

abbrev pub dns_ns_reply : EventNo
dns_ns_reply = event_no 21

abbrev pub dns_cname_reply : EventNo
dns_cname_reply = event_no 22

abbrev pub dns_ptr_reply : EventNo
dns_ptr_reply = event_no 23

abbrev pub dns_mx_reply : EventNo
dns_mx_reply = event_no 24

abbrev pub dns_txt_reply : EventNo
dns_txt_reply = event_no 25

abbrev pub dns_soa_reply : EventNo
dns_soa_reply = event_no 26

abbrev pub dns_unknown_reply : EventNo
dns_unknown_reply = event_no 27

abbrev pub dns_violation : EventNo
dns_violation = event_no 28

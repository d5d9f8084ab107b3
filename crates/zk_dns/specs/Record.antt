-- What a message says: the record that its bytes have.
use Rattle.std.specs.Prelude.{◌≡◌, ℕ, ◌+◌, ◌≤◌, ◌/◌, ◌%◌, ◌==◌, List, [], ◌∷◌, length, map, Result, Ok}
use Rattle.zk_dns.specs.declared.fault.DnsFault.{DnsFault}
use Rattle.zk_dns.specs.declared.record.DnsRecord.{DnsRecord}
use Rattle.zk_dns.specs.declared.record.Question.{Question}
use Rattle.zk_dns.specs.declared.record.Answer.{Answer}
use Rattle.zk_dns.specs.Name.{◌>>=◌, IsName, byte_at, name_text}
use Rattle.zk_dns.specs.Data.{IsData, number_at}
use Rattle.zk_dns.specs.Sections.{Asked, Resource, data_len, question_count, answer_count, authority_count, additional_count, sections_of}

-- ---- what a message is

-- a question stands at a place, and ends before another one
pub record IsQuestion (bytes : List ℕ) (place : ℕ) (question : Question) (next : ℕ) : Type 0 where
  pub labels : List (List ℕ)
  pub fields : ℕ
  pub stands : IsName bytes (length bytes) place labels fields
  pub name : question.name ≡ name_text labels
  pub qtype : question.qtype ≡ number_at 2 bytes fields
  pub qclass : question.qclass ≡ number_at 2 bytes (fields + 2)
  pub behind : next ≡ fields + 4
  pub whole : next ≤ length bytes

-- a record stands at a place, and its data ends before another one
pub record IsAnswer (bytes : List ℕ) (place : ℕ) (answer : Answer) (next : ℕ) : Type 0 where
  pub labels : List (List ℕ)
  pub fields : ℕ
  pub stands : IsName bytes (length bytes) place labels fields
  pub name : answer.name ≡ name_text labels
  pub rtype : answer.rtype ≡ number_at 2 bytes fields
  pub rclass : answer.rclass ≡ number_at 2 bytes (fields + 2)
  pub ttl : answer.ttl ≡ number_at 4 bytes (fields + 4)
  pub says : IsData bytes answer.rtype answer.rclass (fields + 10) (data_len bytes fields) answer.what
  pub behind : next ≡ fields + 10 + data_len bytes fields
  pub whole : next ≤ length bytes

-- parts stand one behind another between two places
abbrev pub Stand : {A : Type 0} → (ℕ → A → ℕ → Type 0) → ℕ → List A → ℕ → Type 0
Stand Is from [] to = from ≡ to
Stand Is from (part ∷ parts) to = (next : ℕ) × Is from part next × Stand Is next parts to

-- what the header, and the question and answer section behind it, say (RFC 1035, section 4.1.1)
abbrev pub record_with : List ℕ → List Question → List Answer → DnsRecord
record_with bytes questions answers = record {
  id = number_at 2 bytes 0;
  opcode = byte_at bytes 2 / 8 % 16;
  rcode = byte_at bytes 3 % 16;
  qr = byte_at bytes 2 / 128 % 2 == 1;
  aa = byte_at bytes 2 / 4 % 2 == 1;
  tc = byte_at bytes 2 / 2 % 2 == 1;
  rd = byte_at bytes 2 % 2 == 1;
  ra = byte_at bytes 3 / 128 % 2 == 1;
  counts = question_count bytes ∷ answer_count bytes ∷ authority_count bytes ∷ additional_count bytes ∷ [];
  questions = questions;
  answers = answers;
}

-- the bytes are a message that says this: its sections stand one behind another, from behind the header to the end
pub record IsMessage (bytes : List ℕ) (told : DnsRecord) : Type 0 where
  pub authority : List Answer
  pub additional : List Answer
  pub answers_from : ℕ
  pub authority_from : ℕ
  pub additional_from : ℕ
  pub header : 12 ≤ length bytes
  pub says : told ≡ record_with bytes told.questions told.answers
  pub question_section : Stand (IsQuestion bytes) 12 told.questions answers_from
  pub answer_section : Stand (IsAnswer bytes) answers_from told.answers authority_from
  pub authority_section : Stand (IsAnswer bytes) authority_from authority additional_from
  pub additional_section : Stand (IsAnswer bytes) additional_from additional (length bytes)
  pub questions : length told.questions ≡ question_count bytes
  pub answers : length told.answers ≡ answer_count bytes
  pub authorities : length authority ≡ authority_count bytes
  pub additions : length additional ≡ additional_count bytes

-- ---- the record of a message, or the first fault from the left

abbrev pub question_of : Asked → Question
question_of asked = record { name = name_text asked.labels; qtype = asked.qtype; qclass = asked.qclass }

abbrev pub answer_of : Resource → Answer
answer_of resource = record {
  name = name_text resource.labels;
  rtype = resource.rtype;
  rclass = resource.rclass;
  ttl = resource.ttl;
  what = resource.what;
}

unfoldable pub record_of : List ℕ → Result DnsRecord DnsFault
record_of bytes =
    sections_of bytes
    >>= λ sections. Ok (record_with bytes (map question_of sections.questions) (map answer_of sections.answers))

-- The sections of a message (RFC 1035, section 4.1): a header of 12 bytes, and one behind another the questions and the
-- records of three sections.
use Rattle.std.specs.Prelude.{ℕ, zero, suc, ◌+◌, ◌==◌, nat_lt, if◌then◌else◌, List, [], ◌∷◌, length, Result, Ok, Err}
use Rattle.zk_dns.specs.declared.fault.DnsFault.{DnsFault}
use Rattle.zk_dns.specs.declared.fault.DnsFault.TheVariants as fault
use Rattle.zk_dns.specs.declared.record.AnswerKind.{AnswerKind}
use Rattle.zk_dns.specs.Name.{◌>>=◌, Name, name_at, whole}
use Rattle.zk_dns.specs.Data.{data_at, number_at}

-- a question as it stands: the place and the labels of its name, its type and class (RFC 1035, section 4.1.2)
pub record Asked : Type 0 where
  pub name : ℕ
  pub labels : List (List ℕ)
  pub qtype : ℕ
  pub qclass : ℕ

-- a resource record as it stands: the place and the labels of its name, its fields, the place and the length of its data,
-- and what this says (RFC 1035, section 4.1.3)
pub record Resource : Type 0 where
  pub name : ℕ
  pub labels : List (List ℕ)
  pub rtype : ℕ
  pub rclass : ℕ
  pub ttl : ℕ
  pub at : ℕ
  pub len : ℕ
  pub what : AnswerKind

-- what stands at a place with the place behind it, or the first fault there
abbrev pub Reads : Type 0 → Type 0
Reads A = ℕ → Result (A × ℕ) DnsFault

-- the question whose name was read at a place
abbrev pub question_with : List ℕ → ℕ → Name → Asked
question_with bytes place name = record {
  name = place;
  labels = name.labels;
  qtype = number_at 2 bytes name.next;
  qclass = number_at 2 bytes (name.next + 2);
}

unfoldable pub question_behind : List ℕ → ℕ → Name → Result (Asked × ℕ) DnsFault
question_behind bytes place name =
    if nat_lt (length bytes) (name.next + 4) then Err (fault.Short (length bytes))
    else Ok (question_with bytes place name, name.next + 4)

unfoldable pub question_at : List ℕ → Reads Asked
question_at bytes place = name_at bytes (whole bytes) place >>= question_behind bytes place

-- how many bytes of data the fields of a record say, which stand at a place
abbrev pub data_len : List ℕ → ℕ → ℕ
data_len bytes fields = number_at 2 bytes (fields + 8)

-- the record whose name was read at a place and whose data says this
abbrev pub resource_with : List ℕ → ℕ → Name → AnswerKind → Resource
resource_with bytes place name what = record {
  name = place;
  labels = name.labels;
  rtype = number_at 2 bytes name.next;
  rclass = number_at 2 bytes (name.next + 2);
  ttl = number_at 4 bytes (name.next + 4);
  at = name.next + 10;
  len = data_len bytes name.next;
  what = what;
}

-- the record whose name was read at a place
unfoldable pub resource_behind : List ℕ → ℕ → Name → Result (Resource × ℕ) DnsFault
resource_behind bytes place name =
    if nat_lt (length bytes) (name.next + 10) then Err (fault.Short (length bytes))
    else if nat_lt (length bytes) (name.next + 10 + data_len bytes name.next) then Err (fault.Short (length bytes))
    else data_at bytes (number_at 2 bytes name.next) (number_at 2 bytes (name.next + 2)) (name.next + 10) (data_len bytes name.next)
    >>= λ what. Ok (resource_with bytes place name what, name.next + 10 + data_len bytes name.next)

unfoldable pub resource_at : List ℕ → Reads Resource
resource_at bytes place = name_at bytes (whole bytes) place >>= resource_behind bytes place

-- a number of parts, one behind another
unfoldable pub several : {A : Type 0} → Reads A → ℕ → Reads (List A)
several read zero place = Ok ([], place)
several read (suc n) place =
    read place >>= λ first. several read n first.1 >>= λ others. Ok (first.0 ∷ others.0, others.1)

-- the four sections behind the header, and the place where the answers begin
pub record Sections : Type 0 where
  pub questions : List Asked
  pub answers_from : ℕ
  pub answers : List Resource
  pub authority : List Resource
  pub additional : List Resource

-- the number of questions, answers, authority records or additional records, by its place in the header
abbrev pub question_count : List ℕ → ℕ
question_count bytes = number_at 2 bytes 4

abbrev pub answer_count : List ℕ → ℕ
answer_count bytes = number_at 2 bytes 6

abbrev pub authority_count : List ℕ → ℕ
authority_count bytes = number_at 2 bytes 8

abbrev pub additional_count : List ℕ → ℕ
additional_count bytes = number_at 2 bytes 10

-- the sections behind a header, to the end of the bytes
unfoldable pub sections_behind : List ℕ → Result Sections DnsFault
sections_behind bytes =
    several (question_at bytes) (question_count bytes) 12
    >>= λ questions. several (resource_at bytes) (answer_count bytes) questions.1
    >>= λ answers. several (resource_at bytes) (authority_count bytes) answers.1
    >>= λ authority. several (resource_at bytes) (additional_count bytes) authority.1
    >>= λ additional. if additional.1 == length bytes
    then Ok (record {
      questions = questions.0;
      answers_from = questions.1;
      answers = answers.0;
      authority = authority.0;
      additional = additional.0;
    })
    else Err (fault.Trailing additional.1)

-- the sections of the bytes, or their first fault
unfoldable pub sections_of : List ℕ → Result Sections DnsFault
sections_of bytes = if nat_lt (length bytes) 12 then Err (fault.Short (length bytes)) else sections_behind bytes

-- The parts of a message as its iterators give them.
use Rattle.std.specs.Prelude.{ℕ, ◌+◌, List, [], take, drop, map, Result, Ok, Err}
use Rattle.std.specs.Borrow.{Bor}
use Rattle.zk_dns.specs.declared.fault.DnsFault.{DnsFault}
use Rattle.zk_dns.specs.declared.parts.QuestionPart.{QuestionPart}
use Rattle.zk_dns.specs.declared.parts.AnswerPart.{AnswerPart}
use Rattle.zk_dns.specs.Sections.{Asked, Resource, Sections}

abbrev pub question_part : Asked → QuestionPart
question_part asked = record { name = asked.name; qtype = asked.qtype; qclass = asked.qclass }

-- the very slice of `len` bytes from a place on, in its place in memory
abbrev pub slice_at : Bor (List ℕ) → ℕ → ℕ → Bor (List ℕ)
slice_at whole at len = record {
  ref_ptr = (whole.ref_ptr.0, whole.ref_ptr.1 + at);
  now = take len (drop at whole.now);
}

-- a record that stands in the bytes of a message
abbrev pub answer_part : Bor (List ℕ) → Resource → AnswerPart
answer_part whole resource = record {
  name = resource.name;
  rtype = resource.rtype;
  rclass = resource.rclass;
  ttl = resource.ttl;
  at = resource.at;
  bytes = slice_at whole resource.at resource.len;
}

-- the parts that were read
abbrev pub parts_of : {A : Type 0} → Result (List A × ℕ) DnsFault → List A
parts_of (Ok found) = found.0
parts_of (Err why) = []

-- the questions of the sections of a message
abbrev pub questions_in : Result Sections DnsFault → List QuestionPart
questions_in (Ok sections) = map question_part sections.questions
questions_in (Err why) = []

-- the answers of the sections of a message
abbrev pub answers_in : Bor (List ℕ) → Result Sections DnsFault → List AnswerPart
answers_in whole (Ok sections) = map (answer_part whole) sections.answers
answers_in whole (Err why) = []

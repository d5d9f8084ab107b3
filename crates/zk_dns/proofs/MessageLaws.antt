-- What is read as a message is one, each message is read, and it says nothing else.
use Rattle.std.proofs.Common.{◌≡◌, ◌≢◌, ℕ, zero, suc, ◌+◌, ◌<◌, ◌≤◌, ◌==◌, MatchBool, nat_lt, if◌then◌else◌, Bool, true, false, List, [], ◌∷◌, length, map, Result, Ok, Err, refl, ap, sym, subst, ◌∙◌, arith}
use Rattle.std.proofs.lemmas.List.{length-map}
use Rattle.std.proofs.lemmas.Bool.Decides.{nat_tests}
use Rattle.zk_dns.specs.declared.fault.DnsFault.{DnsFault}
use Rattle.zk_dns.specs.declared.fault.DnsFault.TheVariants as fault
use Rattle.zk_dns.specs.declared.record.DnsRecord.{DnsRecord}
use Rattle.zk_dns.specs.declared.record.Question.{Question}
use Rattle.zk_dns.specs.declared.record.Answer.{Answer}
use Rattle.zk_dns.specs.declared.record.AnswerKind.{AnswerKind}
use Rattle.zk_dns.specs.Name.{◌>>=◌, IsName, Name, name_at, whole}
use Rattle.zk_dns.specs.Data.{IsData, data_at, number_at}
use Rattle.zk_dns.specs.Sections.{Asked, Reads, Resource, Sections, additional_count, answer_count, authority_count, data_len, question_at, question_behind, question_count, question_with, resource_at, resource_behind, resource_with, sections_behind, sections_of, several}
use Rattle.zk_dns.specs.Record.{IsAnswer, IsMessage, IsQuestion, Stand, answer_of, question_of, record_of, record_with}
use Rattle.zk_dns.proofs.NameLaws.{behind-ok, eq-tells, lt-tells, name-found, name-only, ok-is}
use Rattle.zk_dns.specs.Ends.{sections_end}
use Rattle.zk_dns.specs.Parts.{parts_of}
use Rattle.zk_dns.proofs.PartLemmas.{sections-end}
use Rattle.zk_dns.proofs.DataLaws.{data-found, data-only}

-- ---- several parts

-- what is read as several parts stands there
several-found : {A B : Type 0} (read : Reads A) (Is : ℕ → B → ℕ → Type 0) (view : A → B)
    → ((place : ℕ) (x : A) (next : ℕ) → read place ≡ Ok (x, next) → Is place (view x) next)
    → (n place : ℕ) (found : List A × ℕ) → several read n place ≡ Ok found
    → Stand Is place (map view found.0) found.1 × (length found.0 ≡ n)
unfolding several
several-found read Is view each zero place found same = rw (ok-is same) (refl, refl)
several-found {A = A} read Is view each (suc n) place found same =
    let (first, read_first, more) = behind-ok (read place) _ found same in
    let (others, read_others, rest) = behind-ok (several read n first.1) _ found more in
    let behind = several-found read Is view each n first.1 others read_others in
    rw (ok-is rest) ((first.1, each place first.0 first.1 read_first, behind.0), omega (arith, behind.1))

-- what stands there is read as several parts
several-only : {A B : Type 0} (read : Reads A) (Is : ℕ → B → ℕ → Type 0) (view : A → B)
    → ((place : ℕ) (y : B) (next : ℕ) → Is place y next → (x : A) × (read place ≡ Ok (x, next)) × (view x ≡ y))
    → (ys : List B) (place end : ℕ) → Stand Is place ys end
    → (xs : List A) × (several read (length ys) place ≡ Ok (xs, end)) × (map view xs ≡ ys)
unfolding several
several-only read Is view each [] place end stand = ([], ap (λ (to : ℕ). Ok ([], to)) stand, refl)
several-only {A = A} {B = B} read Is view each (y ∷ ys) place end (next, is, stand) =
    let (x, found, x_is) = each place y next is in
    let (xs, others, xs_are) = several-only read Is view each ys next end stand in (
      x ∷ xs,
      ap (λ (r : Result (A × ℕ) DnsFault). r >>= λ first. several read (length ys) first.1 >>= λ others. Ok (first.0 ∷ others.0, others.1)) found
          ∙ ap (λ (r : Result (List A × ℕ) DnsFault). r >>= λ others. Ok (x ∷ others.0, others.1)) others,
      ap (λ (first : B). first ∷ map view xs) x_is ∙ ap (λ (rest : List B). y ∷ rest) xs_are,
    )

-- ---- questions

-- a name with fields that lie within the bytes
question-found-by : (bytes : List ℕ) (place : ℕ) (name : Name) (asked : Asked) (next : ℕ) (short : Bool)
    → MatchBool short (length bytes < name.next + 4) (name.next + 4 ≤ length bytes)
    → IsName bytes (length bytes) place name.labels name.next
    → if◌then◌else◌ {A = Result (Asked × ℕ) DnsFault} short (Err (fault.Short (length bytes)))
    (Ok (question_with bytes place name, name.next + 4)) ≡ Ok (asked, next)
    → IsQuestion bytes place (question_of asked) next
question-found-by bytes place name asked next true within is found = cc
question-found-by bytes place name asked next false within is found =
    let pair : (question_with bytes place name, name.next + 4) ≡ (asked, next) = cc in
    subst (λ (p : Asked × ℕ). IsQuestion bytes place (question_of p.0) p.1) pair (record {
      labels = name.labels;
      fields = name.next;
      stands = is;
      name = refl;
      qtype = refl;
      qclass = refl;
      behind = refl;
      whole = within;
    })

question-found : (bytes : List ℕ) (place : ℕ) (asked : Asked) (next : ℕ) → question_at bytes place ≡ Ok (asked, next)
    → IsQuestion bytes place (question_of asked) next
unfolding question_at question_behind
question-found bytes place asked next found =
    let (name, read, rest) = behind-ok (name_at bytes (whole bytes) place) (question_behind bytes place) (asked, next) found in
    question-found-by bytes place name asked next _ (lt-tells (length bytes) (name.next + 4))
    (name-found bytes (whole bytes) place name (omega arith) read) rest

question-only-by : (bytes : List ℕ) (place : ℕ) (name : Name) → name.next + 4 ≤ length bytes
    → question_behind bytes place name ≡ Ok (question_with bytes place name, name.next + 4)
unfolding question_behind
question-only-by bytes place name within = grind (arith, nat_tests)

-- a question is what its name and fields say
question-same : {bytes : List ℕ} {place : ℕ} {question : Question} {next : ℕ} → (is : IsQuestion bytes place question next)
    → question_of (question_with bytes place (record { labels = is.labels; next = is.fields })) ≡ question
question-same is = λ i. record { name = sym is.name i; qtype = sym is.qtype i; qclass = sym is.qclass i }

question-only : (bytes : List ℕ) (place : ℕ) (question : Question) (next : ℕ) → IsQuestion bytes place question next
    → (asked : Asked) × (question_at bytes place ≡ Ok (asked, next)) × (question_of asked ≡ question)
unfolding question_at
question-only bytes place question next is =
    let name : Name = record { labels = is.labels; next = is.fields } in (
      question_with bytes place name,
      ap (λ (r : Result Name DnsFault). r >>= question_behind bytes place) (name-only bytes (whole bytes) place is.labels is.fields is.stands)
          ∙ question-only-by bytes place name (omega (arith, is.behind, is.whole))
          ∙ ap (λ (to : ℕ). Ok (question_with bytes place name, to)) (sym is.behind),
      question-same is,
    )

-- ---- records

-- a name with fields and data that lie within the bytes
resource-found-by : (bytes : List ℕ) (place : ℕ) (name : Name) (resource : Resource) (next : ℕ) (no_fields no_data : Bool)
    → MatchBool no_fields (length bytes < name.next + 10) (name.next + 10 ≤ length bytes)
    → MatchBool no_data (length bytes < name.next + 10 + data_len bytes name.next) (name.next + 10 + data_len bytes name.next ≤ length bytes)
    → IsName bytes (length bytes) place name.labels name.next
    → if◌then◌else◌ {A = Result (Resource × ℕ) DnsFault} no_fields (Err (fault.Short (length bytes)))
    (if◌then◌else◌ {A = Result (Resource × ℕ) DnsFault} no_data (Err (fault.Short (length bytes)))
    (data_at bytes (number_at 2 bytes name.next) (number_at 2 bytes (name.next + 2)) (name.next + 10) (data_len bytes name.next)
    >>= λ what. Ok (resource_with bytes place name what, name.next + 10 + data_len bytes name.next))) ≡ Ok (resource, next)
    → IsAnswer bytes place (answer_of resource) next
resource-found-by bytes place name resource next true no_data fields within is found = cc
resource-found-by bytes place name resource next false true fields within is found = cc
resource-found-by bytes place name resource next false false fields within is found =
    let type : ℕ = number_at 2 bytes name.next in
    let class : ℕ = number_at 2 bytes (name.next + 2) in
    let (what, read, rest) = behind-ok (data_at bytes type class (name.next + 10) (data_len bytes name.next)) _ (resource, next) found in
    let pair : (resource_with bytes place name what, name.next + 10 + data_len bytes name.next) ≡ (resource, next) = cc in
    subst (λ (p : Resource × ℕ). IsAnswer bytes place (answer_of p.0) p.1) pair (record {
      labels = name.labels;
      fields = name.next;
      stands = is;
      name = refl;
      rtype = refl;
      rclass = refl;
      ttl = refl;
      says = data-found bytes type class (name.next + 10) (data_len bytes name.next) what within read;
      behind = refl;
      whole = within;
    })

resource-found : (bytes : List ℕ) (place : ℕ) (resource : Resource) (next : ℕ) → resource_at bytes place ≡ Ok (resource, next)
    → IsAnswer bytes place (answer_of resource) next
unfolding resource_at resource_behind
resource-found bytes place resource next found =
    let (name, read, rest) = behind-ok (name_at bytes (whole bytes) place) (resource_behind bytes place) (resource, next) found in
    resource-found-by bytes place name resource next _ _ (lt-tells (length bytes) (name.next + 10))
    (lt-tells (length bytes) (name.next + 10 + data_len bytes name.next))
    (name-found bytes (whole bytes) place name (omega arith) read) rest

resource-only-by : (bytes : List ℕ) (place : ℕ) (name : Name) (what : AnswerKind) → name.next + 10 + data_len bytes name.next ≤ length bytes
    → data_at bytes (number_at 2 bytes name.next) (number_at 2 bytes (name.next + 2)) (name.next + 10) (data_len bytes name.next) ≡ Ok what
    → resource_behind bytes place name ≡ Ok (resource_with bytes place name what, name.next + 10 + data_len bytes name.next)
unfolding resource_behind
resource-only-by bytes place name what within found = grind (arith, nat_tests, found)

-- a record is what its name, its fields and its data say
answer-same : {bytes : List ℕ} {place : ℕ} {answer : Answer} {next : ℕ} → (is : IsAnswer bytes place answer next)
    → answer_of (resource_with bytes place (record { labels = is.labels; next = is.fields }) answer.what) ≡ answer
answer-same {answer = answer} is =
    λ i. record { name = sym is.name i; rtype = sym is.rtype i; rclass = sym is.rclass i; ttl = sym is.ttl i; what = answer.what }

resource-only : (bytes : List ℕ) (place : ℕ) (answer : Answer) (next : ℕ) → IsAnswer bytes place answer next
    → (resource : Resource) × (resource_at bytes place ≡ Ok (resource, next)) × (answer_of resource ≡ answer)
unfolding resource_at
resource-only bytes place answer next is =
    let name : Name = record { labels = is.labels; next = is.fields } in
    let says : IsData bytes (number_at 2 bytes is.fields) (number_at 2 bytes (is.fields + 2)) (is.fields + 10) (data_len bytes is.fields) answer.what
    = rw (← is.rtype, ← is.rclass) is.says in (
      resource_with bytes place name answer.what,
      ap (λ (r : Result Name DnsFault). r >>= resource_behind bytes place) (name-only bytes (whole bytes) place is.labels is.fields is.stands)
          ∙ resource-only-by bytes place name answer.what (omega (arith, is.behind, is.whole))
          (data-only bytes (number_at 2 bytes is.fields) (number_at 2 bytes (is.fields + 2)) (is.fields + 10) (data_len bytes is.fields) answer.what says)
          ∙ ap (λ (to : ℕ). Ok (resource_with bytes place name answer.what, to)) (sym is.behind),
      answer-same is,
    )

-- ---- messages

-- the sections behind a header, one behind another, and the places between them
record AreSections (bytes : List ℕ) (sections : Sections) : Type 0 where
  authority_from : ℕ
  additional_from : ℕ
  questions : Stand (IsQuestion bytes) 12 (map question_of sections.questions) sections.answers_from
  answers : Stand (IsAnswer bytes) sections.answers_from (map answer_of sections.answers) authority_from
  authority : Stand (IsAnswer bytes) authority_from (map answer_of sections.authority) additional_from
  additional : Stand (IsAnswer bytes) additional_from (map answer_of sections.additional) (length bytes)
  question_number : length sections.questions ≡ question_count bytes
  answer_number : length sections.answers ≡ answer_count bytes
  authority_number : length sections.authority ≡ authority_count bytes
  additional_number : length sections.additional ≡ additional_count bytes

-- all is read, or bytes are left
ends-whole : (end len : ℕ) (made sections : Sections) → (if end == len then Ok made else Err (fault.Trailing end)) ≡ Ok sections
    → (end ≡ len) × (sections ≡ made)
ends-whole end len made sections found = ends-whole-by (end == len) (eq-tells end len) found
  where
    ends-whole-by : (same : Bool) → MatchBool same (end ≡ len) (end ≢ len)
        → (if same then Ok made else Err (fault.Trailing end)) ≡ Ok sections → (end ≡ len) × (sections ≡ made)
    ends-whole-by true is found = (is, ok-is found)
    ends-whole-by false is found = cc

-- what is read behind a header are sections
sections-found : (bytes : List ℕ) (sections : Sections) → sections_behind bytes ≡ Ok sections → AreSections bytes sections
unfolding sections_behind
sections-found bytes sections found =
    let (questions, read1, rest1) = behind-ok (several (question_at bytes) (question_count bytes) 12) _ sections found in
    let (answers, read2, rest2) = behind-ok (several (resource_at bytes) (answer_count bytes) questions.1) _ sections rest1 in
    let (authority, read3, rest3) = behind-ok (several (resource_at bytes) (authority_count bytes) answers.1) _ sections rest2 in
    let (additional, read4, rest4) = behind-ok (several (resource_at bytes) (additional_count bytes) authority.1) _ sections rest3 in
    let (whole, sections_is) = ends-whole additional.1 (length bytes) (record {
      questions = questions.0;
      answers_from = questions.1;
      answers = answers.0;
      authority = authority.0;
      additional = additional.0;
    }) sections rest4 in
    let stand1 = several-found (question_at bytes) (IsQuestion bytes) question_of (question-found bytes) (question_count bytes) 12 questions read1 in
    let stand2 = several-found (resource_at bytes) (IsAnswer bytes) answer_of (resource-found bytes) (answer_count bytes) questions.1 answers read2 in
    let stand3 = several-found (resource_at bytes) (IsAnswer bytes) answer_of (resource-found bytes) (authority_count bytes) answers.1 authority read3 in
    let stand4 = several-found (resource_at bytes) (IsAnswer bytes) answer_of (resource-found bytes) (additional_count bytes) authority.1 additional read4 in
    rw sections_is (record {
      authority_from = answers.1;
      additional_from = authority.1;
      questions = stand1.0;
      answers = stand2.0;
      authority = stand3.0;
      additional = subst (λ (end : ℕ). Stand (IsAnswer bytes) authority.1 (map answer_of additional.0) end) whole stand4.0;
      question_number = stand1.1;
      answer_number = stand2.1;
      authority_number = stand3.1;
      additional_number = stand4.1;
    })

-- sections behind a header of 12 bytes
sections-whole : (bytes : List ℕ) (sections : Sections) → sections_of bytes ≡ Ok sections
    → (12 ≤ length bytes) × (sections_behind bytes ≡ Ok sections)
unfolding sections_of
sections-whole bytes sections found = sections-whole-by (nat_lt (length bytes) 12) (lt-tells (length bytes) 12) found
  where
    sections-whole-by : (short : Bool) → MatchBool short (length bytes < 12) (12 ≤ length bytes)
        → (if short then Err (fault.Short (length bytes)) else sections_behind bytes) ≡ Ok sections
        → (12 ≤ length bytes) × (sections_behind bytes ≡ Ok sections)
    sections-whole-by true is found = cc
    sections-whole-by false is found = (is, found)

-- as many parts are told as were read
length-told : {A B : Type 0} (view : A → B) (parts : List A) (n : ℕ) → length parts ≡ n → length (map view parts) ≡ n
length-told view parts n number = length-map parts view ∙ number

-- what is read as a message is one, and says that
pub message-found : (bytes : List ℕ) (told : DnsRecord) → record_of bytes ≡ Ok told → IsMessage bytes told
unfolding record_of
message-found bytes told found =
    let (sections, read, rest) = behind-ok (sections_of bytes) _ told found in
    let (header, behind) = sections-whole bytes sections read in
    let are = sections-found bytes sections behind in
    rw (ok-is rest) (record {
      authority = map answer_of sections.authority;
      additional = map answer_of sections.additional;
      answers_from = sections.answers_from;
      authority_from = are.authority_from;
      additional_from = are.additional_from;
      header = header;
      says = refl;
      question_section = are.questions;
      answer_section = are.answers;
      authority_section = are.authority;
      additional_section = are.additional;
      questions = length-told question_of sections.questions (question_count bytes) are.question_number;
      answers = length-told answer_of sections.answers (answer_count bytes) are.answer_number;
      authorities = length-told answer_of sections.authority (authority_count bytes) are.authority_number;
      additions = length-told answer_of sections.additional (additional_count bytes) are.additional_number;
    })

-- sections behind one another are read
sections-only : (bytes : List ℕ) (questions : List Asked) (answers authority additional : List Resource) (to1 to2 to3 : ℕ)
    → several (question_at bytes) (question_count bytes) 12 ≡ Ok (questions, to1)
    → several (resource_at bytes) (answer_count bytes) to1 ≡ Ok (answers, to2)
    → several (resource_at bytes) (authority_count bytes) to2 ≡ Ok (authority, to3)
    → several (resource_at bytes) (additional_count bytes) to3 ≡ Ok (additional, length bytes)
    → sections_behind bytes ≡ Ok (record { questions = questions; answers_from = to1; answers = answers; authority = authority; additional = additional })
unfolding sections_behind
sections-only bytes questions answers authority additional to1 to2 to3 read1 read2 read3 read4 =
    rw read1 (rw read2 (rw read3 (rw read4 (grind (arith, nat_tests)))))

-- a header of 12 bytes isn't short
short-false : (len : ℕ) → 12 ≤ len → nat_lt len 12 ≡ false
short-false len whole = grind (arith, nat_tests)

-- each message is read, and it says nothing else
pub message-only : (bytes : List ℕ) (told : DnsRecord) → IsMessage bytes told → record_of bytes ≡ Ok told
unfolding record_of sections_of
message-only bytes told is =
    let (questions, read1, told1) = several-only (question_at bytes) (IsQuestion bytes) question_of (question-only bytes)
    told.questions 12 is.answers_from is.question_section in
    let (answers, read2, told2) = several-only (resource_at bytes) (IsAnswer bytes) answer_of (resource-only bytes)
    told.answers is.answers_from is.authority_from is.answer_section in
    let (authority, read3, told3) = several-only (resource_at bytes) (IsAnswer bytes) answer_of (resource-only bytes)
    is.authority is.authority_from is.additional_from is.authority_section in
    let (additional, read4, told4) = several-only (resource_at bytes) (IsAnswer bytes) answer_of (resource-only bytes)
    is.additional is.additional_from (length bytes) is.additional_section in
    let sections : Sections = record {
      questions = questions;
      answers_from = is.answers_from;
      answers = answers;
      authority = authority;
      additional = additional;
    } in
    let behind : sections_behind bytes ≡ Ok sections
    = sections-only bytes questions answers authority additional is.answers_from is.authority_from is.additional_from
    (rw (← is.questions) read1) (rw (← is.answers) read2) (rw (← is.authorities) read3) (rw (← is.additions) read4) in
    let whole : nat_lt (length bytes) 12 ≡ false = short-false (length bytes) is.header in
    rw whole (ap (λ (r : Result Sections DnsFault). r >>= λ sections. Ok (record_with bytes (map question_of sections.questions) (map answer_of sections.answers))) behind
    ∙ ap (λ (qs : List Question). Ok (record_with bytes qs (map answer_of answers))) told1
    ∙ ap (λ (as_told : List Answer). Ok (record_with bytes told.questions as_told)) told2
    ∙ ap (λ (t : DnsRecord). Ok t) (sym is.says))

-- ---- what is known of a message that was read

-- the sections of a message that was read
pub record SectionsRead (bytes : List ℕ) (answers : ℕ) : Type 0 where
  pub header : 12 ≤ length bytes
  pub sections : Sections
  pub read : sections_of bytes ≡ Ok sections
  pub authority_from : ℕ
  pub questions : several (question_at bytes) (question_count bytes) 12 ≡ Ok (sections.questions, answers)
  pub answers_read : several (resource_at bytes) (answer_count bytes) answers ≡ Ok (sections.answers, authority_from)

sections-known : (bytes : List ℕ) (sections : Sections) → sections_behind bytes ≡ Ok sections
    → (authority_from : ℕ) × (several (question_at bytes) (question_count bytes) 12 ≡ Ok (sections.questions, sections.answers_from))
    × (several (resource_at bytes) (answer_count bytes) sections.answers_from ≡ Ok (sections.answers, authority_from))
unfolding sections_behind
sections-known bytes sections found =
    let (questions, read1, rest1) = behind-ok (several (question_at bytes) (question_count bytes) 12) _ sections found in
    let (answers, read2, rest2) = behind-ok (several (resource_at bytes) (answer_count bytes) questions.1) _ sections rest1 in
    let (authority, read3, rest3) = behind-ok (several (resource_at bytes) (authority_count bytes) answers.1) _ sections rest2 in
    let (additional, read4, rest4) = behind-ok (several (resource_at bytes) (additional_count bytes) authority.1) _ sections rest3 in
    let (whole, sections_is) = ends-whole additional.1 (length bytes) (record {
      questions = questions.0;
      answers_from = questions.1;
      answers = answers.0;
      authority = authority.0;
      additional = additional.0;
    }) sections rest4 in
    rw sections_is (answers.1, read1, read2)

pub sections-read : (bytes : List ℕ) (answers : ℕ) → sections_end bytes ≡ Ok answers → SectionsRead bytes answers
sections-read bytes answers ends =
    let (sections, read, rest) = behind-ok (sections_of bytes) (λ sections. Ok sections.answers_from) answers (sym (sections-end bytes) ∙ ends) in
    let (header, behind) = sections-whole bytes sections read in
    let (authority_from, questions, answers_read) = sections-known bytes sections behind in
    let from : answers ≡ sections.answers_from = ok-is rest in
    record {
      header = header;
      sections = sections;
      read = read;
      authority_from = authority_from;
      questions = subst (λ (to : ℕ). several (question_at bytes) (question_count bytes) 12 ≡ Ok (sections.questions, to)) (sym from) questions;
      answers_read = subst (λ (to : ℕ). several (resource_at bytes) (answer_count bytes) to ≡ Ok (sections.answers, authority_from)) (sym from) answers_read;
    }

-- a message that was read says what its questions and answers say
pub record-known : (bytes : List ℕ) (from : ℕ) (questions : List Question) (answers : List Answer) → sections_end bytes ≡ Ok from
    → questions ≡ map question_of (parts_of (several (question_at bytes) (question_count bytes) 12))
    → answers ≡ map answer_of (parts_of (several (resource_at bytes) (answer_count bytes) from))
    → record_of bytes ≡ Ok (record_with bytes questions answers)
unfolding record_of
record-known bytes from questions answers ends asked told =
    let is = sections-read bytes from ends in
    ap (λ (r : Result Sections DnsFault). r >>= λ sections. Ok (record_with bytes (map question_of sections.questions) (map answer_of sections.answers))) is.read
    ∙ ap (λ (qs : List Question). Ok (record_with bytes qs (map answer_of is.sections.answers)))
    (sym (asked ∙ ap (λ (r : Result (List Asked × ℕ) DnsFault). map question_of (parts_of r)) is.questions))
    ∙ ap (λ (as_told : List Answer). Ok (record_with bytes questions as_told))
    (sym (told ∙ ap (λ (r : Result (List Resource × ℕ) DnsFault). map answer_of (parts_of r)) is.answers_read))

-- Where parts and sections end is what reading them leaves, without what they say.
use Rattle.std.proofs.Common.{◌≡◌, ℕ, zero, suc, ◌+◌, ◌-◌, ◌<◌, ◌==◌, nat_lt, if◌then◌else◌, Bool, true, false, List, ◌∷◌, length, map, IsOk, Result, Ok, Err, refl, ap, sym, ◌∙◌, arith}
use Rattle.zk_dns.specs.declared.fault.DnsFault.{DnsFault}
use Rattle.zk_dns.specs.declared.fault.DnsFault.TheVariants as fault
use Rattle.zk_dns.specs.declared.record.AnswerKind.{AnswerKind}
use Rattle.zk_dns.specs.Name.{◌>>=◌, Name, name_at, whole}
use Rattle.zk_dns.specs.Data.{data_at, number_at}
use Rattle.zk_dns.specs.Sections.{data_len, Reads, Sections, question_at, question_behind, question_count, question_with, answer_count, authority_count, additional_count, resource_at, resource_behind, resource_with, sections_behind, sections_of, several}
use Rattle.zk_dns.specs.Record.{answer_of, question_of, record_of, record_with}
use Rattle.zk_dns.specs.Ends.{all_end, end_of, judged, name_end_at, question_end, resource_end, sections_end, sections_end_behind}

-- ---- a number of parts

-- the parts behind one that was read
pub all_end-next : (ends : ℕ → Result ℕ DnsFault) (count passed place next : ℕ) → passed < count → ends place ≡ Ok next
    → all_end ends (count - passed) place ≡ all_end ends (count - (passed + 1)) next
unfolding all_end
all_end-next ends count passed place next more found =
    let left : count - passed ≡ suc (count - (passed + 1)) = omega arith in
    ap (λ (n : ℕ). all_end ends n place) left ∙ ap (λ (r : Result ℕ DnsFault). r >>= all_end ends (count - (passed + 1))) found

-- a part that can't be read
pub all_end-fault : (ends : ℕ → Result ℕ DnsFault) (count passed place : ℕ) (why : DnsFault) → passed < count → ends place ≡ Err why
    → all_end ends (count - passed) place ≡ Err why
unfolding all_end
all_end-fault ends count passed place why more found =
    let left : count - passed ≡ suc (count - (passed + 1)) = omega arith in
    ap (λ (n : ℕ). all_end ends n place) left ∙ ap (λ (r : Result ℕ DnsFault). r >>= all_end ends (count - (passed + 1))) found

-- no part more
pub all_end-none : (ends : ℕ → Result ℕ DnsFault) (count passed place : ℕ) → count - passed ≡ 0 → all_end ends (count - passed) place ≡ Ok place
unfolding all_end
all_end-none ends count passed place none = ap (λ (n : ℕ). all_end ends n place) none

-- ---- ends without content

-- what follows an end follows what was read
bind-end : {A B C : Type 0} (read : Result (A × ℕ) DnsFault) (end : Result ℕ DnsFault) → end_of read ≡ end
    → (f : ℕ → Result C DnsFault) (g : A × ℕ → Result B DnsFault) (k : B → Result C DnsFault)
    → ((x : A × ℕ) → f x.1 ≡ (g x >>= k)) → (end >>= f) ≡ ((read >>= g) >>= k)
bind-end (Err why) end end_is f g k same = ap (λ (r : Result ℕ DnsFault). r >>= f) (sym end_is)
bind-end (Ok x) end end_is f g k same = ap (λ (r : Result ℕ DnsFault). r >>= f) (sym end_is) ∙ same x

-- a number of parts ends where reading them does
pub several-end : {A : Type 0} (read : Reads A) (ends : ℕ → Result ℕ DnsFault) → ((place : ℕ) → end_of (read place) ≡ ends place)
    → (n place : ℕ) → end_of (several read n place) ≡ all_end ends n place
unfolding all_end several
several-end read ends same zero place = refl
several-end {A = A} read ends same (suc n) place =
    sym (bind-end (read place) (ends place) (same place) (all_end ends n)
    (λ first. several read n first.1 >>= λ others. Ok (first.0 ∷ others.0, others.1)) (λ found. Ok found.1)
    (λ first. sym (several-end read ends same n first.1) ∙ others-end first.0 (several read n first.1)))
  where
    others-end : (first : A) (others : Result (List A × ℕ) DnsFault)
        → end_of others ≡ end_of (others >>= λ others. Ok (first ∷ others.0, others.1))
    others-end first (Err why) = refl
    others-end first (Ok others) = refl

-- a question whose name was read ends behind its fields
question-end-behind : (no_fields : Bool) (bytes : List ℕ) (place : ℕ) (name : Name)
    → end_of (if no_fields then Err (fault.Short (length bytes)) else Ok (question_with bytes place name, name.next + 4))
    ≡ (if no_fields then Err (fault.Short (length bytes)) else Ok (name.next + 4))
question-end-behind true bytes place name = refl
question-end-behind false bytes place name = refl

-- a question ends where reading it does
question-end-by : (bytes : List ℕ) (place : ℕ) (read : Result Name DnsFault)
    → end_of (read >>= question_behind bytes place)
    ≡ ((read >>= λ name. Ok name.next)
    >>= λ fields. if nat_lt (length bytes) (fields + 4) then Err (fault.Short (length bytes)) else Ok (fields + 4))
unfolding question_behind
question-end-by bytes place (Err why) = refl
question-end-by bytes place (Ok name) = question-end-behind (nat_lt (length bytes) (name.next + 4)) bytes place name

pub question-end : (bytes : List ℕ) (place : ℕ) → end_of (question_at bytes place) ≡ question_end bytes place
unfolding question_at name_end_at
question-end bytes place = question-end-by bytes place (name_at bytes (whole bytes) place)

-- a record whose name was read ends where its data does
resource-end-behind : (no_fields no_data : Bool) (bytes : List ℕ) (place : ℕ) (name : Name) (what : Result AnswerKind DnsFault)
    → end_of (if no_fields then Err (fault.Short (length bytes)) else if no_data then Err (fault.Short (length bytes))
    else what >>= λ what. Ok (resource_with bytes place name what, name.next + 10 + data_len bytes name.next))
    ≡ (if no_fields then Err (fault.Short (length bytes)) else if no_data then Err (fault.Short (length bytes))
    else judged what >>= λ judged. Ok (name.next + 10 + data_len bytes name.next))
resource-end-behind true no_data bytes place name what = refl
resource-end-behind false true bytes place name what = refl
resource-end-behind false false bytes place name (Err why) = refl
resource-end-behind false false bytes place name (Ok what) = refl

-- a record ends where reading it does
resource-end-by : (bytes : List ℕ) (place : ℕ) (read : Result Name DnsFault)
    → end_of (read >>= resource_behind bytes place)
    ≡ ((read >>= λ name. Ok name.next)
    >>= λ fields. if nat_lt (length bytes) (fields + 10) then Err (fault.Short (length bytes))
    else if nat_lt (length bytes) (fields + 10 + data_len bytes fields) then Err (fault.Short (length bytes))
    else judged (data_at bytes (number_at 2 bytes fields) (number_at 2 bytes (fields + 2)) (fields + 10) (data_len bytes fields))
    >>= λ judged. Ok (fields + 10 + data_len bytes fields))
unfolding resource_behind
resource-end-by bytes place (Err why) = refl
resource-end-by bytes place (Ok name) =
    resource-end-behind (nat_lt (length bytes) (name.next + 10)) (nat_lt (length bytes) (name.next + 10 + data_len bytes name.next))
    bytes place name (data_at bytes (number_at 2 bytes name.next) (number_at 2 bytes (name.next + 2)) (name.next + 10) (data_len bytes name.next))

pub resource-end : (bytes : List ℕ) (place : ℕ) → end_of (resource_at bytes place) ≡ resource_end bytes place
unfolding resource_at name_end_at
resource-end bytes place = resource-end-by bytes place (name_at bytes (whole bytes) place)

-- all is read, or bytes are left
last-end : (whole : Bool) (sections : Sections) (end : ℕ)
    → (if whole then Ok sections.answers_from else Err (fault.Trailing end))
    ≡ ((if whole then Ok sections else Err (fault.Trailing end)) >>= λ sections. Ok sections.answers_from)
last-end true sections end = refl
last-end false sections end = refl

-- the same, behind the header
pub sections-end-behind : (bytes : List ℕ) → sections_end_behind bytes ≡ (sections_behind bytes >>= λ sections. Ok sections.answers_from)
unfolding sections_behind
sections-end-behind bytes =
    let k : Sections → Result ℕ DnsFault = λ sections. Ok sections.answers_from in
    let records = several-end (resource_at bytes) (resource_end bytes) (resource-end bytes) in
    bind-end _ _ (several-end (question_at bytes) (question_end bytes) (question-end bytes) (question_count bytes) 12) _ _ k (λ questions.
    bind-end _ _ (records (answer_count bytes) questions.1) _ _ k (λ answers.
    bind-end _ _ (records (authority_count bytes) answers.1) _ _ k (λ authority.
    bind-end _ _ (records (additional_count bytes) authority.1) _ _ k (λ additional.
    last-end (additional.1 == length bytes) (record {
      questions = questions.0;
      answers_from = questions.1;
      answers = answers.0;
      authority = authority.0;
      additional = additional.0;
    }) additional.1))))

-- the sections end where reading them does
pub sections-end : (bytes : List ℕ) → sections_end bytes ≡ (sections_of bytes >>= λ sections. Ok sections.answers_from)
unfolding sections_of
sections-end bytes =
    elim (nat_lt (length bytes) 12) as (λ short. (if short then Err (fault.Short (length bytes)) else sections_end_behind bytes)
    ≡ ((if short then Err (fault.Short (length bytes)) else sections_behind bytes) >>= λ sections. Ok sections.answers_from))
    [ true ↦ refl | false ↦ sections-end-behind bytes ]

-- ---- a record or a fault

-- where the sections end somewhere there is a record
pub record-ok : (bytes : List ℕ) (answers : ℕ) → sections_end bytes ≡ Ok answers → IsOk (record_of bytes)
unfolding record_of
record-ok bytes answers found = record-ok-by (sections_of bytes) (sym (sections-end bytes) ∙ found)
  where
    record-ok-by : (read : Result Sections DnsFault) → (read >>= λ sections. Ok sections.answers_from) ≡ Ok answers
        → IsOk (read >>= λ sections. Ok (record_with bytes (map question_of sections.questions) (map answer_of sections.answers)))
    record-ok-by (Err why) same = cc
    record-ok-by (Ok sections) same = refl

-- where they don't there is a fault, the same
pub record-fault : (bytes : List ℕ) (why : DnsFault) → sections_end bytes ≡ Err why → record_of bytes ≡ Err why
unfolding record_of
record-fault bytes why found = record-fault-by (sections_of bytes) (sym (sections-end bytes) ∙ found)
  where
    record-fault-by : (read : Result Sections DnsFault) → (read >>= λ sections. Ok sections.answers_from) ≡ Err why
        → (read >>= λ sections. Ok (record_with bytes (map question_of sections.questions) (map answer_of sections.answers))) ≡ Err why
    record-fault-by (Err other) same = cc
    record-fault-by (Ok sections) same = cc

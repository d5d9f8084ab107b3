-- What is known of names and parts that can be read.
use Rattle.std.proofs.Common.{◌≡◌, ◌≢◌, ℕ, suc, ◌+◌, ◌-◌, ◌<◌, ◌≤◌, MatchBool, if◌then◌else◌, Bool, true, false, List, [], ◌∷◌, ◌++◌, length, take, drop, map, is_ok, IsOk, Result, Ok, Err, refl, ap, sym, subst, ◌∙◌, arith, append-nil, append_assoc}
use Rattle.zk_dns.specs.declared.bound.Bound.{Bound}
use Rattle.zk_dns.specs.declared.name.RunEnd.{RunEnd}
use Rattle.zk_dns.specs.declared.fault.DnsFault.{DnsFault}
use Rattle.zk_dns.specs.declared.fault.DnsFault.TheVariants as fault
use Rattle.zk_dns.specs.declared.record.AnswerKind.{AnswerKind}
use Rattle.zk_dns.specs.Name.{◌>>=◌, Name, name_at, whole}
use Rattle.zk_dns.specs.Data.{data_at, number_at}
use Rattle.zk_dns.specs.Sections.{Asked, Reads, Resource, data_len, question_at, question_behind, question_with, resource_at, resource_behind, resource_with, several}
use Rattle.zk_dns.specs.Ends.{behind_ending, name_end_at, run_end_at}
use Rattle.std.specs.Borrow.{Bor}
use Rattle.zk_dns.specs.declared.parts.AnswerPart.{AnswerPart}
use Rattle.zk_dns.specs.declared.parts.QuestionPart.{QuestionPart}
use Rattle.zk_dns.specs.Parts.{answer_part, parts_of, question_part, slice_at}
use Rattle.zk_dns.proofs.NameLemmas.{left_of, name_end-begins, name_end-refused, told}
use Rattle.zk_dns.proofs.NameLaws.{behind-ok, lt-tells, ok-is}

-- what can be read was read
pub is-read : {A : Type 0} (read : Result A DnsFault) → IsOk read → (x : A) × (read ≡ Ok x)
is-read (Err why) ok = cc
is-read (Ok x) ok = (x, refl)

-- where reading goes on, what was before it can be read
pub read-before : {A B : Type 0} (read : Result A DnsFault) (f : A → Result B DnsFault) → IsOk (read >>= f) → IsOk read
read-before (Err why) f ok = cc
read-before (Ok x) f ok = refl

-- ---- names

-- a name that can be read has no fault in its first run
pub own-refused : (bytes : List ℕ) (bound : Bound) (place : ℕ) (why : DnsFault) → IsOk (name_at bytes bound place)
    → run_end_at bytes bound 0 place ≡ Err why → ⊥
unfolding name_end_at
own-refused bytes bound place why ok found =
    let (name, read) = is-read (name_at bytes bound place) ok in
    let ends : name_end_at bytes bound place ≡ Ok name.next = ap (λ (r : Result Name DnsFault). r >>= λ name. Ok name.next) read in
    let refused : name_end_at bytes bound place ≡ Err why = name_end-refused bytes bound place why found in
    apart (sym ends ∙ refused)
  where
    apart : {x : ℕ} → ◌≡◌ {A = Result ℕ DnsFault} (Ok x) (Err why) → ⊥
    apart same = cc

-- a place that is told, if a name can be read
told-ok : (next x : ℕ) (read : Result Name DnsFault) → told next read ≡ Ok x → x ≡ next
told-ok next x (Err why) same = cc
told-ok next x (Ok name) same = cc

-- a name that can be read ends behind its first run
pub own-end : (bytes : List ℕ) (bound : Bound) (place : ℕ) (end : RunEnd) → IsOk (name_at bytes bound place)
    → run_end_at bytes bound 0 place ≡ Ok end → name_end_at bytes bound place ≡ Ok (behind_ending bytes end.place)
unfolding name_end_at
own-end bytes bound place end ok found =
    let (name, read) = is-read (name_at bytes bound place) ok in
    let ends : name_end_at bytes bound place ≡ Ok name.next = ap (λ (r : Result Name DnsFault). r >>= λ name. Ok name.next) read in
    let begins : name_end_at bytes bound place ≡ told (behind_ending bytes end.place) (left_of bytes place end)
    = name_end-begins bytes bound place end found in
    ends ∙ ap (λ (next : ℕ). Ok next) (told-ok (behind_ending bytes end.place) name.next (left_of bytes place end) (sym begins ∙ ends))

-- a name that was read ends there
pub name-ends : (bytes : List ℕ) (bound : Bound) (place fields : ℕ) (name : Name) → name_at bytes bound place ≡ Ok name
    → name_end_at bytes bound place ≡ Ok fields → name.next ≡ fields
unfolding name_end_at
name-ends bytes bound place fields name read ends =
    same-place (sym (ap (λ (r : Result Name DnsFault). r >>= λ name. Ok name.next) read) ∙ ends)
  where
    same-place : ◌≡◌ {A = Result ℕ DnsFault} (Ok name.next) (Ok fields) → name.next ≡ fields
    same-place same = cc

-- ---- questions

-- a question that was read: its name, and fields that lie within the bytes
pub question-read : (bytes : List ℕ) (place : ℕ) (asked : Asked) (next : ℕ) → question_at bytes place ≡ Ok (asked, next)
    → (name : Name) × (name_at bytes (whole bytes) place ≡ Ok name) × (name.next + 4 ≤ length bytes)
    × (asked ≡ question_with bytes place name) × (next ≡ name.next + 4)
unfolding question_at question_behind
question-read bytes place asked next found =
    let (name, read, rest) = behind-ok (name_at bytes (whole bytes) place) (question_behind bytes place) (asked, next) found in
    let (within, asked_is, next_is) = question-read-by name _ (lt-tells (length bytes) (name.next + 4)) rest in
    (name, read, within, asked_is, next_is)
  where
    question-read-by : (name : Name) (short : Bool) → MatchBool short (length bytes < name.next + 4) (name.next + 4 ≤ length bytes)
        → if◌then◌else◌ {A = Result (Asked × ℕ) DnsFault} short (Err (fault.Short (length bytes)))
        (Ok (question_with bytes place name, name.next + 4)) ≡ Ok (asked, next)
        → (name.next + 4 ≤ length bytes) × (asked ≡ question_with bytes place name) × (next ≡ name.next + 4)
    question-read-by name true is same = cc
    question-read-by name false is same =
        let pair : (asked, next) ≡ (question_with bytes place name, name.next + 4) = ok-is same in
        (is, ap (λ (p : Asked × ℕ). p.0) pair, ap (λ (p : Asked × ℕ). p.1) pair)

-- the fields of a question that can be read lie within the bytes
pub question-within : (bytes : List ℕ) (place fields : ℕ) → IsOk (question_at bytes place)
    → name_end_at bytes (whole bytes) place ≡ Ok fields → fields + 4 ≤ length bytes
question-within bytes place fields ok ends =
    let (found, read) = is-read (question_at bytes place) ok in
    let (name, name_read, within, asked_is, next_is) = question-read bytes place found.0 found.1 read in
    omega (arith, within, name-ends bytes (whole bytes) place fields name name_read ends)

-- ---- records

-- a record that was read: its name, its data, and fields that lie within the bytes
pub resource-read : (bytes : List ℕ) (place : ℕ) (resource : Resource) (next : ℕ) → resource_at bytes place ≡ Ok (resource, next)
    → (name : Name) × (what : AnswerKind) × (name_at bytes (whole bytes) place ≡ Ok name)
    × (name.next + 10 + data_len bytes name.next ≤ length bytes)
    × (data_at bytes (number_at 2 bytes name.next) (number_at 2 bytes (name.next + 2)) (name.next + 10) (data_len bytes name.next) ≡ Ok what)
    × (resource ≡ resource_with bytes place name what) × (next ≡ name.next + 10 + data_len bytes name.next)
unfolding resource_at resource_behind
resource-read bytes place resource next found =
    let (name, read, rest) = behind-ok (name_at bytes (whole bytes) place) (resource_behind bytes place) (resource, next) found in
    let (what, within, said, resource_is, next_is) = resource-read-by name _ _ (lt-tells (length bytes) (name.next + 10))
    (lt-tells (length bytes) (name.next + 10 + data_len bytes name.next)) rest in
    (name, what, read, within, said, resource_is, next_is)
  where
    resource-read-by : (name : Name) (no_fields no_data : Bool)
        → MatchBool no_fields (length bytes < name.next + 10) (name.next + 10 ≤ length bytes)
        → MatchBool no_data (length bytes < name.next + 10 + data_len bytes name.next) (name.next + 10 + data_len bytes name.next ≤ length bytes)
        → if◌then◌else◌ {A = Result (Resource × ℕ) DnsFault} no_fields (Err (fault.Short (length bytes)))
        (if◌then◌else◌ {A = Result (Resource × ℕ) DnsFault} no_data (Err (fault.Short (length bytes)))
        (data_at bytes (number_at 2 bytes name.next) (number_at 2 bytes (name.next + 2)) (name.next + 10) (data_len bytes name.next)
        >>= λ what. Ok (resource_with bytes place name what, name.next + 10 + data_len bytes name.next))) ≡ Ok (resource, next)
        → (what : AnswerKind) × (name.next + 10 + data_len bytes name.next ≤ length bytes)
        × (data_at bytes (number_at 2 bytes name.next) (number_at 2 bytes (name.next + 2)) (name.next + 10) (data_len bytes name.next) ≡ Ok what)
        × (resource ≡ resource_with bytes place name what) × (next ≡ name.next + 10 + data_len bytes name.next)
    resource-read-by name true no_data fields is same = cc
    resource-read-by name false true fields is same = cc
    resource-read-by name false false fields is same =
        let (what, said, rest) = behind-ok
        (data_at bytes (number_at 2 bytes name.next) (number_at 2 bytes (name.next + 2)) (name.next + 10) (data_len bytes name.next)) _ (resource, next) same in
        let pair : (resource, next) ≡ (resource_with bytes place name what, name.next + 10 + data_len bytes name.next) = ok-is rest in
        (what, is, said, ap (λ (p : Resource × ℕ). p.0) pair, ap (λ (p : Resource × ℕ). p.1) pair)

-- the fields and the data of a record that can be read lie within the bytes
pub resource-within : (bytes : List ℕ) (place fields : ℕ) → IsOk (resource_at bytes place)
    → name_end_at bytes (whole bytes) place ≡ Ok fields → fields + 10 + data_len bytes fields ≤ length bytes
resource-within bytes place fields ok ends =
    let (found, read) = is-read (resource_at bytes place) ok in
    let (name, what, name_read, within, said, resource_is, next_is) = resource-read bytes place found.0 found.1 read in
    subst (λ (f : ℕ). f + 10 + data_len bytes f ≤ length bytes) (name-ends bytes (whole bytes) place fields name name_read ends) within

-- ---- several parts

-- several parts that can be read are the first of them and the others
pub several-next : {A : Type 0} (read : Reads A) (n place : ℕ) → is_ok (several read (suc n) place) ≡ true
    → (first : A) × (next : ℕ) × (read place ≡ Ok (first, next)) × (is_ok (several read n next) ≡ true)
    × (parts_of (several read (suc n) place) ≡ first ∷ parts_of (several read n next))
unfolding several
several-next {A = A} read n place ok =
    let (first, found) = is-read (read place) (read-before (read place) _ ok) in
    let more : (read place >>= λ first. several read n first.1 >>= λ others. Ok (first.0 ∷ others.0, others.1))
    ≡ (several read n first.1 >>= λ others. Ok (first.0 ∷ others.0, others.1))
    = ap (λ (r : Result (A × ℕ) DnsFault). r >>= λ first. several read n first.1 >>= λ others. Ok (first.0 ∷ others.0, others.1)) found in
    let behind = several-behind first.0 (several read n first.1) (sym (ap is_ok more) ∙ ok) in
    (first.0, first.1, found, behind.0, ap parts_of more ∙ behind.1)
  where
    several-behind : (first : A) (others : Result (List A × ℕ) DnsFault) → is_ok {T = List A × ℕ} (others >>= λ others. Ok (first ∷ others.0, others.1)) ≡ true
        → (is_ok others ≡ true) × (parts_of {A = A} (others >>= λ others. Ok (first ∷ others.0, others.1)) ≡ first ∷ parts_of others)
    several-behind first (Err why) ok = cc
    several-behind first (Ok others) ok = (refl, refl)

-- what an iterator gives and leaves that has several parts left
pub several-step : {A B : Type 0} (read : Reads A) (view : A → B) (left place : ℕ) (part : B) (behind : ℕ) → left ≢ 0
    → is_ok (several read left place) ≡ true
    → ((x : A) (next : ℕ) → read place ≡ Ok (x, next) → (part ≡ view x) × (behind ≡ next))
    → (is_ok (several read (left - 1) behind) ≡ true)
    × (map view (parts_of (several read left place)) ≡ part ∷ map view (parts_of (several read (left - 1) behind)))
several-step {A = A} {B = B} read view left place part behind some ok given =
    let count : left ≡ suc (left - 1) = omega arith in
    let (first, next, found, rest_ok, parts) = several-next read (left - 1) place (sym (ap (λ (n : ℕ). is_ok (several read n place)) count) ∙ ok) in
    let (part_is, behind_is) = given first next found in
    let to : ℕ → Type 0 = λ b. (is_ok (several read (left - 1) b) ≡ true)
    × (map view (parts_of (several read left place)) ≡ part ∷ map view (parts_of (several read (left - 1) b))) in
    subst to (sym behind_is) (
      rest_ok,
      ap (λ (n : ℕ). map view (parts_of (several read n place))) count
          ∙ ap (map view) parts
          ∙ ap (λ (y : B). y ∷ map view (parts_of (several read (left - 1) next))) (sym part_is),
    )

-- where several parts can be read, the first can
pub several-first : {A : Type 0} (read : Reads A) (left place : ℕ) → left ≢ 0 → is_ok (several read left place) ≡ true → IsOk (read place)
several-first read left place some ok =
    let count : left ≡ suc (left - 1) = omega arith in
    let (first, next, found, rest_ok, parts) = several-next read (left - 1) place (sym (ap (λ (n : ℕ). is_ok (several read n place)) count) ∙ ok) in
    rw found refl

-- no parts are left
pub several-none : {A B : Type 0} (read : Reads A) (view : A → B) (left place : ℕ) → left ≡ 0 → map view (parts_of (several read left place)) ≡ []
unfolding several
several-none read view left place none = rw none refl

-- a question by its fields
pub question-part-is : (bytes : List ℕ) (place fields : ℕ) (asked : Asked) (next : ℕ) → name_end_at bytes (whole bytes) place ≡ Ok fields
    → question_at bytes place ≡ Ok (asked, next)
    → (question_part asked ≡ record { name = place; qtype = number_at 2 bytes fields; qclass = number_at 2 bytes (fields + 2) }) × (next ≡ fields + 4)
question-part-is bytes place fields asked next ends found =
    let (name, name_read, within, asked_is, next_is) = question-read bytes place asked next found in
    let same : name.next ≡ fields = name-ends bytes (whole bytes) place fields name name_read ends in
    let made : ℕ → QuestionPart = λ f. record { name = place; qtype = number_at 2 bytes f; qclass = number_at 2 bytes (f + 2) } in (
      ap question_part asked_is
          ∙ ap made same,
      next_is ∙ ap (λ (f : ℕ). f + 4) same,
    )

-- a record by its fields
pub answer-part-is : (bytes : Bor (List ℕ)) (place fields : ℕ) (resource : Resource) (next : ℕ)
    → name_end_at bytes.now (whole bytes.now) place ≡ Ok fields → resource_at bytes.now place ≡ Ok (resource, next)
    → (answer_part bytes resource ≡ record {
      name = place;
      rtype = number_at 2 bytes.now fields;
      rclass = number_at 2 bytes.now (fields + 2);
      ttl = number_at 4 bytes.now (fields + 4);
      at = fields + 10;
      bytes = slice_at bytes (fields + 10) (data_len bytes.now fields);
    }) × (next ≡ fields + 10 + data_len bytes.now fields)
answer-part-is bytes place fields resource next ends found =
    let (name, what, name_read, within, said, resource_is, next_is) = resource-read bytes.now place resource next found in
    let same : name.next ≡ fields = name-ends bytes.now (whole bytes.now) place fields name name_read ends in
    let made : ℕ → AnswerPart = λ f. record {
      name = place;
      rtype = number_at 2 bytes.now f;
      rclass = number_at 2 bytes.now (f + 2);
      ttl = number_at 4 bytes.now (f + 4);
      at = f + 10;
      bytes = slice_at bytes (f + 10) (data_len bytes.now f);
    } in (
      ap (answer_part bytes) resource_is
          ∙ ap made same,
      next_is ∙ ap (λ (f : ℕ). f + 10 + data_len bytes.now f) same,
    )

-- the slice between two places
pub slice-between : (bytes : Bor (List ℕ)) (at len : ℕ)
    → ◌≡◌ {A = Bor (List ℕ)} (record { ref_ptr = (bytes.ref_ptr.0, at + bytes.ref_ptr.1); now = take (at + len - at) (drop at bytes.now) }) (slice_at bytes at len)
slice-between bytes at len =
    let offset : at + bytes.ref_ptr.1 ≡ bytes.ref_ptr.1 + at = omega arith in
    let count : at + len - at ≡ len = omega arith in
    λ i. record { ref_ptr = (bytes.ref_ptr.0, offset i); now = take (count i) (drop at bytes.now) }

-- what has been made of several parts, and one more
pub several-grown : {A B : Type 0} (read : Reads A) (view : A → B) (so_far : List B) (count passed place : ℕ) (part : B) (behind : ℕ) (all : List B)
    → passed < count → is_ok (several read (count - passed) place) ≡ true
    → so_far ++ map view (parts_of (several read (count - passed) place)) ≡ all
    → ((x : A) (next : ℕ) → read place ≡ Ok (x, next) → (part ≡ view x) × (behind ≡ next))
    → (is_ok (several read (count - (passed + 1)) behind) ≡ true)
    × ((so_far ++ part ∷ []) ++ map view (parts_of (several read (count - (passed + 1)) behind)) ≡ all)
several-grown {B = B} read view so_far count passed place part behind all more ok told given =
    let step = several-step read view (count - passed) place part behind (omega arith) ok given in
    let left : count - passed - 1 ≡ count - (passed + 1) = omega arith in (
      ap (λ (n : ℕ). is_ok (several read n behind)) (sym left) ∙ step.0,
      append_assoc so_far (part ∷ []) (map view (parts_of (several read (count - (passed + 1)) behind)))
          ∙ ap (λ (n : ℕ). so_far ++ part ∷ map view (parts_of (several read n behind))) (sym left)
          ∙ ap (λ (rest : List B). so_far ++ rest) (sym step.1)
          ∙ told,
    )

-- all has been made
pub several-made : {A B : Type 0} (read : Reads A) (view : A → B) (so_far : List B) (left place : ℕ) (all : List B) → left ≡ 0
    → so_far ++ map view (parts_of (several read left place)) ≡ all → so_far ≡ all
several-made {B = B} read view so_far left place all none told =
    sym (append-nil so_far) ∙ ap (λ (rest : List B). so_far ++ rest) (sym (several-none read view left place none)) ∙ told

-- Where names and parts end: what is left of reading them where their content isn't asked for.
use Rattle.std.specs.Prelude.{ℕ, zero, suc, ◌+◌, ◌==◌, ◌&&◌, not, Bool, true, false, if◌then◌else◌, List, length, nat_lt, is_some, Result, Ok, Err}
use Rattle.zk_dns.specs.declared.bound.Bound.{Bound}
use Rattle.zk_dns.specs.declared.fault.DnsFault.{DnsFault}
use Rattle.zk_dns.specs.declared.fault.DnsFault.TheVariants as fault
use Rattle.zk_dns.specs.declared.name.RunEnd.{RunEnd}
use Rattle.zk_dns.specs.declared.record.AnswerKind.{AnswerKind}
use Rattle.zk_dns.specs.Data.{data_at, number_at, strings_of}
use Rattle.zk_dns.specs.Sections.{additional_count, answer_count, authority_count, data_len, question_count}
use Rattle.zk_dns.specs.Name.{◌>>=◌, Run, byte_at, name_at, run_at, size_of, whole, within}

-- what ends a run, with the size of the name up to there
abbrev pub run_end_of : ℕ → Run → RunEnd
run_end_of size run = record { place = run.ending; size = size + size_of run.labels }

unfoldable pub run_end_at : List ℕ → Bound → ℕ → ℕ → Result RunEnd DnsFault
run_end_at bytes bound size place = run_at bytes bound size place >>= λ run. Ok (run_end_of size run)

-- the place behind the root or the pointer at a place
abbrev pub behind_ending : List ℕ → ℕ → ℕ
behind_ending bytes place = if byte_at bytes place == 0 then place + 1 else place + 2

-- the place behind a name's own bytes
unfoldable pub name_end_at : List ℕ → Bound → ℕ → Result ℕ DnsFault
name_end_at bytes bound place = name_at bytes bound place >>= λ name. Ok name.next

-- the place behind what was read
abbrev pub end_of : {A : Type 0} → Result (A × ℕ) DnsFault → Result ℕ DnsFault
end_of read = read >>= λ found. Ok found.1

-- whether data can be read
abbrev pub judged : Result AnswerKind DnsFault → Result (Unit {0}) DnsFault
judged read = read >>= λ what. Ok tt

-- the fault of data at a place, unless it is right
abbrev pub only_if : Bool → ℕ → Result (Unit {0}) DnsFault
only_if true at = Ok tt
only_if false at = Err (fault.Data at)

-- bytes are one string or more
abbrev pub are_strings : List ℕ → Bool
are_strings bytes = is_some (strings_of (length bytes) bytes) && not (length bytes == 0)

-- data at a place is a name from another place on
abbrev pub name_judged : List ℕ → ℕ → ℕ → ℕ → Result (Unit {0}) DnsFault
name_judged bytes at place end = name_end_at bytes (within at end) place >>= λ next. only_if (next == end) at

-- data at a place is two names and 20 bytes
abbrev pub soa_judged : List ℕ → ℕ → ℕ → Result (Unit {0}) DnsFault
soa_judged bytes at end =
    name_end_at bytes (within at end) at
    >>= λ between. name_end_at bytes (within at end) between
    >>= λ numbers. only_if (numbers + 20 == end) at

-- the place behind a number of parts, each of which ends where the next begins
unfoldable pub all_end : (ℕ → Result ℕ DnsFault) → ℕ → ℕ → Result ℕ DnsFault
all_end ends zero place = Ok place
all_end ends (suc n) place = ends place >>= all_end ends n

-- the place behind the question at a place
abbrev pub question_end : List ℕ → ℕ → Result ℕ DnsFault
question_end bytes place =
    name_end_at bytes (whole bytes) place
    >>= λ fields. if nat_lt (length bytes) (fields + 4) then Err (fault.Short (length bytes)) else Ok (fields + 4)

-- the place behind the record at a place
abbrev pub resource_end : List ℕ → ℕ → Result ℕ DnsFault
resource_end bytes place =
    name_end_at bytes (whole bytes) place
    >>= λ fields. if nat_lt (length bytes) (fields + 10) then Err (fault.Short (length bytes))
    else if nat_lt (length bytes) (fields + 10 + data_len bytes fields) then Err (fault.Short (length bytes))
    else judged (data_at bytes (number_at 2 bytes fields) (number_at 2 bytes (fields + 2)) (fields + 10) (data_len bytes fields))
    >>= λ judged. Ok (fields + 10 + data_len bytes fields)

-- the place behind the questions, where the sections behind a header can all be read
abbrev pub sections_end_behind : List ℕ → Result ℕ DnsFault
sections_end_behind bytes =
    all_end (question_end bytes) (question_count bytes) 12
    >>= λ answers. all_end (resource_end bytes) (answer_count bytes) answers
    >>= λ authority. all_end (resource_end bytes) (authority_count bytes) authority
    >>= λ additional. all_end (resource_end bytes) (additional_count bytes) additional
    >>= λ end. if end == length bytes then Ok answers else Err (fault.Trailing end)

abbrev pub sections_end : List ℕ → Result ℕ DnsFault
sections_end bytes = if nat_lt (length bytes) 12 then Err (fault.Short (length bytes)) else sections_end_behind bytes

-- Names as text, and how text grows by labels.
use Rattle.std.specs.Prelude.{◌≡◌, ◌⊎◌, ℕ, ◌+◌, List, [], ◌∷◌, ◌++◌, IsOk, Result, Ok}
use Rattle.std.specs.Str.{str_to_ascii_lowercase}
use Rattle.zk_dns.specs.declared.fault.DnsFault.{DnsFault}
use Rattle.zk_dns.specs.declared.parts.AnswerPart.{AnswerPart}
use Rattle.zk_dns.specs.Ends.{name_end_at}
use Rattle.zk_dns.specs.Name.{◌>>=◌, Name, Run, name_at, name_text, whole}

-- a name can be read at a place
abbrev pub HasName : List ℕ → ℕ → Type 0
HasName bytes place = IsOk (name_at bytes (whole bytes) place)

-- The names in data of class 1 can be read: of NS, CNAME and PTR at its place, of MX two bytes behind it, and of SOA at its
-- place and behind the first name.
pub record HasDataNames (bytes : List ℕ) (part : AnswerPart) : Type 0 where
  pub alone : part.rclass ≡ 1 → (part.rtype ≡ 2) ⊎ (part.rtype ≡ 5) ⊎ (part.rtype ≡ 12) → HasName bytes part.at
  pub exchange : part.rclass ≡ 1 → part.rtype ≡ 15 → HasName bytes (part.at + 2)
  pub primary : part.rclass ≡ 1 → part.rtype ≡ 6 → HasName bytes part.at
  pub mailbox : part.rclass ≡ 1 → part.rtype ≡ 6 → (behind : ℕ) → name_end_at bytes (whole bytes) part.at ≡ Ok behind → HasName bytes behind

-- the name at a place as text
unfoldable pub text_at : List ℕ → ℕ → Result (List ℕ) DnsFault
text_at bytes place = name_at bytes (whole bytes) place >>= λ name. Ok (name_text name.labels)

-- one more label in lower case, behind a dot where it is not the first
abbrev pub text_with : List ℕ → List ℕ → List ℕ
text_with [] label = str_to_ascii_lowercase label
text_with (byte ∷ text) label = (byte ∷ text) ++ 46 ∷ str_to_ascii_lowercase label

-- several more labels
abbrev pub text_with_all : List ℕ → List (List ℕ) → List ℕ
text_with_all text [] = text
text_with_all text (label ∷ labels) = text_with_all (text_with text label) labels

-- the text with the labels of a run, and the place of what ends it
abbrev pub labels_behind : List ℕ → Result Run DnsFault → Result (List ℕ × ℕ) DnsFault
labels_behind text read = read >>= λ run. Ok (text_with_all text run.labels, run.ending)

-- the text with the labels of a name
abbrev pub text_behind : List ℕ → Result Name DnsFault → Result (List ℕ) DnsFault
text_behind text read = read >>= λ name. Ok (text_with_all text name.labels)

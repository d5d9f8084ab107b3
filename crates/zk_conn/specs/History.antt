-- The history of a connection: Zeek's letters s h d a f r, each once a side, in upper case for the originator.
use Rattle.std.specs.Prelude.{◌≡◌, ◌≤◌, take, true, nat_eq, ℕ, Bool, not, ◌==◌, ◌&&◌, ◌||◌, nat_lt, List, [], ◌∷◌, ◌++◌, map, filter, fold, if◌then◌else◌}
use Rattle.std.specs.List.{list_any, IsDistinct}
use Rattle.zk_base.specs.declared.network.Side.{Side}
use Rattle.zk_base.specs.declared.network.Side.TheVariants.{Orig, Resp}
use Rattle.zk_conn.specs.declared.history.Letter.{Letter}
use Rattle.zk_conn.specs.declared.history.Letter.TheVariants.{Syn, SynAck, Data, Ack, Fin, Rst}
use Rattle.zk_conn.specs.declared.view.L4View.{L4View}
use Rattle.zk_conn.specs.Segment.{is_tcp, has_syn, has_ack, has_fin, has_rst}

-- the letter's ASCII code
abbrev pub letter_code : Side → Letter → ℕ
letter_code Orig Syn = 83
letter_code Orig SynAck = 72
letter_code Orig Data = 68
letter_code Orig Ack = 65
letter_code Orig Fin = 70
letter_code Orig Rst = 82
letter_code Resp Syn = 115
letter_code Resp SynAck = 104
letter_code Resp Data = 100
letter_code Resp Ack = 97
letter_code Resp Fin = 102
letter_code Resp Rst = 114

-- what a packet shows: the payload is the full one, and a UDP packet shows it in any case
abbrev pub shows : L4View → Letter → Bool
shows p Syn = has_syn p && not (has_ack p)
shows p SynAck = has_syn p && has_ack p
shows p Data = not (is_tcp p.proto) || (nat_lt 0 p.payload_len && not (has_rst p))
shows p Ack = has_ack p && (p.payload_len == 0) && not (has_syn p) && not (has_fin p) && not (has_rst p)
shows p Fin = has_fin p
shows p Rst = has_rst p

-- the order of one packet's letters
abbrev pub all_letters : List Letter
all_letters = Syn ∷ SynAck ∷ Data ∷ Ack ∷ Fin ∷ Rst ∷ []

-- the letters of one packet of a side
abbrev pub letters_of : Side → L4View → List ℕ
letters_of side p = map (letter_code side) (filter (shows p) all_letters)

-- the letters with one more, where it isn't among them
abbrev pub added : List ℕ → ℕ → List ℕ
added letters code = if list_any (λ other. other == code) letters then letters else letters ++ code ∷ []

-- each letter once, at its first place
abbrev pub firsts : List ℕ → List ℕ
firsts letters = fold added [] letters

-- the letters of both sides
abbrev pub all_codes : List ℕ
all_codes = map (letter_code Orig) all_letters ++ map (letter_code Resp) all_letters

-- letters of the sides, each once
pub record AreLetters (letters : List ℕ) : Type 0 where
  pub once : IsDistinct nat_eq letters
  pub among : (code : ℕ) → list_any (nat_eq code) letters ≡ true → list_any (nat_eq code) all_codes ≡ true

-- so many of the bytes are letters of the sides, each once
pub record IsHistory (bytes : List ℕ) (n : ℕ) : Type 0 where
  pub within : n ≤ 12
  pub letters : AreLetters (take n bytes)

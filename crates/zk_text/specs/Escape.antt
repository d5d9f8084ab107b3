-- The text of a string in a cell of a log: bytes that would be taken for something else are escaped (the Zeek manual, on log
-- files; that every byte from 0x7f on and a first `#` are escaped is this project's own).
use Rattle.std.specs.Prelude.{◌≡◌, ◌≢◌, ◌<◌, ◌≤◌, All, ℕ, ◌/◌, ◌%◌, Bool, true, false, ◌&&◌, ◌||◌, ◌==◌, nat_lt, nat_le, List, [], ◌∷◌, ◌++◌, codes, flat_map}
use Rattle.std.specs.Char.{digit_char}
use Rattle.std.specs.Str.{bytes_eq}

-- a byte as a backslash, an x and two digits of lower-case hex
abbrev pub escape : ℕ → List ℕ
escape byte = codes "\\x" ++ digit_char (byte / 16) ∷ digit_char (byte % 16) ∷ []

-- Bytes that are no printed ASCII, and the backslash; in a set or a vector the comma, which stands between two strings.
abbrev pub is_escaped : Bool → ℕ → Bool
is_escaped in_set byte = nat_lt byte 0x20 || nat_le 0x7f byte || (byte == 0x5c) || (in_set && (byte == 0x2c))

-- a byte, escaped or as it is
abbrev pub piece : Bool → ℕ → List ℕ
piece true byte = escape byte
piece false byte = byte ∷ []

abbrev pub byte_text : Bool → ℕ → List ℕ
byte_text in_set byte = piece (is_escaped in_set byte) byte

-- A string that begins like a line of the log's header, and those that stand for no value and for an empty one.
abbrev pub is_taken : List ℕ → Bool
is_taken [] = false
is_taken (first ∷ rest) = (first == 0x23) || bytes_eq (first ∷ rest) (codes "-") || bytes_eq (first ∷ rest) (codes "(empty)")

-- of those the first byte is escaped too
abbrev pub escaped : Bool → List ℕ → List ℕ
escaped in_set [] = []
escaped in_set (first ∷ rest) =
    piece (is_taken (first ∷ rest) || is_escaped in_set first) first ++ flat_map (byte_text in_set) rest

abbrev pub IsPrinted : ℕ → Type 0
IsPrinted byte = (0x20 ≤ byte) × (byte < 0x7f)

-- what a reader of the log may rely on in the text of a string: it is printed ASCII without the comma between two strings,
-- and is taken for nothing else
pub record IsCell (in_set : Bool) (cell : List ℕ) : Type 0 where
  pub printed : All IsPrinted cell
  pub apart : in_set ≡ true → All (λ byte. byte ≢ 0x2c) cell
  pub own : is_taken cell ≡ false

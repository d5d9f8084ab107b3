-- Strings at the front of a text (Zeek manual, Types, string).
use Rattle.std.specs.Prelude.{ℕ, ◌+◌, ◌*◌, Bool, true, false, not, ◌&&◌, ◌||◌, ◌==◌, if◌then◌else◌, List, [], ◌∷◌, length, drop, slice_index, Option, Some, None, option_map}
use Rattle.std.specs.Char.{is_digit, digit_value}
use Rattle.std.specs.Map.{lookup}
use Rattle.zk_tree.specs.declared.token.TokenKind.{TokenKind}
use Rattle.zk_tree.specs.declared.token.TokenKind.TheVariants as token
use Rattle.zk_token.specs.Fault.{Fault, BadByte, OpenString}
use Rattle.zk_token.specs.Items.{items_from, found_at}

-- The byte that stands behind a backslash, and the byte that both stand for: n (110), t (116), r (114),
-- a quote (34) and a backslash (92).
abbrev pub escapes : List (ℕ × ℕ)
escapes = (110, 10) ∷ (116, 9) ∷ (114, 13) ∷ (34, 34) ∷ (92, 92) ∷ []

-- the byte of the two hexadecimal digits behind a backslash and an x, and the length of the escape
abbrev pub hexadecimal_at : List ℕ → Option (ℕ × ℕ)
hexadecimal_at [] = None
hexadecimal_at (high ∷ []) = None
hexadecimal_at (high ∷ low ∷ rest) =
    if is_digit high 16 && is_digit low 16 then Some (16 * digit_value high + digit_value low, 4) else None

-- The byte of the escape whose backslash was read, and the length of the escape. An x (120) has two
-- hexadecimal digits behind it.
abbrev pub escape_at : List ℕ → Option (ℕ × ℕ)
escape_at [] = None
escape_at (byte ∷ rest) =
    if byte == 120 then hexadecimal_at rest else option_map (λ value. (value, 2)) (lookup (λ name. name == byte) escapes)

-- The byte of a string that the front of a text spells, and how many bytes spell it. A quote (34) and
-- an LF (10) spell none, and a backslash (92) begins an escape.
abbrev pub spelled_at : List ℕ → Option (ℕ × ℕ)
spelled_at [] = None
spelled_at (byte ∷ rest) =
    if byte == 34 || byte == 10 then None else if byte == 92 then escape_at rest else Some (byte, 1)

-- the bytes that the front of a text spells, and the place of the byte that spells no more
abbrev pub spelled_bytes : List ℕ → List ℕ × ℕ
spelled_bytes text = items_from (length text) (found_at spelled_at text) 0

-- the string whose opening quote was read, and its length with both quotes (34)
abbrev pub string_at : List ℕ → Option (TokenKind × ℕ)
string_at text =
    let found = spelled_bytes text in
    if slice_index text found.1 == 34 then Some (token.String found.0, 2 + found.1) else None

-- A quote (34) closes the string on its line, where a backslash (92) may have been read. It stands with the byte
-- behind it, whatever that is.
abbrev pub closes_after : Bool → List ℕ → Bool
closes_after escaped [] = false
closes_after escaped (byte ∷ rest) =
    if byte == 10 then false
    else if byte == 34 && not escaped then true
    else closes_after (byte == 92 && not escaped) rest

-- Why no string stands behind a quote at a place. Where it is closed, the backslash that begins no escape is
-- refused, and else the quote.
abbrev pub string_fault : ℕ → List ℕ → Fault
string_fault place text =
    let end = (spelled_bytes text).1 in
    if closes_after false (drop end text) then BadByte (place + 1 + end) else OpenString place

-- The lines of a text (RFC 9112, section 2.2): a line ends with LF, and a CR before it is no part of the line.
use Rattle.std.specs.Prelude.{ℕ, ◌-◌, Bool, true, false, not, ◌&&◌, ◌==◌, if◌then◌else◌, List, [], ◌∷◌, length, take, map, sum_by}
use Rattle.std.specs.List.{list_any, slice_split}
use Rattle.httparse.specs.Ascii.{line_feed, carriage_return}

abbrev pub is_empty : List ℕ → Bool
is_empty [] = true
is_empty (byte ∷ bytes) = false

-- the last byte is this one
abbrev pub ends_with_byte : ℕ → List ℕ → Bool
ends_with_byte wanted [] = false
ends_with_byte wanted (byte ∷ []) = byte == wanted
ends_with_byte wanted (byte ∷ next ∷ bytes) = ends_with_byte wanted (next ∷ bytes)

-- what stands before each line feed
abbrev pub before_feeds : List ℕ → List (List ℕ)
before_feeds text =
    let parts = slice_split (λ byte. byte == line_feed) text in
    take (length parts - 1) parts

-- a line from what stands before its line feed
abbrev pub line_of : List ℕ → List ℕ
line_of bytes = if ends_with_byte carriage_return bytes then take (length bytes - 1) bytes else bytes

-- the lines of a text that have their line end
abbrev pub lines : List ℕ → List (List ℕ)
lines text = map line_of (before_feeds text)

-- the text ends with a line end
abbrev pub ends_line : List ℕ → Bool
ends_line text = ends_with_byte line_feed text

abbrev pub last_is_empty : List (List ℕ) → Bool
last_is_empty [] = false
last_is_empty (line ∷ []) = is_empty line
last_is_empty (line ∷ next ∷ others) = last_is_empty (next ∷ others)

-- the text ends with an empty line
abbrev pub ends_section : List ℕ → Bool
ends_section text = ends_line text && last_is_empty (lines text)

-- the text ends with an empty line behind one that isn't empty
abbrev pub ends_head : List ℕ → Bool
ends_head text = ends_section text && list_any (λ line. not (is_empty line)) (lines text)

-- how many bytes the lines have
abbrev pub text_length : List ℕ → ℕ
text_length text = sum_by length (lines text)

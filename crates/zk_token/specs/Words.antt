-- Separators, names, attributes and loads at the front of a text (Zeek manual, Script Reference).
use Rattle.std.specs.Prelude.{ℕ, ◌+◌, Bool, false, not, ◌&&◌, ◌||◌, ◌==◌, if◌then◌else◌, List, [], ◌∷◌, take, drop, slice_index, Option, Some, None, codes}
use Rattle.std.specs.Char.{is_ascii_alphabetic, is_ascii_digit}
use Rattle.std.specs.List.{prefix_len}
use Rattle.std.specs.Str.{bytes_eq}
use Rattle.zk_tree.specs.declared.token.TokenKind.{TokenKind}
use Rattle.zk_tree.specs.declared.token.TokenKind.TheVariants as token

-- Separators ------------------------------------------------------------------------------------------------------

-- A byte that stands between tokens, in front of the rest: a blank (32), a tab (9), an LF (10), or a
-- CR (13) with an LF behind it. (`slice_index` is 0 past the end of a text, so no LF and no quote.)
abbrev pub separates : ℕ → List ℕ → Bool
separates byte rest = byte == 32 || byte == 9 || byte == 10 || (byte == 13 && slice_index rest 0 == 10)

-- a comment is open behind this byte: it goes from `#` (35) up to the LF (10)
abbrev pub comment_after : Bool → ℕ → Bool
comment_after comment byte = (comment || byte == 35) && not (byte == 10)

-- how many bytes of separators and comments stand at the front of a text, where a comment may be open
abbrev pub separators_after : Bool → List ℕ → ℕ
separators_after comment [] = 0
separators_after comment (byte ∷ rest) =
    if comment_after comment byte || separates byte rest then 1 + separators_after (comment_after comment byte) rest else 0

abbrev pub separators : List ℕ → ℕ
separators text = separators_after false text

-- Names -----------------------------------------------------------------------------------------------------------

-- a letter or `_` (95)
abbrev pub begins_name : ℕ → Bool
begins_name byte = is_ascii_alphabetic byte || byte == 95

-- a letter, a digit or `_`
abbrev pub goes_on_name : ℕ → Bool
goes_on_name byte = begins_name byte || is_ascii_digit byte

-- a word begins with a letter or `_`
abbrev pub begins_word : List ℕ → Bool
begins_word [] = false
begins_word (byte ∷ rest) = begins_name byte

-- how many letters, digits and `_` stand at the front of a text
abbrev pub word_len : List ℕ → ℕ
word_len text = prefix_len goes_on_name text

-- the length of `::` (58, 58) and a word at the front of a text, or 0
abbrev pub member_len : List ℕ → ℕ
member_len [] = 0
member_len (first ∷ []) = 0
member_len (first ∷ second ∷ rest) = if first == 58 && second == 58 && begins_word rest then 2 + word_len rest else 0

-- the length of the name at the front of a text that begins a word: one word, or two joined by `::`
abbrev pub name_len : List ℕ → ℕ
name_len text = word_len text + member_len (drop (word_len text) text)

abbrev pub name_at : List ℕ → Option (TokenKind × ℕ)
name_at text = Some (token.Name (take (name_len text) text), name_len text)

-- the attribute whose `&` was read, in front of a name, and its length with the `&`
abbrev pub attribute_at : List ℕ → Option (TokenKind × ℕ)
attribute_at text = Some (token.Attribute (take (name_len text) text), 1 + name_len text)

-- Loads -----------------------------------------------------------------------------------------------------------

-- a blank (32) or a tab (9)
abbrev pub is_blank : ℕ → Bool
is_blank byte = byte == 32 || byte == 9

-- how many bytes stand before the next blank or line end, or before the end of the text
abbrev pub unseparated_len : List ℕ → ℕ
unseparated_len [] = 0
unseparated_len (byte ∷ rest) = if separates byte rest then 0 else 1 + unseparated_len rest

-- The load of the file whose name stands behind blanks, and its length with them and with `@load` (64, 108, 111, 97, 100).
-- Neither may be empty.
abbrev pub file_at : List ℕ → Option (TokenKind × ℕ)
file_at text =
    let blanks = prefix_len is_blank text in
    let file = drop blanks text in
    if blanks == 0 || unseparated_len file == 0 then None
    else Some (token.Load (take (unseparated_len file) file), 5 + blanks + unseparated_len file)

abbrev pub load_at : List ℕ → Option (TokenKind × ℕ)
load_at text = if bytes_eq (take 5 text) (codes "@load") then file_at (drop 5 text) else None

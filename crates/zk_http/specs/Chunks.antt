-- A chunked body (RFC 9112, section 7.1).
use Rattle.std.specs.Prelude.{ℕ, zero, suc, ◌+◌, ◌-◌, Bool, true, ◌&&◌, ◌==◌, nat_lt, nat_le, if◌then◌else◌, List, [], ◌∷◌, length, take, drop, take_while, Option, None, Some, bytes_eq}
use Rattle.std.specs.List.{list_all}
use Rattle.std.specs.Char.{is_ascii_hexdigit}
use Rattle.httparse.specs.Ascii.{carriage_return, line_feed, semicolon}
use Rattle.httparse.specs.Grammar.{is_ows, is_extension_byte, ChunkLine, print_chunk_line, chunk_size}
use Rattle.zk_http.specs.declared.units.Reason.TheVariants.{ChunkBad}
use Rattle.zk_http.specs.Heads.{head_limit}
use Rattle.zk_http.specs.Lines.{line_of, ends_line, ends_section}
use Rattle.zk_http.specs.Reads.{Waits, Reads, ◌>>=◌, gives, refuses, any_places, exactly, until}

-- ---- the line before a chunk, by the grammar that `httparse` states

abbrev pub extension_of : List ℕ → Option (List ℕ)
extension_of [] = None
extension_of (first ∷ text) = if first == semicolon then Some text else Some (first ∷ text)

-- the parts of a line: its digits, the white space behind them, and the rest
abbrev pub chunk_line_of : List ℕ → ChunkLine
chunk_line_of line =
    let digits = take_while is_ascii_hexdigit line in
    let pad = take_while is_ows (drop (length digits) line) in
    record { digits = digits; pad = pad; extension = extension_of (drop (length digits + length pad) line) }

abbrev pub is_extension : Option (List ℕ) → Bool
is_extension None = true
is_extension (Some text) = list_all is_extension_byte text

abbrev pub is_chunk_line : ChunkLine → Bool
is_chunk_line line =
    nat_lt 0 (length line.digits) && nat_le (length line.digits) 16 && list_all is_ascii_hexdigit line.digits
    && list_all is_ows line.pad
    && is_extension line.extension

-- the size of the chunk line of these parts, if they are one and its print is the text
abbrev pub size_if : ChunkLine → List ℕ → Option ℕ
size_if line text = if is_chunk_line line && bytes_eq (print_chunk_line line) text then Some (chunk_size line) else None

-- the size that a whole text tells, if it is a chunk line
unfoldable pub size_of : List ℕ → Option ℕ
size_of text = size_if (chunk_line_of (line_of (take (length text - 1) text))) text

abbrev pub size_or_bad : Option ℕ → Reads ℕ
size_or_bad None = refuses ChunkBad
size_or_bad (Some size) = gives size

-- the longest chunk line
abbrev pub chunk_line_limit : ℕ
chunk_line_limit = 4096

abbrev pub chunk_line : Reads ℕ
chunk_line = until ends_line chunk_line_limit ChunkBad >>= λ text. size_or_bad (size_of text)

-- ---- bodies

-- how many places a body has, and how many of them are gaps
pub record Amount : Type 0 where
  pub body : ℕ
  pub gap : ℕ

abbrev pub more : ℕ → ℕ → Amount → Amount
more places gaps amount = record { body = amount.body + places; gap = amount.gap + gaps }

abbrev pub line_break : Reads ℕ
line_break = exactly carriage_return ChunkBad >>= λ _. exactly line_feed ChunkBad

-- the lines behind the last chunk, up to an empty one
abbrev pub trailer : Reads (List ℕ)
trailer = until ends_section head_limit ChunkBad

-- what follows a chunk line: the chunk and what goes on behind it, or the trailer behind the last chunk, of size 0
abbrev pub chunk : (Amount → Reads Amount) → Amount → ℕ → Reads Amount
chunk others amount zero = trailer >>= λ _. gives amount
chunk others amount (suc n) = any_places (suc n) >>= λ gaps. line_break >>= λ _. others (more (suc n) gaps amount)

-- at most so many chunks
abbrev pub chunks : ℕ → Amount → Reads Amount
chunks zero amount places = Waits 0
chunks (suc count) amount places = (chunk_line >>= chunk (chunks count) amount) places

-- a chunk takes at least a place
unfoldable pub chunked : Amount → Reads Amount
chunked amount places = chunks (length places + 1) amount places

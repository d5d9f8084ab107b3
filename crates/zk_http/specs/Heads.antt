-- The head that a text is, by the grammar that `httparse` states: the tree of its parts, where that is a head of the grammar
-- and its print is the text.
use Rattle.std.specs.Prelude.{ℕ, ◌-◌, Bool, ◌&&◌, ◌==◌, nat_lt, nat_le, if◌then◌else◌, List, [], ◌∷◌, length, take, drop, map, slice_index, Option, None, Some, bytes_eq}
use Rattle.std.specs.List.{list_all, before_first, after_first, prefix_len}
use Rattle.std.specs.Str.{is_utf8}
use Rattle.std.specs.Char.{is_ascii_digit}
use Rattle.httparse.specs.Ascii.{carriage_return, digit_zero, space, colon}
use Rattle.httparse.specs.Grammar.{LineEnd, crlf, lf, Field, is_value_byte, is_uri_byte, is_token, RequestHead, print_request, ResponseHead, print_response, reason_phrase, status_code, field_value}
use Rattle.zk_base.specs.declared.network.Side.{Side}
use Rattle.zk_base.specs.declared.network.Side.TheVariants.{Orig, Resp}
use Rattle.zk_http.specs.declared.units.Head.{Head}
use Rattle.zk_http.specs.declared.units.Reason.TheVariants.{HeadTooLong, HeadBad, TooManyHeaders}
use Rattle.zk_http.specs.declared.units.Start.TheVariants.{Request, Response}
use Rattle.zk_http.specs.Lines.{is_empty, ends_with_byte, line_of, before_feeds, ends_head}
use Rattle.zk_http.specs.Reads.{Reads, gives, refuses, until, ◌>>=◌}

-- ---- the parts of a text

-- the line end behind these bytes
abbrev pub line_end : List ℕ → LineEnd
line_end bytes = if ends_with_byte carriage_return bytes then crlf else lf

abbrev pub before : ℕ → List ℕ → List ℕ
before byte line = before_first (λ other. other == byte) line

abbrev pub behind : ℕ → List ℕ → List ℕ
behind byte line = after_first (λ other. other == byte) line

-- the lines of a head with what is between them
pub record Parts : Type 0 where
  pub blank : List LineEnd
  pub start : List ℕ
  pub start_end : LineEnd
  pub fields : List Field
  pub last : LineEnd

abbrev pub field_of : List ℕ → Field
field_of bytes = record { name = before colon (line_of bytes); raw = behind colon (line_of bytes); end = line_end bytes }

-- the first of the lines, and nothing where there is none
abbrev pub first_of : List (List ℕ) → List ℕ
first_of [] = []
first_of (first ∷ others) = first

-- how many lines at the front are empty, of what stands before the line feeds
abbrev pub blank_count : List (List ℕ) → ℕ
blank_count raws = prefix_len (λ bytes. is_empty (line_of bytes)) raws

abbrev pub from_start : List (List ℕ) → List (List ℕ)
from_start raws = drop (blank_count raws) raws

-- how many lines stand between the start line and the empty line at the end
abbrev pub header_count : List (List ℕ) → ℕ
header_count others = length others - 2

-- the parts of a head with these empty lines at the front, and these from the start line on
abbrev pub parts_behind : List (List ℕ) → List (List ℕ) → Parts
parts_behind blanks others = record {
  blank = map line_end blanks;
  start = line_of (first_of others);
  start_end = line_end (first_of others);
  fields = map field_of (take (header_count others) (drop 1 others));
  last = line_end (first_of (drop (length others - 1) others));
}

abbrev pub parts_in : List (List ℕ) → Parts
parts_in raws = parts_behind (take (blank_count raws) raws) (from_start raws)

abbrev pub header_lines : List ℕ → ℕ
header_lines text = header_count (from_start (before_feeds text))

abbrev pub parts_of : List ℕ → Parts
parts_of text = parts_in (before_feeds text)

-- where the minor version stands in `HTTP/1.x`
abbrev pub minor_of : List ℕ → ℕ
minor_of version = slice_index version 7 - digit_zero

abbrev pub request_of : Parts → RequestHead
request_of parts = record {
  blank = parts.blank;
  method = before space parts.start;
  target = before space (behind space parts.start);
  minor = minor_of (behind space (behind space parts.start));
  line_end = parts.start_end;
  fields = parts.fields;
  last = parts.last;
}

-- the reason phrase behind a version and a code of three digits, which take 12 bytes
abbrev pub reason_of : List ℕ → Option (List ℕ)
reason_of line = if nat_le (length line) 12 then None else Some (drop 13 line)

abbrev pub response_of : Parts → ResponseHead
response_of parts = record {
  blank = parts.blank;
  minor = minor_of parts.start;
  digits = take 3 (drop 9 parts.start);
  reason = reason_of parts.start;
  line_end = parts.start_end;
  fields = parts.fields;
  last = parts.last;
}

-- ---- the grammar's conditions on the parts, as tests

abbrev pub is_field : Field → Bool
is_field field = is_token field.name && list_all is_value_byte field.raw

abbrev pub is_request : RequestHead → Bool
is_request head =
    is_token head.method
    && nat_lt 0 (length head.target) && list_all is_uri_byte head.target && is_utf8 head.target
    && nat_le head.minor 1
    && list_all is_field head.fields

abbrev pub is_response : ResponseHead → Bool
is_response head =
    nat_le head.minor 1
    && (length head.digits == 3) && list_all is_ascii_digit head.digits
    && list_all is_value_byte (reason_phrase head.reason)
    && list_all is_field head.fields

-- ---- heads

abbrev pub headers_of : List Field → List (List ℕ × List ℕ)
headers_of fields = map (λ field. (field.name, field_value field)) fields

abbrev pub request_head : RequestHead → Head
request_head head = record {
  start = Request head.method head.target head.minor;
  headers = headers_of head.fields;
}

abbrev pub response_head : ResponseHead → Head
response_head head = record {
  start = Response head.minor (status_code head) (reason_phrase head.reason);
  headers = headers_of head.fields;
}

-- the head of these parts, if they are one and its print is the text
abbrev pub request_if : RequestHead → List ℕ → Option Head
request_if head text = if is_request head && bytes_eq (print_request head) text then Some (request_head head) else None

abbrev pub response_if : ResponseHead → List ℕ → Option Head
response_if head text = if is_response head && bytes_eq (print_response head) text then Some (response_head head) else None

-- the head of a request or of a response that a whole text is, if it is one
unfoldable pub head_of : Side → List ℕ → Option Head
head_of Orig text = request_if (request_of (parts_of text)) text
head_of Resp text = response_if (response_of (parts_of text)) text

abbrev pub head_or_bad : Option Head → Reads Head
head_or_bad None = refuses HeadBad
head_or_bad (Some head) = gives head

-- the longest head, and the longest trailer
abbrev pub head_limit : ℕ
head_limit = 65536

abbrev pub judge : Side → List ℕ → Reads Head
judge side text = if nat_lt 100 (header_lines text) then refuses TooManyHeaders else head_or_bad (head_of side text)

-- a head with the empty lines before it (RFC 9112, section 2.2)
abbrev pub head : Side → Reads Head
head side = until ends_head head_limit HeadTooLong >>= judge side

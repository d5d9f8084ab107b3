-- What follows a head (RFC 9112, section 6.3).
use Rattle.std.specs.Prelude.{ℕ, ◌+◌, Bool, true, false, not, ◌&&◌, ◌||◌, ◌==◌, nat_le, if◌then◌else◌, List, [], ◌∷◌, length, map, flat_map, fold, codes, Option, None, Some, bytes_eq}
use Rattle.std.specs.List.{list_all, list_any, slice_split}
use Rattle.std.specs.Char.{is_ascii_digit}
use Rattle.std.specs.Str.{str_eq_ignore_ascii_case}
use Rattle.std.specs.Str.Parse.{digits_value}
use Rattle.httparse.specs.Ascii.{comma}
use Rattle.httparse.specs.Grammar.{trim_ows}
use Rattle.zk_http.specs.declared.body.Asked as ask
use Rattle.zk_http.specs.declared.body.Asked.TheVariants as asked
use Rattle.zk_http.specs.declared.body.Body.{Body}
use Rattle.zk_http.specs.declared.body.Body.TheVariants.{Empty, Length, Chunked, ToEnd, Tunnels, Unknown}
use Rattle.zk_http.specs.declared.units.Head.{Head}
use Rattle.zk_http.specs.declared.units.Reason.TheVariants.{LengthBad, CodingBad}
use Rattle.zk_http.specs.declared.units.Start.{Start}
use Rattle.zk_http.specs.declared.units.Start.TheVariants.{Request, Response}
use Rattle.zk_http.specs.Lines.{is_empty}

-- ---- header fields

-- a header field has this name, in any case
abbrev pub is_named : List ℕ → List ℕ × List ℕ → Bool
is_named name header = str_eq_ignore_ascii_case header.0 name

abbrev pub has : List ℕ → Head → Bool
has name head = list_any (is_named name) head.headers

-- the elements between the commas of a value, without the white space around them (RFC 9110, section 5.6.1)
abbrev pub elements_in : List ℕ → List (List ℕ)
elements_in value = map trim_ows (slice_split (λ byte. byte == comma) value)

-- those of what is left of a value, if anything is
abbrev pub elements_left : Option (List ℕ) → List (List ℕ)
elements_left None = []
elements_left (Some value) = elements_in value

-- how many bytes and ends are left of a value, if anything is
abbrev pub left_length : Option (List ℕ) → ℕ
left_length None = 0
left_length (Some value) = length value + 1

-- those of a header field, where it has the name
abbrev pub elements_if : List ℕ → List ℕ × List ℕ → List (List ℕ)
elements_if name header = if is_named name header then elements_in header.1 else []

-- those of all fields of this name, in order
abbrev pub elements_of : List ℕ → List (List ℕ × List ℕ) → List (List ℕ)
elements_of name headers = flat_map (elements_if name) headers

-- the last element that isn't empty: an element that is empty doesn't count (RFC 9110, section 5.6.1.2)
abbrev pub last_element : List ℕ → List (List ℕ) → List ℕ
last_element before elements = fold (λ last element. if is_empty element then last else element) before elements

abbrev pub is_length : List ℕ → Bool
is_length element = not (is_empty element) && nat_le (length element) 18 && list_all is_ascii_digit element

-- the number that 1 to 18 decimal digits write
abbrev pub length_of : List ℕ → Option ℕ
length_of element = if is_length element then Some (digits_value 10 element) else None

abbrev pub is_number : ℕ → Option ℕ → Bool
is_number number None = false
is_number number (Some other) = other == number

abbrev pub has_length : ℕ → List ℕ → Bool
has_length number element = is_number number (length_of element)

-- the first of some elements, and nothing where there is none
abbrev pub first_or_none : List (List ℕ) → List ℕ
first_or_none [] = []
first_or_none (element ∷ others) = element

-- the one number that they all are
abbrev pub one_of : Option ℕ → List (List ℕ) → Option ℕ
one_of None elements = None
one_of (Some number) elements = if list_all (has_length number) elements then Some number else None

abbrev pub one_length : List (List ℕ) → Option ℕ
one_length elements = one_of (length_of (first_or_none elements)) elements

abbrev pub of_length : Option ℕ → Body
of_length None = Unknown LengthBad
of_length (Some number) = Length number

-- the body by the last transfer coding
abbrev pub by_coding : List ℕ → Body → Body
by_coding coding not_chunked = if str_eq_ignore_ascii_case coding (codes "chunked") then Chunked else not_chunked

-- the body by its header fields: without a coding or a length it is the one that is given
abbrev pub by_fields : Body → Body → Head → Body
by_fields not_chunked without head =
    if has (codes "Transfer-Encoding") head then by_coding (last_element [] (elements_of (codes "Transfer-Encoding") head.headers)) not_chunked
    else if has (codes "Content-Length") head then of_length (one_length (elements_of (codes "Content-Length") head.headers))
    else without

-- ---- start lines

abbrev pub asked_by_method : List ℕ → ask.Asked
asked_by_method method =
    if bytes_eq method (codes "HEAD") then asked.Head
    else if bytes_eq method (codes "CONNECT") then asked.Connect
    else asked.Other

-- how a request bears on its response
abbrev pub asked_by : Start → ask.Asked
asked_by (Request method target minor) = asked_by_method method
asked_by (Response minor code reason) = asked.Other

abbrev pub is_head : ask.Asked → Bool
is_head asked.Head = true
is_head asked.Connect = false
is_head asked.Other = false

abbrev pub is_connect : ask.Asked → Bool
is_connect asked.Head = false
is_connect asked.Connect = true
is_connect asked.Other = false

abbrev pub code_of : Start → ℕ
code_of (Request method target minor) = 0
code_of (Response minor code reason) = code

abbrev pub is_within : ℕ → ℕ → ℕ → Bool
is_within low high n = nat_le low n && nat_le n high

-- the response is no answer yet (RFC 9110, section 15.2), but for 101, which switches protocols
abbrev pub is_interim : Head → Bool
is_interim head = is_within 100 199 (code_of head.start) && not (code_of head.start == 101)

-- the response makes the connection a tunnel
abbrev pub makes_tunnel : ask.Asked → Head → Bool
makes_tunnel request head = (code_of head.start == 101) || (is_connect request && is_within 200 299 (code_of head.start))

-- the response has no body
abbrev pub is_bare : ask.Asked → Head → Bool
is_bare request head = is_interim head || (code_of head.start == 204) || (code_of head.start == 304) || is_head request

-- the stream of the request waits for its response
abbrev pub holds_back : Head → Bool
holds_back head = is_connect (asked_by head.start) || has (codes "Upgrade") head

-- ---- bodies

abbrev pub request_body : Head → Body
request_body head = by_fields (Unknown CodingBad) Empty head

abbrev pub response_body : ask.Asked → Head → Body
response_body request head =
    if makes_tunnel request head then Tunnels
    else if is_bare request head then Empty
    else by_fields ToEnd ToEnd head

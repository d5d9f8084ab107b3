-- The head of a text is the one that the grammar of `httparse` has for it.
use Rattle.std.proofs.Common.{◌≡◌, ℕ, zero, suc, ◌+◌, ◌-◌, ◌<◌, ◌≤◌, Bool, true, false, cond, List, [], ◌∷◌, ◌++◌, length, take, drop, map, Option, None, Some, refl, sym, ap, subst, ◌∙◌, arith, append_assoc, length-append, length-take, length-drop}
use Rattle.std.specs.Prelude.{Result, Ok, Err, OnErr, not, ◌&&◌, ◌==◌, All, bytes_eq, nat_lt, nat_le}
use Rattle.std.specs.List.{flat_map, list_all, slice_split}
use Rattle.std.specs.Str.{is_utf8}
use Rattle.std.proofs.lemmas.Bool.Decides.{Decides-eqb, nat_tests}
use Rattle.std.proofs.lemmas.Bool.{and_parts, leb-true, le-leb, ltb-true, lt-ltb}
use Rattle.std.proofs.lemmas.List.{append-nil, length-map}
use Rattle.std.proofs.lemmas.List.Splits.{length-slice_split}
use Rattle.std.proofs.lemmas.List.Sums.{count_by-le-length, AllPass-from_list_all, list_all-from_AllPass}
use Rattle.std.proofs.lemmas.Slice.Eq.{bytes_eq-Decides}
use Rattle.std.proofs.lemmas.Str.{IsUtf8-from_is_utf8, is_utf8-from_IsUtf8}
use Rattle.std.specs.Char.{is_ascii_digit}
use Rattle.std.proofs.Math.Seq.{take-append_seam, drop-append_seam, drop-append-add}
use Rattle.httparse.specs.Ascii.{line_feed, carriage_return, space, colon, digit_zero}
use Rattle.httparse.specs.Grammar.{LineEnd, crlf, lf, print_end, print_blank, print_version, Field, print_field, IsField, IsToken, is_token, is_token_byte, is_uri_byte, is_value_byte, AllPass, print_section, RequestHead, print_request, IsRequestHead, ReadsRequest, ResponseHead, print_response, IsResponseHead, ReadsResponse, print_reason, reason_phrase, HasNoRequest, HasNoResponse}
use Rattle.httparse.specs.Outcome.{IfComplete, OnPartial}
use Rattle.httparse.specs.declared.Error.{Error}
use Rattle.httparse.specs.declared.Status.{Status}
use Rattle.httparse.specs.declared.Status.TheVariants.{Complete, Partial}
use Rattle.httparse.specs.declared.spans.HeaderSpan.{HeaderSpan}
use Rattle.httparse.specs.declared.spans.RequestSpans.{RequestSpans}
use Rattle.httparse.specs.declared.spans.ResponseSpans.{ResponseSpans}
use Rattle.httparse.specs.Spans.{span_bytes, header_bytes, IsRequestOf, IsResponseOf, RequestOverflows, ResponseOverflows}
use Rattle.httparse.proofs.GrammarLemmas.{request_unique, response_unique}
use Rattle.zk_http.specs.declared.units.Start.TheVariants.{Request, Response}
use Rattle.zk_base.specs.declared.network.Side.TheVariants.{Orig, Resp}
use Rattle.zk_http.specs.declared.units.Head.{Head}
use Rattle.zk_http.specs.Lines.{is_empty, line_of, before_feeds}
use Rattle.zk_http.specs.Heads.{line_end, Parts, field_of, blank_count, header_lines, parts_behind, parts_in, parts_of, request_of, reason_of, response_of, is_field, is_request, is_response, request_head, response_head, request_if, response_if, head_of}
use Rattle.zk_http.proofs.LineLaws.{NoneIs, none_passing, none_both, before_byte, behind_byte, Line, print_line, IsLine, AreLines, raw, before_feeds-print, line_of-raw, line_end-raw}

-- ---- the parts of lines

-- each line is empty
abbrev AllEmpty : List (List ℕ) → Type 0
AllEmpty [] = Unit {0}
AllEmpty (raw ∷ others) = (is_empty (line_of raw) ≡ true) × AllEmpty others

-- the empty lines at the front are counted
blanks_counted : (blanks others : List (List ℕ)) (start : List ℕ) → AllEmpty blanks → is_empty (line_of start) ≡ false
    → blank_count (blanks ++ start ∷ others) ≡ length blanks
blanks_counted [] others start empty is = rw is refl
blanks_counted (blank ∷ blanks) others start empty is = rw (empty.0, blanks_counted blanks others start empty.1 is) (omega arith)

parts_behind-lines : (blanks fields : List (List ℕ)) (start last : List ℕ)
    → parts_behind blanks (start ∷ (fields ++ last ∷ [])) ≡ record {
      blank = map line_end blanks;
      start = line_of start;
      start_end = line_end start;
      fields = map field_of fields;
      last = line_end last;
    }
parts_behind-lines blanks fields start last =
    let headers : length (start ∷ (fields ++ last ∷ [])) - 2 ≡ length fields = omega (arith, length-append fields (last ∷ [])) in
    let all : length (start ∷ (fields ++ last ∷ [])) - 1 ≡ suc (length fields) = omega (arith, length-append fields (last ∷ [])) in
    rw (headers, all, take-append_seam fields (last ∷ []), drop-append_seam fields (last ∷ [])) refl

parts_in-lines : (blanks fields : List (List ℕ)) (start last : List ℕ) → AllEmpty blanks → is_empty (line_of start) ≡ false
    → parts_in (blanks ++ start ∷ (fields ++ last ∷ [])) ≡ record {
      blank = map line_end blanks;
      start = line_of start;
      start_end = line_end start;
      fields = map field_of fields;
      last = line_end last;
    }
parts_in-lines blanks fields start last empty is =
    let others = start ∷ (fields ++ last ∷ []) in
    ap (λ n. parts_behind (take n (blanks ++ others)) (drop n (blanks ++ others))) (blanks_counted blanks (fields ++ last ∷ []) start empty is)
    ∙ ap (λ (front : List (List ℕ)). parts_behind front (drop (length blanks) (blanks ++ others))) (take-append_seam blanks others)
    ∙ ap (parts_behind blanks) (drop-append_seam blanks others)
    ∙ parts_behind-lines blanks fields start last

-- ---- a head that is printed line by line

abbrev blank_line : LineEnd → Line
blank_line end = record { bytes = []; end = end }

abbrev field_line : Field → Line
field_line field = record { bytes = field.name ++ colon ∷ field.raw; end = field.end }

abbrev head_lines : Parts → List Line
head_lines parts =
    map blank_line parts.blank ++ (record { bytes = parts.start; end = parts.start_end }) ∷ (map field_line parts.fields ++ blank_line parts.last ∷ [])

-- the test of the grammar fails at this byte, so the byte is none of a name
token_without : (byte : ℕ) → is_token_byte byte ≡ false → (bytes : List ℕ) → IsToken bytes → NoneIs byte bytes
token_without byte fails bytes is = none_passing is_token_byte byte fails bytes is.1

no_feed_in_token : is_token_byte line_feed ≡ false
unfolding is_token_byte
no_feed_in_token = refl

no_cr_in_token : is_token_byte carriage_return ≡ false
unfolding is_token_byte
no_cr_in_token = refl

no_space_in_token : is_token_byte space ≡ false
unfolding is_token_byte
no_space_in_token = refl

no_colon_in_token : is_token_byte colon ≡ false
unfolding is_token_byte
no_colon_in_token = refl

field_is_line : (field : Field) → IsField field → IsLine (field_line field)
field_is_line field is = (
  none_both line_feed field.name (colon ∷ field.raw) (token_without line_feed no_feed_in_token field.name is.name)
      (refl, none_passing is_value_byte line_feed refl field.raw is.raw),
  none_both carriage_return field.name (colon ∷ field.raw) (token_without carriage_return no_cr_in_token field.name is.name)
      (refl, none_passing is_value_byte carriage_return refl field.raw is.raw),
)

blanks_are_lines : (ends : List LineEnd) (others : List Line) → AreLines others → AreLines (map blank_line ends ++ others)
blanks_are_lines [] others are = are
blanks_are_lines (end ∷ ends) others are = ((tt, tt), blanks_are_lines ends others are)

fields_are_lines : (fields : List Field) (others : List Line) → All IsField fields → AreLines others → AreLines (map field_line fields ++ others)
fields_are_lines [] others all are = are
fields_are_lines (field ∷ fields) others all are =
    (field_is_line field (all 0 field (omega arith)), fields_are_lines fields others (λ k d lt. all (suc k) d (omega arith)) are)

blanks_empty : (ends : List LineEnd) → AllEmpty (map raw (map blank_line ends))
blanks_empty [] = tt
blanks_empty (crlf ∷ ends) = (refl, blanks_empty ends)
blanks_empty (lf ∷ ends) = (refl, blanks_empty ends)

blank_ends : (ends : List LineEnd) → map line_end (map raw (map blank_line ends)) ≡ ends
blank_ends [] = refl
blank_ends (crlf ∷ ends) = ap (λ others. crlf ∷ others) (blank_ends ends)
blank_ends (lf ∷ ends) = ap (λ others. lf ∷ others) (blank_ends ends)

field_of-raw : (field : Field) → IsField field → field_of (raw (field_line field)) ≡ field
field_of-raw field is =
    let line = field_is_line field is in
    let none = token_without colon no_colon_in_token field.name is.name in
    rw (
      line_of-raw (field_line field) line,
      line_end-raw (field_line field) line,
      before_byte colon field.name field.raw none,
      behind_byte colon field.name field.raw none,
    ) refl

fields_of-raw : (fields : List Field) → All IsField fields → map field_of (map raw (map field_line fields)) ≡ fields
fields_of-raw [] all = refl
fields_of-raw (field ∷ fields) all =
    rw (field_of-raw field (all 0 field (omega arith)), fields_of-raw fields (λ k d lt. all (suc k) d (omega arith))) refl

head_is_lines : (parts : Parts) → IsLine (record { bytes = parts.start; end = parts.start_end }) → All IsField parts.fields → AreLines (head_lines parts)
head_is_lines parts start fields =
    blanks_are_lines parts.blank _ (start, fields_are_lines parts.fields (blank_line parts.last ∷ []) fields ((tt, tt), tt))

map_both : {A B : Type 0} (of : A → B) (xs ys : List A) → map of (xs ++ ys) ≡ map of xs ++ map of ys
map_both of [] ys = refl
map_both of (x ∷ xs) ys = ap (λ rest. of x ∷ rest) (map_both of xs ys)

pub parts_of-print : (parts : Parts) → IsLine (record { bytes = parts.start; end = parts.start_end }) → is_empty parts.start ≡ false → All IsField parts.fields
    → parts_of (flat_map print_line (head_lines parts)) ≡ parts
parts_of-print parts start filled fields =
    let line : Line = record { bytes = parts.start; end = parts.start_end } in
    let last : Line = blank_line parts.last in
    let blanks = map raw (map blank_line parts.blank) in
    let headers = map raw (map field_line parts.fields) in
    let all : map raw (head_lines parts) ≡ blanks ++ raw line ∷ (headers ++ raw last ∷ []) =
    map_both raw (map blank_line parts.blank) (line ∷ (map field_line parts.fields ++ last ∷ []))
    ∙ ap (λ rest. blanks ++ raw line ∷ rest) (map_both raw (map field_line parts.fields) (last ∷ [])) in
    ap parts_in (before_feeds-print (head_lines parts) (head_is_lines parts start fields) ∙ all)
    ∙ parts_in-lines blanks headers (raw line) (raw last) (blanks_empty parts.blank) (ap is_empty (line_of-raw line start) ∙ filled)
    ∙ rw (blank_ends parts.blank, line_of-raw line start, line_end-raw line start, fields_of-raw parts.fields fields, line_end-raw last (tt, tt)) refl

-- no head has more fields than its text has lines
fields_counted : (text : List ℕ) → length (parts_of text).fields ≤ header_lines text
fields_counted text = simp (length-map, length-take) (omega arith)

-- ---- requests

blanks_print : (ends : List LineEnd) (others : List Line) → flat_map print_line (map blank_line ends ++ others) ≡ print_blank ends ++ flat_map print_line others
blanks_print [] others = refl
blanks_print (end ∷ ends) others =
    ap (λ rest. print_end end ++ rest) (blanks_print ends others) ∙ sym (append_assoc (print_end end) (print_blank ends) (flat_map print_line others))

fields_print : (fields : List Field) (last : LineEnd) → flat_map print_line (map field_line fields ++ blank_line last ∷ []) ≡ print_section fields last
fields_print [] last = append-nil (print_end last)
fields_print (field ∷ fields) last =
    ap (λ rest. print_field field ++ rest) (fields_print fields last)
    ∙ sym (append_assoc (print_field field) (flat_map print_field fields) (print_end last))

head_print : (parts : Parts) → flat_map print_line (head_lines parts)
    ≡ print_blank parts.blank ++ ((parts.start ++ print_end parts.start_end) ++ print_section parts.fields parts.last)
head_print parts =
    blanks_print parts.blank _
    ∙ ap (λ rest. print_blank parts.blank ++ ((parts.start ++ print_end parts.start_end) ++ rest)) (fields_print parts.fields parts.last)

abbrev request_parts : RequestHead → Parts
request_parts head = record {
  blank = head.blank;
  start = head.method ++ space ∷ (head.target ++ space ∷ print_version head.minor);
  start_end = head.line_end;
  fields = head.fields;
  last = head.last;
}

cons_append : (byte : ℕ) (xs ys : List ℕ) → (byte ∷ xs) ++ ys ≡ byte ∷ (xs ++ ys)
cons_append byte xs ys = refl

request_regrouped : (blank method target version end section : List ℕ)
    → blank ++ method ++ space ∷ target ++ space ∷ version ++ end ++ section
    ≡ blank ++ (((method ++ space ∷ (target ++ space ∷ version)) ++ end) ++ section)
request_regrouped blank method target version end section = simp (append_assoc, cons_append)

pub request_print : (head : RequestHead) → print_request head ≡ flat_map print_line (head_lines (request_parts head))
unfolding print_request
request_print head =
    request_regrouped (print_blank head.blank) head.method head.target (print_version head.minor) (print_end head.line_end) (print_section head.fields head.last)
    ∙ sym (head_print (request_parts head))

-- of bytes that are known it is computed that none is this one
none_computed : (byte : ℕ) (bytes : List ℕ) → list_all (λ b. not (b == byte)) bytes ≡ true → NoneIs byte bytes
none_computed byte [] all = tt
none_computed byte (first ∷ others) all =
    let parts = and_parts (not (first == byte)) (list_all (λ b. not (b == byte)) others) all in
    (not_true (first == byte) parts.0, none_computed byte others parts.1)
  where
    not_true : (same : Bool) → not same ≡ true → same ≡ false
    not_true true is = sym is
    not_true false is = refl

version_feed : (minor : ℕ) → minor ≤ 1 → NoneIs line_feed (print_version minor)
version_feed zero le = none_computed line_feed (print_version 0) refl
version_feed (suc zero) le = none_computed line_feed (print_version 1) refl
version_feed (suc (suc n)) le = absurd (omega arith)

version_cr : (minor : ℕ) → minor ≤ 1 → NoneIs carriage_return (print_version minor)
version_cr zero le = none_computed carriage_return (print_version 0) refl
version_cr (suc zero) le = none_computed carriage_return (print_version 1) refl
version_cr (suc (suc n)) le = absurd (omega arith)

request_line : (head : RequestHead) → IsRequestHead head → IsLine (record { bytes = (request_parts head).start; end = head.line_end })
request_line head is = (
  none_both line_feed head.method _ (token_without line_feed no_feed_in_token head.method is.method)
      (refl, none_both line_feed head.target _ (none_passing is_uri_byte line_feed refl head.target is.target.1) (refl, version_feed head.minor is.minor)),
  none_both carriage_return head.method _ (token_without carriage_return no_cr_in_token head.method is.method)
      (refl, none_both carriage_return head.target _ (none_passing is_uri_byte carriage_return refl head.target is.target.1) (refl, version_cr head.minor is.minor)),
)

request_again : (head : RequestHead) → IsRequestHead head → request_of (request_parts head) ≡ head
request_again head is =
    let method = token_without space no_space_in_token head.method is.method in
    let target = none_passing is_uri_byte space refl head.target is.target.1 in
    let minor : (digit_zero + head.minor) - digit_zero ≡ head.minor = omega arith in
    rw (
      before_byte space head.method (head.target ++ space ∷ print_version head.minor) method,
      behind_byte space head.method (head.target ++ space ∷ print_version head.minor) method,
      before_byte space head.target (print_version head.minor) target,
      behind_byte space head.target (print_version head.minor) target,
      minor,
    ) refl

filled_start : (xs : List ℕ) (byte : ℕ) (ys : List ℕ) → is_empty (xs ++ byte ∷ ys) ≡ false
filled_start [] byte ys = refl
filled_start (x ∷ xs) byte ys = refl

request_of-print : (head : RequestHead) → IsRequestHead head → request_of (parts_of (print_request head)) ≡ head
request_of-print head is =
    ap (λ text. request_of (parts_of text)) (request_print head)
    ∙ ap request_of (parts_of-print (request_parts head) (request_line head is) (filled_start head.method space _) is.fields)
    ∙ request_again head is

-- ---- the conditions of the grammar, as tests and as facts

is_token-true : (bytes : List ℕ) → is_token bytes ≡ true → IsToken bytes
is_token-true bytes is =
    let parts = and_parts (nat_lt 0 (length bytes)) (list_all is_token_byte bytes) is in
    (ltb-true 0 (length bytes) parts.0, AllPass-from_list_all is_token_byte bytes parts.1)

token-is : (bytes : List ℕ) → IsToken bytes → is_token bytes ≡ true
token-is bytes is = rw (lt-ltb 0 (length bytes) is.0) (list_all-from_AllPass is_token_byte bytes is.1)

is_field-true : (field : Field) → is_field field ≡ true → IsField field
is_field-true field is =
    let parts = and_parts (is_token field.name) (list_all is_value_byte field.raw) is in
    record { name = is_token-true field.name parts.0; raw = AllPass-from_list_all is_value_byte field.raw parts.1 }

field-is : (field : Field) → IsField field → is_field field ≡ true
field-is field is = rw (token-is field.name is.name) (list_all-from_AllPass is_value_byte field.raw is.raw)

fields-true : (fields : List Field) → list_all is_field fields ≡ true → All IsField fields
fields-true fields all k d lt = is_field-true _ (AllPass-from_list_all is_field fields all k d lt)

fields-are : (fields : List Field) → All IsField fields → list_all is_field fields ≡ true
fields-are fields all = list_all-from_AllPass is_field fields (λ k d lt. field-is _ (all k d lt))

is_request-true : (head : RequestHead) → is_request head ≡ true → IsRequestHead head
is_request-true head is =
    let fields = and_parts _ (list_all is_field head.fields) is in
    let minor = and_parts _ (nat_le head.minor 1) fields.0 in
    let text = and_parts _ (is_utf8 head.target) minor.0 in
    let target = and_parts _ (list_all is_uri_byte head.target) text.0 in
    let method = and_parts (is_token head.method) (nat_lt 0 (length head.target)) target.0 in
    record {
      method = is_token-true head.method method.0;
      target = (ltb-true 0 (length head.target) method.1, AllPass-from_list_all is_uri_byte head.target target.1);
      target_text = IsUtf8-from_is_utf8 head.target text.1;
      minor = leb-true head.minor 1 minor.1;
      fields = fields-true head.fields fields.1;
    }

request-is : (head : RequestHead) → IsRequestHead head → is_request head ≡ true
request-is head is =
    rw (
      token-is head.method is.method,
      lt-ltb 0 (length head.target) is.target.0,
      list_all-from_AllPass is_uri_byte head.target is.target.1,
      is_utf8-from_IsUtf8 head.target is.target_text,
      le-leb head.minor 1 is.minor,
      fields-are head.fields is.fields,
    ) refl

bytes_same : (bytes : List ℕ) → bytes_eq bytes bytes ≡ true
bytes_same bytes = (bytes_eq-Decides bytes bytes).1 refl

-- what stands where a test passes
then_some : {A : Type 0} (test : Bool) (value found : A) → cond test (Some value) None ≡ Some found → (test ≡ true) × (value ≡ found)
then_some true value found is = (refl, cc)
then_some false value found is = absurd (cc)

-- a text that is a head of the grammar
pub request_read : (text : List ℕ) (head : RequestHead) → ReadsRequest text head [] → head_of Orig text ≡ Some (request_head head)
unfolding head_of
request_read text head reads =
    let same : text ≡ print_request head = reads.1 ∙ append-nil (print_request head) in
    subst (λ text. head_of Orig text ≡ Some (request_head head)) (sym same)
    (ap (λ parts. request_if parts (print_request head)) (request_of-print head reads.0)
    ∙ rw (request-is head reads.0, bytes_same (print_request head)) refl)

-- and no other is one
pub request_found : (text : List ℕ) (found : Head) → head_of Orig text ≡ Some found
    → (head : RequestHead) × ReadsRequest text head [] × (found ≡ request_head head) × (length head.fields ≤ header_lines text)
unfolding head_of
request_found text found is =
    let head = request_of (parts_of text) in
    let both = then_some (is_request head && bytes_eq (print_request head) text) (request_head head) found is in
    let tests = and_parts (is_request head) (bytes_eq (print_request head) text) both.0 in
    let print : print_request head ≡ text = (bytes_eq-Decides (print_request head) text).0 tests.1 in
    (head, (is_request-true head tests.0, sym print ∙ sym (append-nil (print_request head))), sym both.1, fields_counted text)

-- ---- responses

abbrev response_parts : ResponseHead → Parts
response_parts head = record {
  blank = head.blank;
  start = print_version head.minor ++ space ∷ (head.digits ++ print_reason head.reason);
  start_end = head.line_end;
  fields = head.fields;
  last = head.last;
}

response_regrouped : (blank version digits reason end section : List ℕ)
    → blank ++ version ++ space ∷ digits ++ reason ++ end ++ section
    ≡ blank ++ (((version ++ space ∷ (digits ++ reason)) ++ end) ++ section)
response_regrouped blank version digits reason end section = simp (append_assoc, cons_append)

response_print : (head : ResponseHead) → print_response head ≡ flat_map print_line (head_lines (response_parts head))
unfolding print_response
response_print head =
    response_regrouped (print_blank head.blank) (print_version head.minor) head.digits (print_reason head.reason) (print_end head.line_end) (print_section head.fields head.last)
    ∙ sym (head_print (response_parts head))

none_of_reason : (byte : ℕ) (reason : Option (List ℕ)) → (space == byte) ≡ false → is_value_byte byte ≡ false → AllPass is_value_byte (reason_phrase reason)
    → NoneIs byte (print_reason reason)
none_of_reason byte None apart fails all = tt
none_of_reason byte (Some phrase) apart fails all = (apart, none_passing is_value_byte byte fails phrase all)

status_line_without : (byte minor : ℕ) (digits : List ℕ) (reason : Option (List ℕ)) → NoneIs byte (print_version minor) → (space == byte) ≡ false
    → NoneIs byte digits → NoneIs byte (print_reason reason) → NoneIs byte (print_version minor ++ space ∷ (digits ++ print_reason reason))
status_line_without byte minor digits reason version apart code phrase =
    none_both byte (print_version minor) (space ∷ (digits ++ print_reason reason)) version (apart, none_both byte digits (print_reason reason) code phrase)

response_line : (head : ResponseHead) → IsResponseHead head → IsLine (record { bytes = (response_parts head).start; end = head.line_end })
response_line head is = (
  status_line_without line_feed head.minor head.digits head.reason (version_feed head.minor is.minor) refl
      (none_passing is_ascii_digit line_feed refl head.digits is.digits.1) (none_of_reason line_feed head.reason refl refl is.reason),
  status_line_without carriage_return head.minor head.digits head.reason (version_cr head.minor is.minor) refl
      (none_passing is_ascii_digit carriage_return refl head.digits is.digits.1) (none_of_reason carriage_return head.reason refl refl is.reason),
)

reason_again : (minor : ℕ) (digits : List ℕ) (reason : Option (List ℕ)) → length digits ≡ 3
    → reason_of (print_version minor ++ space ∷ (digits ++ print_reason reason)) ≡ reason
reason_again minor digits None three =
    let short : length (print_version minor ++ space ∷ (digits ++ [])) ≤ 12 = omega (arith, length-append digits []) in
    rw (le-leb (length (print_version minor ++ space ∷ (digits ++ []))) 12 short) refl
reason_again minor digits (Some phrase) three =
    let line = print_version minor ++ space ∷ (digits ++ space ∷ phrase) in
    let long : nat_le (length line) 12 ≡ false = longer (length line) (omega (arith, length-append digits (space ∷ phrase))) in
    let behind : drop 4 (digits ++ space ∷ phrase) ≡ phrase =
    ap (λ n. drop (n + 1) (digits ++ space ∷ phrase)) (sym three) ∙ drop-append-add digits (space ∷ phrase) 1 in
    ap (λ few. cond few None (Some (drop 13 line))) long ∙ ap (λ text. Some text) behind
  where
    longer : (n : ℕ) → 12 < n → nat_le n 12 ≡ false
    longer n lt = grind (arith, nat_tests)

response_again : (head : ResponseHead) → IsResponseHead head → response_of (response_parts head) ≡ head
response_again head is =
    let minor : (digit_zero + head.minor) - digit_zero ≡ head.minor = omega arith in
    let code : take 3 (head.digits ++ print_reason head.reason) ≡ head.digits =
    ap (λ n. take n (head.digits ++ print_reason head.reason)) (sym is.digits.0) ∙ take-append_seam head.digits (print_reason head.reason) in
    rw (minor, code, reason_again head.minor head.digits head.reason is.digits.0) refl

response_of-print : (head : ResponseHead) → IsResponseHead head → response_of (parts_of (print_response head)) ≡ head
response_of-print head is =
    ap (λ text. response_of (parts_of text)) (response_print head)
    ∙ ap response_of (parts_of-print (response_parts head) (response_line head is) refl is.fields)
    ∙ response_again head is

is_response-true : (head : ResponseHead) → is_response head ≡ true → IsResponseHead head
is_response-true head is =
    let fields = and_parts _ (list_all is_field head.fields) is in
    let reason = and_parts _ (list_all is_value_byte (reason_phrase head.reason)) fields.0 in
    let digits = and_parts _ (list_all is_ascii_digit head.digits) reason.0 in
    let count = and_parts (nat_le head.minor 1) (length head.digits == 3) digits.0 in
    record {
      minor = leb-true head.minor 1 count.0;
      digits = ((Decides-eqb (length head.digits) 3).0 count.1, AllPass-from_list_all is_ascii_digit head.digits digits.1);
      reason = AllPass-from_list_all is_value_byte (reason_phrase head.reason) reason.1;
      fields = fields-true head.fields fields.1;
    }

response-is : (head : ResponseHead) → IsResponseHead head → is_response head ≡ true
response-is head is =
    rw (
      le-leb head.minor 1 is.minor,
      (Decides-eqb (length head.digits) 3).1 is.digits.0,
      list_all-from_AllPass is_ascii_digit head.digits is.digits.1,
      list_all-from_AllPass is_value_byte (reason_phrase head.reason) is.reason,
      fields-are head.fields is.fields,
    ) refl

-- a text that is a head of the grammar
pub response_read : (text : List ℕ) (head : ResponseHead) → ReadsResponse text head [] → head_of Resp text ≡ Some (response_head head)
unfolding head_of
response_read text head reads =
    let same : text ≡ print_response head = reads.1 ∙ append-nil (print_response head) in
    subst (λ text. head_of Resp text ≡ Some (response_head head)) (sym same)
    (ap (λ parts. response_if parts (print_response head)) (response_of-print head reads.0)
    ∙ rw (response-is head reads.0, bytes_same (print_response head)) refl)

-- and no other is one
pub response_found : (text : List ℕ) (found : Head) → head_of Resp text ≡ Some found
    → (head : ResponseHead) × ReadsResponse text head [] × (found ≡ response_head head) × (length head.fields ≤ header_lines text)
unfolding head_of
response_found text found is =
    let head = response_of (parts_of text) in
    let both = then_some (is_response head && bytes_eq (print_response head) text) (response_head head) found is in
    let tests = and_parts (is_response head) (bytes_eq (print_response head) text) both.0 in
    let print : print_response head ≡ text = (bytes_eq-Decides (print_response head) text).0 tests.1 in
    (head, (is_response-true head tests.0, sym print ∙ sym (append-nil (print_response head))), sym both.1, fields_counted text)

-- ---- what `httparse` answers

pub nothing_found : (found : Option Head) → ((head : Head) → found ≡ Some head → ⊥) → None ≡ found
nothing_found None never = refl
nothing_found (Some head) never = absurd (never head refl)

drop_all : (text : List ℕ) → drop (length text) text ≡ []
drop_all [] = refl
drop_all (byte ∷ text) = drop_all text

-- spans that cover the whole text
pub request_answered : (text : List ℕ) (headers : List HeaderSpan) (spans : RequestSpans) → IsRequestOf text headers spans → spans.len ≡ length text
    → head_of Orig text ≡ Some (record {
      start = Request (span_bytes text spans.method) (span_bytes text spans.path) spans.version;
      headers = map (header_bytes text) (take spans.headers headers);
    })
request_answered text headers spans found whole =
    let head = found.0 in
    let is = found.1 in
    let rest : drop spans.len text ≡ [] = ap (λ n. drop n text) whole ∙ drop_all text in
    let same : request_head head ≡ record {
      start = Request (span_bytes text spans.method) (span_bytes text spans.path) spans.version;
      headers = map (header_bytes text) (take spans.headers headers);
    } = rw (is.method, is.path, is.version, is.fields) refl in
    request_read text head (subst (ReadsRequest text head) rest is.reads) ∙ ap (λ head. Some head) same

-- spans that cover less
pub request_partly : (text : List ℕ) (headers : List HeaderSpan) (spans : RequestSpans) → IsRequestOf text headers spans → spans.len ≤ length text
    → (spans.len ≡ length text → ⊥) → (head : Head) → head_of Orig text ≡ Some head → ⊥
request_partly text headers spans found within other head is =
    let read = request_found text head is in
    let same = request_unique text read.0 found.0 [] (drop spans.len text) read.1 found.1.reads in
    other (omega (arith, length-drop spans.len text, ap length same.1))

pub request_nowhere : (text : List ℕ) → HasNoRequest text → (head : Head) → head_of Orig text ≡ Some head → ⊥
request_nowhere text none head is =
    let read = request_found text head is in
    none read.0 [] read.1

pub request_overflows : (text : List ℕ) → RequestOverflows 100 text → header_lines text ≤ 100 → (head : Head) → head_of Orig text ≡ Some head → ⊥
request_overflows text over few head is =
    let read = request_found text head is in
    let more = over [] read.0 [] (subst (λ all. ReadsRequest all read.0 []) (sym (append-nil text)) read.1) in
    omega (arith, read.3)

pub response_answered : (text : List ℕ) (headers : List HeaderSpan) (spans : ResponseSpans) → IsResponseOf text headers spans → spans.len ≡ length text
    → head_of Resp text ≡ Some (record {
      start = Response spans.version spans.code (span_bytes text spans.reason);
      headers = map (header_bytes text) (take spans.headers headers);
    })
response_answered text headers spans found whole =
    let head = found.0 in
    let is = found.1 in
    let rest : drop spans.len text ≡ [] = ap (λ n. drop n text) whole ∙ drop_all text in
    let same : response_head head ≡ record {
      start = Response spans.version spans.code (span_bytes text spans.reason);
      headers = map (header_bytes text) (take spans.headers headers);
    } = rw (is.version, is.code, is.reason, is.fields) refl in
    response_read text head (subst (ReadsResponse text head) rest is.reads) ∙ ap (λ head. Some head) same

pub response_partly : (text : List ℕ) (headers : List HeaderSpan) (spans : ResponseSpans) → IsResponseOf text headers spans → spans.len ≤ length text
    → (spans.len ≡ length text → ⊥) → (head : Head) → head_of Resp text ≡ Some head → ⊥
response_partly text headers spans found within other head is =
    let read = response_found text head is in
    let same = response_unique text read.0 found.0 [] (drop spans.len text) read.1 found.1.reads in
    other (omega (arith, length-drop spans.len text, ap length same.1))

pub response_nowhere : (text : List ℕ) → HasNoResponse text → (head : Head) → head_of Resp text ≡ Some head → ⊥
response_nowhere text none head is =
    let read = response_found text head is in
    none read.0 [] read.1

pub response_overflows : (text : List ℕ) → ResponseOverflows 100 text → header_lines text ≤ 100 → (head : Head) → head_of Resp text ≡ Some head → ⊥
response_overflows text over few head is =
    let read = response_found text head is in
    let more = over [] read.0 [] (subst (λ all. ReadsResponse all read.0 []) (sym (append-nil text)) read.1) in
    omega (arith, read.3)

-- what is said of a complete answer, of a partial one, and of an error
pub completed : {A : Type 0} (P : A → Type 0) (answer : Result (Status A) Error) (status : Status A) (value : A)
    → answer ≡ Ok status → status ≡ Complete value → IfComplete answer P → P value
completed P answer status value is complete holds = subst (λ answer. IfComplete answer P) (is ∙ ap (λ status. Ok status) complete) holds

pub partly : {A : Type 0} (P : Type 0) (answer : Result (Status A) Error) (status : Status A) → answer ≡ Ok status → status ≡ Partial → OnPartial answer P → P
partly P answer status is partial holds = subst (λ answer. OnPartial answer P) (is ∙ ap (λ status. Ok status) partial) holds

pub failed : {A : Type 0} (P : Type 0) (answer : Result (Status A) Error) (error : Error) → answer ≡ Err error → OnErr answer P → P
failed P answer error is holds = subst (λ answer. OnErr answer P) is holds

-- ---- short texts

-- a text has no more header lines than bytes
pub few_header_lines : (text : List ℕ) → header_lines text ≤ length text
few_header_lines text =
    let parts = slice_split (λ byte. byte == line_feed) text in
    let raws = before_feeds text in
    omega (
      arith,
      length-drop (blank_count raws) raws,
      length-take (length parts - 1) parts,
      length-slice_split (λ byte. byte == line_feed) text,
      count_by-le-length (λ byte. byte == line_feed) text,
    )

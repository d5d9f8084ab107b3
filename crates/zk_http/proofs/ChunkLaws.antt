-- The size of a chunk line is the one that the grammar of `httparse` has for it.
use Rattle.std.proofs.Common.{◌≡◌, ℕ, suc, ◌+◌, ◌-◌, ◌<◌, ◌≤◌, Bool, true, false, cond, List, [], ◌∷◌, ◌++◌, length, take, drop, Option, None, Some, refl, sym, ap, subst, ◌∙◌, arith, append_assoc, length-append, length-drop}
use Rattle.std.specs.Prelude.{Result, Ok, Err, OnErr, ◌&&◌, ◌||◌, ◌==◌, bytes_eq, nat_lt, nat_le, take_while}
use Rattle.std.specs.Char.{is_ascii_hexdigit}
use Rattle.std.specs.List.{list_all, prefix_len}
use Rattle.std.proofs.lemmas.Bool.{and_parts, leb-true, le-leb, ltb-true, lt-ltb}
use Rattle.std.proofs.lemmas.Bool.Decides.{Decides-eqb}
use Rattle.std.proofs.lemmas.List.{append-nil}
use Rattle.std.proofs.lemmas.List.Sums.{AllPass-from_list_all, list_all-from_AllPass}
use Rattle.std.proofs.lemmas.Slice.Eq.{bytes_eq-Decides}
use Rattle.std.proofs.Math.Seq.{take-append_seam, drop-append_seam, drop-append-add}
use Rattle.httparse.specs.Ascii.{line_feed, carriage_return, space, tab}
use Rattle.httparse.specs.Grammar.{is_ows, is_extension_byte, AllPass, ChunkLine, print_extension, print_chunk_line, IsExtension, IsChunkLine, ReadsChunkLine, chunk_size, HasNoChunkLine, NeverHasChunkLine}
use Rattle.httparse.specs.Spans.{IsChunkLineAt}
use Rattle.httparse.specs.Outcome.{IfComplete, OnPartial}
use Rattle.httparse.specs.declared.InvalidChunkSize.{InvalidChunkSize}
use Rattle.httparse.specs.declared.Status.{Status}
use Rattle.httparse.specs.declared.Status.TheVariants.{Complete, Partial}
use Rattle.httparse.proofs.ChunkLemmas.{chunk_line_unique}
use Rattle.zk_http.specs.Lines.{line_of}
use Rattle.zk_http.specs.Chunks.{extension_of, chunk_line_of, is_extension, is_chunk_line, size_if, size_of}
use Rattle.zk_http.proofs.LineLaws.{without_last, line_of-end_crlf}

-- the first byte, if there is one, fails the test
abbrev FirstFails : (ℕ → Bool) → List ℕ → Type 0
FirstFails test [] = Unit {0}
FirstFails test (byte ∷ bytes) = test byte ≡ false

prefix_ends : (test : ℕ → Bool) (xs ys : List ℕ) → AllPass test xs → FirstFails test ys → prefix_len test (xs ++ ys) ≡ length xs
prefix_ends test [] [] all fails = refl
prefix_ends test [] (y ∷ ys) all fails = rw fails refl
prefix_ends test (x ∷ xs) ys all fails =
    rw (all 0 0 (omega arith), prefix_ends test xs ys (λ k d lt. all (suc k) d (omega arith)) fails) (omega arith)

take_while_ends : (test : ℕ → Bool) (xs ys : List ℕ) → AllPass test xs → FirstFails test ys → take_while test (xs ++ ys) ≡ xs
take_while_ends test xs ys all fails = ap (λ n. take n (xs ++ ys)) (prefix_ends test xs ys all fails) ∙ take-append_seam xs ys

white_is_no_digit : (byte : ℕ) → is_ows byte ≡ true → is_ascii_hexdigit byte ≡ false
white_is_no_digit byte white = by_test (byte == space) (byte == tab) refl refl white
  where
    by_test : (spaces tabs : Bool) → (byte == space) ≡ spaces → (byte == tab) ≡ tabs → (spaces || tabs) ≡ true → is_ascii_hexdigit byte ≡ false
    by_test true tabs is_space is_tab one = ap is_ascii_hexdigit ((Decides-eqb byte space).0 is_space)
    by_test false true is_space is_tab one = ap is_ascii_hexdigit ((Decides-eqb byte tab).0 is_tab)
    by_test false false is_space is_tab one = absurd (cc)

no_digit_behind : (pad : List ℕ) (extension : Option (List ℕ)) → AllPass is_ows pad → FirstFails is_ascii_hexdigit (pad ++ print_extension extension)
no_digit_behind [] None all = tt
no_digit_behind [] (Some text) all = refl
no_digit_behind (byte ∷ pad) extension all = white_is_no_digit byte (all 0 0 (omega arith))

no_white_behind : (extension : Option (List ℕ)) → FirstFails is_ows (print_extension extension)
no_white_behind None = tt
no_white_behind (Some text) = refl

extension_again : (extension : Option (List ℕ)) → extension_of (print_extension extension) ≡ extension
extension_again None = refl
extension_again (Some text) = refl

chunk_line_again : (line : ChunkLine) → IsChunkLine line → chunk_line_of (line.digits ++ (line.pad ++ print_extension line.extension)) ≡ line
chunk_line_again line is =
    let rest = line.pad ++ print_extension line.extension in
    let digits = take_while_ends is_ascii_hexdigit line.digits rest is.digits.2 (no_digit_behind line.pad line.extension is.pad) in
    let behind = drop-append_seam line.digits rest in
    let pad = take_while_ends is_ows line.pad (print_extension line.extension) is.pad (no_white_behind line.extension) in
    let end : drop (length line.digits + length line.pad) (line.digits ++ rest) ≡ print_extension line.extension =
    drop-append-add line.digits rest (length line.pad) ∙ drop-append_seam line.pad (print_extension line.extension) in
    rw (digits, behind, pad, end, extension_again line.extension) refl

-- what stands before the line end
chunk_line_content : (line : ChunkLine) → line_of (take (length (print_chunk_line line) - 1) (print_chunk_line line))
    ≡ line.digits ++ (line.pad ++ print_extension line.extension)
unfolding print_chunk_line
chunk_line_content line =
    let content = line.digits ++ (line.pad ++ print_extension line.extension) in
    let text : line.digits ++ line.pad ++ print_extension line.extension ++ (carriage_return ∷ line_feed ∷ []) ≡ (content ++ carriage_return ∷ []) ++ line_feed ∷ [] =
    simp append_assoc in
    ap (λ text. line_of (take (length text - 1) text)) text
    ∙ ap line_of (without_last (content ++ carriage_return ∷ []) line_feed)
    ∙ line_of-end_crlf content

is_extension-true : (extension : Option (List ℕ)) → is_extension extension ≡ true → IsExtension extension
is_extension-true None is = tt
is_extension-true (Some text) is = AllPass-from_list_all is_extension_byte text is

extension-is : (extension : Option (List ℕ)) → IsExtension extension → is_extension extension ≡ true
extension-is None is = refl
extension-is (Some text) is = list_all-from_AllPass is_extension_byte text is

is_chunk_line-true : (line : ChunkLine) → is_chunk_line line ≡ true → IsChunkLine line
is_chunk_line-true line is =
    let extension = and_parts _ (is_extension line.extension) is in
    let pad = and_parts _ (list_all is_ows line.pad) extension.0 in
    let digits = and_parts _ (list_all is_ascii_hexdigit line.digits) pad.0 in
    let count = and_parts (nat_lt 0 (length line.digits)) (nat_le (length line.digits) 16) digits.0 in
    record {
      digits = (ltb-true 0 (length line.digits) count.0, leb-true (length line.digits) 16 count.1, AllPass-from_list_all is_ascii_hexdigit line.digits digits.1);
      pad = AllPass-from_list_all is_ows line.pad pad.1;
      extension = is_extension-true line.extension extension.1;
    }

chunk_line-is : (line : ChunkLine) → IsChunkLine line → is_chunk_line line ≡ true
chunk_line-is line is =
    rw (
      lt-ltb 0 (length line.digits) is.digits.0,
      le-leb (length line.digits) 16 is.digits.1,
      list_all-from_AllPass is_ascii_hexdigit line.digits is.digits.2,
      list_all-from_AllPass is_ows line.pad is.pad,
      extension-is line.extension is.extension,
    ) refl

-- a text that is a chunk line of the grammar
pub size_read : (text : List ℕ) (line : ChunkLine) → ReadsChunkLine text line [] → size_of text ≡ Some (chunk_size line)
unfolding size_of
size_read text line reads =
    let same : text ≡ print_chunk_line line = reads.1 ∙ append-nil (print_chunk_line line) in
    subst (λ text. size_of text ≡ Some (chunk_size line)) (sym same)
    (ap (λ parts. size_if parts (print_chunk_line line)) (ap chunk_line_of (chunk_line_content line) ∙ chunk_line_again line reads.0)
    ∙ rw (chunk_line-is line reads.0, (bytes_eq-Decides (print_chunk_line line) (print_chunk_line line)).1 refl) refl)

-- and no other is one
pub size_found : (text : List ℕ) (size : ℕ) → size_of text ≡ Some size → (line : ChunkLine) × ReadsChunkLine text line [] × (size ≡ chunk_size line)
unfolding size_of
size_found text size is =
    let line = chunk_line_of (line_of (take (length text - 1) text)) in
    let both = then_size (is_chunk_line line && bytes_eq (print_chunk_line line) text) (chunk_size line) size is in
    let tests = and_parts (is_chunk_line line) (bytes_eq (print_chunk_line line) text) both.0 in
    let print : print_chunk_line line ≡ text = (bytes_eq-Decides (print_chunk_line line) text).0 tests.1 in
    (line, (is_chunk_line-true line tests.0, sym print ∙ sym (append-nil (print_chunk_line line))), sym both.1)
  where
    then_size : (test : Bool) (value found : ℕ) → cond test (Some value) None ≡ Some found → (test ≡ true) × (value ≡ found)
    then_size true value found is = (refl, cc)
    then_size false value found is = absurd (cc)

-- ---- what `httparse` answers

pub no_size : (found : Option ℕ) → ((size : ℕ) → found ≡ Some size → ⊥) → None ≡ found
no_size None never = refl
no_size (Some size) never = absurd (never size refl)

drop_all : (text : List ℕ) → drop (length text) text ≡ []
drop_all [] = refl
drop_all (byte ∷ text) = drop_all text

-- a line that is the whole text
pub size_answered : (text : List ℕ) (len size : ℕ) → ((line : ChunkLine) × IsChunkLineAt text len size line) → len ≡ length text → Some size ≡ size_of text
size_answered text len size found whole =
    let rest : drop len text ≡ [] = ap (λ n. drop n text) whole ∙ drop_all text in
    ap (λ n. Some n) found.1.size_is ∙ sym (size_read text found.0 (subst (ReadsChunkLine text found.0) rest found.1.reads))

pub size_partly : (text : List ℕ) (len size : ℕ) → ((line : ChunkLine) × IsChunkLineAt text len size line) → len < length text
    → (other : ℕ) → size_of text ≡ Some other → ⊥
size_partly text len size found less other is =
    let read = size_found text other is in
    let same = chunk_line_unique text read.0 found.0 [] (drop len text) read.1 found.1.reads in
    omega (arith, length-drop len text, ap length same.1)

pub size_nowhere : (text : List ℕ) → HasNoChunkLine text → (size : ℕ) → size_of text ≡ Some size → ⊥
size_nowhere text none size is =
    let read = size_found text size is in
    none read.0 [] read.1

pub size_never : (text : List ℕ) → NeverHasChunkLine text → (size : ℕ) → size_of text ≡ Some size → ⊥
size_never text never size is =
    let read = size_found text size is in
    never [] read.0 [] (subst (λ all. ReadsChunkLine all read.0 []) (sym (append-nil text)) read.1)

-- what is said of a complete answer, of a partial one, and of an error
pub size_completed : (text : List ℕ) (answer : Result (Status (ℕ × ℕ)) InvalidChunkSize) (status : Status (ℕ × ℕ)) (len size : ℕ)
    → answer ≡ Ok status → status ≡ Complete (len, size) → IfComplete answer (λ r. (line : ChunkLine) × IsChunkLineAt text r.0 r.1 line)
    → (line : ChunkLine) × IsChunkLineAt text len size line
size_completed text answer status len size is complete holds =
    subst (λ answer. IfComplete answer (λ r. (line : ChunkLine) × IsChunkLineAt text r.0 r.1 line)) (is ∙ ap (λ status. Ok status) complete) holds

pub size_partial : (P : Type 0) (answer : Result (Status (ℕ × ℕ)) InvalidChunkSize) (status : Status (ℕ × ℕ)) → answer ≡ Ok status → status ≡ Partial
    → OnPartial answer P → P
size_partial P answer status is partial holds = subst (λ answer. OnPartial answer P) (is ∙ ap (λ status. Ok status) partial) holds

pub size_failed : (P : Type 0) (answer : Result (Status (ℕ × ℕ)) InvalidChunkSize) (error : InvalidChunkSize) → answer ≡ Err error → OnErr answer P → P
size_failed P answer error is holds = subst (λ answer. OnErr answer P) is holds

pub line_within : (text : List ℕ) (len size : ℕ) → ((line : ChunkLine) × IsChunkLineAt text len size line) → len ≤ length text
line_within text len size found =
    omega (arith, ap length found.1.reads.1, length-append (print_chunk_line found.0) (drop len text), found.1.len_is, length-drop len text)

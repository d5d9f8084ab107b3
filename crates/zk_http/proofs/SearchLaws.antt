-- What a search knows behind one more line.
use Rattle.std.proofs.Common.{◌≡◌, ◌⊎◌, ℕ, zero, suc, ◌+◌, ◌-◌, ◌<◌, ◌≤◌, Bool, true, false, cond, inl, inr, List, [], ◌∷◌, ◌++◌, length, take, drop, map, get_or, refl, sym, ap, subst, ◌∙◌, arith, append_assoc, length-append, length-take, length-drop}
use Rattle.std.specs.Prelude.{◌==◌, ◌&&◌, ◌||◌, not, nat_lt, slice_index, slice_range}
use Rattle.std.specs.List.{slice_split, prefix_len, list_any, sum_by}
use Rattle.std.proofs.lemmas.Bool.{ltb-true, lt-ltb, true≢false}
use Rattle.std.proofs.lemmas.Bool.Decides.{Decides-eqb, nat_tests}
use Rattle.std.proofs.lemmas.List.{append-nil, map-append, get_or-drop, get_or-take}
use Rattle.std.proofs.lemmas.List.Sums.{sum_by-append}
use Rattle.std.proofs.Math.Seq.{take-add}
use Rattle.httparse.specs.Ascii.{line_feed, carriage_return}
use Rattle.memchr.specs.Find.{Nowhere, NoneBefore, Passes, is_byte}
use Rattle.zk_http.specs.declared.search.Ending.{Ending}
use Rattle.zk_http.specs.declared.search.Ending.TheVariants.{Line, Section, Head}
use Rattle.zk_http.specs.declared.search.Search.{Search}
use Rattle.zk_http.specs.Heads.{from_start}
use Rattle.zk_http.specs.Lines.{is_empty, ends_with_byte, before_feeds, line_of, lines, ends_line, last_is_empty, ends_section, ends_head, text_length}
use Rattle.zk_http.specs.Search.{ends, is_end, IsWhole, Counts, Knows, FindsAt, PassesLine}
use Rattle.zk_http.proofs.LineLaws.{NoneIs, split_at, without_last, ends_behind, ends_with_last}

-- ---- a text of whole lines, and one more line

abbrev split : List ℕ → List (List ℕ)
split = slice_split (λ byte. byte == line_feed)

pub whole_none : IsWhole []
whole_none rest = refl

-- the bytes of one more line
abbrev pub with_line : List ℕ → List ℕ → List ℕ
with_line text raw = text ++ (raw ++ line_feed ∷ [])

split_more : (text raw rest : List ℕ) → IsWhole text → NoneIs line_feed raw → split (with_line text raw ++ rest) ≡ before_feeds text ++ raw ∷ split rest
split_more text raw rest whole none =
    ap split (append_assoc text (raw ++ line_feed ∷ []) rest ∙ ap (λ behind. text ++ behind) (append_assoc raw (line_feed ∷ []) rest))
    ∙ whole (raw ++ line_feed ∷ rest)
    ∙ ap (λ parts. before_feeds text ++ parts) (split_at line_feed raw rest none)

before_feeds-more : (text raw : List ℕ) → IsWhole text → NoneIs line_feed raw → before_feeds (with_line text raw) ≡ before_feeds text ++ raw ∷ []
before_feeds-more text raw whole none =
    let parts : split (with_line text raw) ≡ (before_feeds text ++ raw ∷ []) ++ [] ∷ [] =
    sym (ap split (append-nil (with_line text raw))) ∙ split_more text raw [] whole none ∙ sym (append_assoc (before_feeds text) (raw ∷ []) ([] ∷ [])) in
    ap (λ (all : List (List ℕ)). take (length all - 1) all) parts ∙ without_last (before_feeds text ++ raw ∷ []) []

whole_more : (text raw : List ℕ) → IsWhole text → NoneIs line_feed raw → IsWhole (with_line text raw)
whole_more text raw whole none rest =
    split_more text raw rest whole none
    ∙ sym (append_assoc (before_feeds text) (raw ∷ []) (split rest))
    ∙ ap (λ raws. raws ++ split rest) (sym (before_feeds-more text raw whole none))

lines-more : (text raw : List ℕ) → IsWhole text → NoneIs line_feed raw → lines (with_line text raw) ≡ lines text ++ line_of raw ∷ []
lines-more text raw whole none = ap (map line_of) (before_feeds-more text raw whole none) ∙ map-append line_of (before_feeds text) (raw ∷ [])

text_length-more : (text raw : List ℕ) → IsWhole text → NoneIs line_feed raw → text_length (with_line text raw) ≡ text_length text + length (line_of raw)
text_length-more text raw whole none =
    let one : 0 + length (line_of raw) ≡ length (line_of raw) = omega arith in
    ap (sum_by length) (lines-more text raw whole none) ∙ sum_by-append length (lines text) (line_of raw ∷ []) ∙ ap (λ n. text_length text + n) one

-- ---- lines from the start line on

abbrev counted_more : ℕ → List ℕ → ℕ
counted_more count raw = cond (nat_lt 0 count || nat_lt 0 (length (line_of raw))) (count + 1) 0

filled : (line : List ℕ) → nat_lt 0 (length line) ≡ not (is_empty line)
filled [] = refl
filled (byte ∷ line) = lt-ltb 0 (length (byte ∷ line)) (omega arith)

from_start-cons : (raw : List ℕ) (raws : List (List ℕ)) → length (from_start (raw ∷ raws)) ≡ cond (is_empty (line_of raw)) (length (from_start raws)) (suc (length raws))
from_start-cons raw raws = by_test (is_empty (line_of raw))
  where
    by_test : (empty : Bool) → length (drop (cond empty (1 + prefix_len (λ bytes. is_empty (line_of bytes)) raws) 0) (raw ∷ raws)) ≡ cond empty (length (from_start raws)) (suc (length raws))
    by_test true =
        let one : 1 + prefix_len (λ bytes. is_empty (line_of bytes)) raws ≡ suc (prefix_len (λ bytes. is_empty (line_of bytes)) raws) = omega arith in
        ap (λ n. length (drop n (raw ∷ raws))) one
    by_test false = refl

from_start-more : (raws : List (List ℕ)) (raw : List ℕ) → length (from_start (raws ++ raw ∷ [])) ≡ counted_more (length (from_start raws)) raw
from_start-more [] raw = from_start-cons raw [] ∙ by_test (is_empty (line_of raw)) (filled (line_of raw))
  where
    by_test : (empty : Bool) → nat_lt 0 (length (line_of raw)) ≡ not empty → cond empty 0 1 ≡ cond (nat_lt 0 0 || nat_lt 0 (length (line_of raw))) (0 + 1) 0
    by_test true is = rw is refl
    by_test false is = rw is refl
from_start-more (first ∷ raws) raw =
    from_start-cons first (raws ++ raw ∷ []) ∙ by_test (is_empty (line_of first)) (from_start-more raws raw)
    ∙ ap (λ count. counted_more count raw) (sym (from_start-cons first raws))
  where
    by_test : (empty : Bool) → length (from_start (raws ++ raw ∷ [])) ≡ counted_more (length (from_start raws)) raw
        → cond empty (length (from_start (raws ++ raw ∷ []))) (suc (length (raws ++ raw ∷ []))) ≡ counted_more (cond empty (length (from_start raws)) (suc (length raws))) raw
    by_test true same = same
    by_test false same =
        let more : suc (length (raws ++ raw ∷ [])) ≡ suc (length raws) + 1 = omega (arith, length-append raws (raw ∷ [])) in
        let some = lt-ltb 0 (suc (length raws)) (omega arith) in
        rw (some, more) refl

-- a line that isn't empty stands among them where there is a start line
pub any_filled : (raws : List (List ℕ)) → list_any (λ line. not (is_empty line)) (map line_of raws) ≡ nat_lt 0 (length (from_start raws))
any_filled [] = refl
any_filled (first ∷ raws) = by_test (is_empty (line_of first)) refl (any_filled raws) ∙ ap (λ n. nat_lt 0 n) (sym (from_start-cons first raws))
  where
    by_test : (empty : Bool) → is_empty (line_of first) ≡ empty → list_any (λ line. not (is_empty line)) (map line_of raws) ≡ nat_lt 0 (length (from_start raws))
        → (not (is_empty (line_of first)) || list_any (λ line. not (is_empty line)) (map line_of raws)) ≡ nat_lt 0 (cond empty (length (from_start raws)) (suc (length raws)))
    by_test true is others = rw is others
    by_test false is others = rw is (sym (lt-ltb 0 (suc (length raws)) (omega arith)))

last_more : (all : List (List ℕ)) (line : List ℕ) → last_is_empty (all ++ line ∷ []) ≡ is_empty line
last_more [] line = refl
last_more (first ∷ []) line = refl
last_more (first ∷ second ∷ others) line = last_more (second ∷ others) line

-- ---- what a text ends in

-- no text ends without a line end
pub ends_with_line : (ending : Ending) (text : List ℕ) → ends_line text ≡ false → ends ending text ≡ false
ends_with_line Line text is = is
ends_with_line Section text is = ap (λ line. line && last_is_empty (lines text)) is
ends_with_line Head text is = ap (λ line. (line && last_is_empty (lines text)) && list_any (λ line. not (is_empty line)) (lines text)) is

line_ends : (text raw : List ℕ) → ends_line (with_line text raw) ≡ true
line_ends text raw = ap ends_line (sym (append_assoc text raw (line_feed ∷ []))) ∙ ends_behind line_feed line_feed (text ++ raw)

-- whether a text with one more line ends so
ends_behind_line : (ending : Ending) (text raw : List ℕ) → IsWhole text → NoneIs line_feed raw
    → is_end ending (counted_more (length (from_start (before_feeds text))) raw) (is_empty (line_of raw)) ≡ ends ending (with_line text raw)
ends_behind_line Line text raw whole none = sym (line_ends text raw)
ends_behind_line Section text raw whole none =
    sym (ap (λ line. line && last_is_empty (lines (with_line text raw))) (line_ends text raw)
    ∙ ap last_is_empty (lines-more text raw whole none) ∙ last_more (lines text) (line_of raw))
ends_behind_line Head text raw whole none = by_test (is_empty (line_of raw)) refl
  where
    section : ends_section (with_line text raw) ≡ is_empty (line_of raw)
    section =
        ap (λ line. line && last_is_empty (lines (with_line text raw))) (line_ends text raw)
        ∙ ap last_is_empty (lines-more text raw whole none) ∙ last_more (lines text) (line_of raw)

    counted : list_any (λ line. not (is_empty line)) (lines (with_line text raw)) ≡ nat_lt 0 (counted_more (length (from_start (before_feeds text))) raw)
    counted =
        any_filled (before_feeds (with_line text raw))
        ∙ ap (λ n. nat_lt 0 n) (ap (λ raws. length (from_start raws)) (before_feeds-more text raw whole none) ∙ from_start-more (before_feeds text) raw)

    same_count : (count : ℕ) → nat_lt 0 (length (line_of raw)) ≡ false → nat_lt 1 (counted_more count raw) ≡ nat_lt 0 (counted_more count raw)
    same_count count is = rw is (by_count (nat_lt 0 count) refl)
      where
        by_count : (some : Bool) → nat_lt 0 count ≡ some → nat_lt 1 (cond (some || false) (count + 1) 0) ≡ nat_lt 0 (cond (some || false) (count + 1) 0)
        by_count true some = lt-ltb 1 (count + 1) (omega (arith, ltb-true 0 count some)) ∙ sym (lt-ltb 0 (count + 1) (omega arith))
        by_count false some = refl

    by_test : (empty : Bool) → is_empty (line_of raw) ≡ empty
        → (empty && nat_lt 1 (counted_more (length (from_start (before_feeds text))) raw)) ≡ ends_head (with_line text raw)
    by_test true is =
        same_count (length (from_start (before_feeds text))) (filled (line_of raw) ∙ ap not is)
        ∙ sym (ap (λ section. section && list_any (λ line. not (is_empty line)) (lines (with_line text raw))) (section ∙ is) ∙ counted)
    by_test false is = sym (ap (λ section. section && list_any (λ line. not (is_empty line)) (lines (with_line text raw))) (section ∙ is))

-- ---- one more line of some bytes

pub none_at_places : (byte : ℕ) (bytes : List ℕ) → ((k : ℕ) → k < length bytes → slice_index bytes k ≡ byte → ⊥) → NoneIs byte bytes
none_at_places byte [] none = tt
none_at_places byte (first ∷ others) none = (differs (first == byte) refl, none_at_places byte others (λ k lt. none (suc k) (omega arith)))
  where
    differs : (same : Bool) → (first == byte) ≡ same → same ≡ false
    differs true is = absurd (none 0 (omega arith) ((Decides-eqb first byte).0 is))
    differs false is = refl

-- the bytes of a line that begins at one place and ends with the line feed at another
line_bytes : (bytes : List ℕ) (line end : ℕ) → line ≤ end → end < length bytes → slice_index bytes end ≡ line_feed
    → take (end + 1) bytes ≡ with_line (take line bytes) (slice_range bytes line end)
line_bytes bytes line end ordered within feed =
    let whole : line + ((end - line) + 1) ≡ end + 1 = omega arith in
    ap (λ n. take n bytes) (sym whole)
    ∙ take-add line ((end - line) + 1) bytes
    ∙ ap (λ behind. take line bytes ++ behind) (take-add (end - line) 1 (drop line bytes) ∙ ap (λ last. slice_range bytes line end ++ last) last_one)
  where
    one_taken : (rest : List ℕ) → 0 < length rest → take 1 rest ≡ get_or rest 0 0 ∷ []
    one_taken [] some = absurd (omega arith)
    one_taken (first ∷ rest) some = refl

    last_one : take 1 (drop (end - line) (drop line bytes)) ≡ line_feed ∷ []
    last_one =
        let rest = drop (end - line) (drop line bytes) in
        let some : 0 < length rest = omega (arith, length-drop (end - line) (drop line bytes), length-drop line bytes) in
        let place : line + ((end - line) + 0) ≡ end = omega arith in
        one_taken rest some
        ∙ ap (λ byte. byte ∷ []) (get_or-drop (end - line) (drop line bytes) 0 0 ∙ get_or-drop line bytes ((end - line) + 0) 0
        ∙ ap (λ k. get_or bytes k 0) place ∙ feed)

-- no text ends with a line end whose last byte is no line feed
no_line_end : (bytes : List ℕ) (k : ℕ) → k < length bytes → (slice_index bytes k ≡ line_feed → ⊥) → ends_line (take (k + 1) bytes) ≡ false
no_line_end bytes k lt none =
    let count : length (take (k + 1) bytes) ≡ k + 1 = omega (arith, length-take (k + 1) bytes) in
    let last : length (take (k + 1) bytes) - 1 ≡ k = omega arith in
    ends_with_last line_feed (take (k + 1) bytes) (omega arith)
    ∙ ap (λ n. slice_index (take (k + 1) bytes) n == line_feed) last
    ∙ ap (λ byte. byte == line_feed) (get_or-take (k + 1) bytes k 0 (omega arith))
    ∙ differs (slice_index bytes k) none
  where
    differs : (byte : ℕ) → (byte ≡ line_feed → ⊥) → (byte == line_feed) ≡ false
    differs byte apart = grind (arith, nat_tests)

-- a line feed would have been the end of a line
no_feed : (bytes : List ℕ) (k : ℕ) → k < length bytes → ends_line (take (k + 1) bytes) ≡ false → slice_index bytes k ≡ line_feed → ⊥
no_feed bytes k lt none is =
    let count : length (take (k + 1) bytes) ≡ k + 1 = omega (arith, length-take (k + 1) bytes) in
    let last : length (take (k + 1) bytes) - 1 ≡ k = omega arith in
    let ends : ends_line (take (k + 1) bytes) ≡ true =
    ends_with_last line_feed (take (k + 1) bytes) (omega arith)
    ∙ ap (λ n. slice_index (take (k + 1) bytes) n == line_feed) last
    ∙ ap (λ byte. byte == line_feed) (get_or-take (k + 1) bytes k 0 (omega arith) ∙ is) in
    true≢false (sym ends ∙ none)

-- what holds behind the line that ends at a place
pub record Passed (passed : Search) (ending : Ending) (bytes raw : List ℕ) (end : ℕ) : Type 0 where
  pub counts : Counts passed (take (end + 1) bytes)
  pub end_is : is_end ending passed.lines (is_empty (line_of raw)) ≡ ends ending (take (end + 1) bytes)
  pub before : (k : ℕ) → k ≤ end → ends ending (take k bytes) ≡ false

-- what was looked through, and no line feed up to a place
pub record UpTo (search : Search) (ending : Ending) (bytes : List ℕ) (end : ℕ) : Type 0 where
  pub knows : Knows search ending bytes
  pub from : search.seen ≤ end
  pub none : (k : ℕ) → search.seen ≤ k → k < end → slice_index bytes k ≡ line_feed → ⊥

no_end_up_to : (search : Search) (ending : Ending) (bytes : List ℕ) (end : ℕ) → UpTo search ending bytes end → end ≤ length bytes
    → (k : ℕ) → search.line < k → k ≤ end → ends_line (take k bytes) ≡ false
no_end_up_to search ending bytes end up within zero low high = absurd (omega arith)
no_end_up_to search ending bytes end up within (suc k) low high = by_place (le_or (suc k) search.seen)
  where
    le_or : (a b : ℕ) → (a ≤ b) ⊎ (b < a)
    le_or a b = grind arith

    by_place : (suc k ≤ search.seen) ⊎ (search.seen < suc k) → ends_line (take (suc k) bytes) ≡ false
    by_place (inl seen) = up.knows.no_end (suc k) low seen
    by_place (inr behind) =
        let next : k + 1 ≡ suc k = omega arith in
        ap (λ n. ends_line (take n bytes)) (sym next) ∙ no_line_end bytes k (omega arith) (up.none k (omega arith) (omega arith))

-- no line feed stands in the line that is looked through
line_without : (search : Search) (ending : Ending) (bytes : List ℕ) (end : ℕ) → UpTo search ending bytes end → end < length bytes
    → NoneIs line_feed (slice_range bytes search.line end)
line_without search ending bytes end up within =
    none_at_places line_feed (slice_range bytes search.line end) none
  where
    none : (k : ℕ) → k < length (slice_range bytes search.line end) → slice_index (slice_range bytes search.line end) k ≡ line_feed → ⊥
    none k lt is =
        let inside : k < end - search.line = omega (arith, length-take (end - search.line) (drop search.line bytes)) in
        let byte : slice_index bytes (search.line + k) ≡ line_feed =
        sym (get_or-take (end - search.line) (drop search.line bytes) k 0 inside ∙ get_or-drop search.line bytes k 0) ∙ is in
        let next : search.line + k + 1 ≤ end = omega arith in
        no_feed bytes (search.line + k) (omega arith)
        (no_end_up_to search ending bytes end up (omega arith) (search.line + k + 1) (omega arith) next) byte

counted_le : (count : ℕ) (raw : List ℕ) → counted_more count raw ≤ count + 1
counted_le count raw = by_test (nat_lt 0 count || nat_lt 0 (length (line_of raw)))
  where
    by_test : (counts : Bool) → cond counts (count + 1) 0 ≤ count + 1
    by_test true = omega arith
    by_test false = omega arith

line_of_le : (raw : List ℕ) → length (line_of raw) ≤ length raw
line_of_le raw = by_test (ends_with_byte carriage_return raw)
  where
    by_test : (ends : Bool) → length (cond ends (take (length raw - 1) raw) raw) ≤ length raw
    by_test true = omega (arith, length-take (length raw - 1) raw)
    by_test false = omega arith

pub line_passed : (search passed : Search) (ending : Ending) (bytes : List ℕ) (end : ℕ) → UpTo search ending bytes end → end < length bytes
    → slice_index bytes end ≡ line_feed → PassesLine search passed (length (line_of (slice_range bytes search.line end))) (end + 1)
    → Passed passed ending bytes (slice_range bytes search.line end) end
line_passed search passed ending bytes end up within feed passes =
    let raw = slice_range bytes search.line end in
    let text = take search.line bytes in
    let counts = up.knows.counts in
    let none = line_without search ending bytes end up within in
    let whole : take (end + 1) bytes ≡ with_line text raw =
    line_bytes bytes search.line end (omega (arith, up.knows.line, up.from)) within feed in
    let count : passed.lines ≡ counted_more (length (from_start (before_feeds text))) raw =
    passes.2 ∙ ap (λ n. counted_more n raw) counts.lines in
    let size : length (with_line text raw) ≡ end + 1 = ap length (sym whole) ∙ taken in
    record {
      counts = record {
        whole = subst IsWhole (sym whole) (whole_more text raw counts.whole none);
        lines = count ∙ sym (from_start-more (before_feeds text) raw) ∙ ap (λ raws. length (from_start raws)) (sym (before_feeds-more text raw counts.whole none))
            ∙ ap (λ bytes. length (from_start (before_feeds bytes))) (sym whole);
        text = passes.3 ∙ ap (λ n. n + length (line_of raw)) counts.text ∙ sym (text_length-more text raw counts.whole none) ∙ ap text_length (sym whole);
        few_lines = omega (
          arith,
          counted_le (length (from_start (before_feeds text))) raw,
          count,
          counts.lines,
          counts.few_lines,
          up.knows.line,
          up.from,
          taken,
          length-take search.line bytes,
        );
        short = omega (
          arith,
          passes.3,
          counts.short,
          line_of_le raw,
          length-take (end - search.line) (drop search.line bytes),
          up.knows.line,
          up.from,
          taken,
          length-take search.line bytes,
        );
      };
      end_is = ap (λ n. is_end ending n (is_empty (line_of raw))) count ∙ ends_behind_line ending text raw counts.whole none ∙ ap (ends ending) (sym whole);
      before = λ k le. by_place k le (le_or k search.seen);
    }
  where
    taken : length (take (end + 1) bytes) ≡ end + 1
    taken = omega (arith, length-take (end + 1) bytes)

    le_or : (a b : ℕ) → (a ≤ b) ⊎ (b < a)
    le_or a b = grind arith

    by_place : (k : ℕ) → k ≤ end → (k ≤ search.seen) ⊎ (search.seen < k) → ends ending (take k bytes) ≡ false
    by_place k le (inl seen) = up.knows.none k seen
    by_place k le (inr behind) =
        ends_with_line ending (take k bytes) (no_end_up_to search ending bytes end up (omega arith) k (omega (arith, up.knows.line)) le)

-- ---- what a search for a line feed answers

-- the bytes that weren't looked at
abbrev unseen : List ℕ → ℕ → List ℕ
unseen bytes seen = take (length bytes - seen) (drop seen bytes)

length_unseen : (bytes : List ℕ) (seen : ℕ) → length (unseen bytes seen) ≡ length bytes - seen
length_unseen bytes seen = omega (arith, length-take (length bytes - seen) (drop seen bytes), length-drop seen bytes)

unseen_at : (bytes : List ℕ) (seen k : ℕ) → k < length bytes - seen → slice_index (unseen bytes seen) k ≡ slice_index bytes (seen + k)
unseen_at bytes seen k lt = get_or-take (length bytes - seen) (drop seen bytes) k 0 lt ∙ get_or-drop seen bytes k 0

pub feed_ahead : (search : Search) (ending : Ending) (bytes : List ℕ) (ahead : ℕ) → Knows search ending bytes
    → NoneBefore (Passes (is_byte line_feed) (unseen bytes search.seen)) 0 (length (unseen bytes search.seen)) ahead
    → Passes (is_byte line_feed) (unseen bytes search.seen) ahead
    → UpTo search ending bytes (search.seen + ahead) × (search.seen + ahead < length bytes) × (slice_index bytes (search.seen + ahead) ≡ line_feed)
feed_ahead search ending bytes ahead knows first passes =
    let inside : ahead < length bytes - search.seen = omega (arith, first.high, length_unseen bytes search.seen) in (
      record {
        knows = knows;
        from = omega arith;
        none = λ k low high is.
            let back : search.seen + (k - search.seen) ≡ k = omega arith in
            first.before (k - search.seen) (omega arith) (omega arith)
            ((Decides-eqb (slice_index (unseen bytes search.seen) (k - search.seen)) line_feed).1
            (unseen_at bytes search.seen (k - search.seen) (omega arith) ∙ ap (λ n. slice_index bytes n) back ∙ is));
      },
      omega arith,
      sym (unseen_at bytes search.seen ahead inside) ∙ (Decides-eqb (slice_index (unseen bytes search.seen) ahead) line_feed).0 passes,
    )

-- a search that found none has looked through all
pub knows_all : (search passed : Search) (ending : Ending) (bytes : List ℕ) → Knows search ending bytes
    → Nowhere (Passes (is_byte line_feed) (unseen bytes search.seen)) 0 (length (unseen bytes search.seen))
    → passed.seen ≡ length bytes → passed.line ≡ search.line → passed.lines ≡ search.lines → passed.text ≡ search.text
    → Knows passed ending bytes
knows_all search passed ending bytes knows nowhere seen_is line_is lines_is text_is =
    let up : UpTo search ending bytes (length bytes) = record {
      knows = knows;
      from = knows.seen;
      none = λ k low high is.
          let back : search.seen + (k - search.seen) ≡ k = omega arith in
          nowhere (k - search.seen) (omega arith) (omega (arith, length_unseen bytes search.seen))
          ((Decides-eqb (slice_index (unseen bytes search.seen) (k - search.seen)) line_feed).1
          (unseen_at bytes search.seen (k - search.seen) (omega arith) ∙ ap (λ n. slice_index bytes n) back ∙ is));
    } in
    record {
      seen = omega arith;
      line = omega (arith, knows.line, knows.seen);
      counts = subst (λ line. Counts passed (take line bytes)) (sym line_is) (record {
        whole = knows.counts.whole;
        lines = lines_is ∙ knows.counts.lines;
        text = text_is ∙ knows.counts.text;
        few_lines = omega (arith, knows.counts.few_lines);
        short = omega (arith, knows.counts.short);
      });
      no_end = λ k low high. no_end_up_to search ending bytes (length bytes) up (omega arith) k (omega arith) (omega arith);
      none = λ k le. by_place k (omega arith) (le_or k search.seen) up;
    }
  where
    le_or : (a b : ℕ) → (a ≤ b) ⊎ (b < a)
    le_or a b = grind arith

    by_place : (k : ℕ) → k ≤ length bytes → (k ≤ search.seen) ⊎ (search.seen < k) → UpTo search ending bytes (length bytes) → ends ending (take k bytes) ≡ false
    by_place k le (inl seen) up = knows.none k seen
    by_place k le (inr behind) up =
        ends_with_line ending (take k bytes) (no_end_up_to search ending bytes (length bytes) up (omega arith) k (omega (arith, knows.line)) le)

-- behind a line that isn't the end the search goes on
pub goes_on : (passed : Search) (ending : Ending) (bytes raw : List ℕ) (end : ℕ) → Passed passed ending bytes raw end → end < length bytes
    → passed.seen ≡ end + 1 → passed.line ≡ end + 1 → is_end ending passed.lines (is_empty (line_of raw)) ≡ false → Knows passed ending bytes
goes_on passed ending bytes raw end is within seen line not_end = record {
  seen = omega arith;
  line = omega arith;
  counts = subst (λ n. Counts passed (take n bytes)) (sym line) is.counts;
  no_end = λ k low high. absurd (omega arith);
  none = λ k le. by_place k (last_or_before k (omega arith));
}
  where
    last_or_before : (k : ℕ) → k ≤ end + 1 → (k ≤ end) ⊎ (k ≡ end + 1)
    last_or_before k le = grind arith

    by_place : (k : ℕ) → (k ≤ end) ⊎ (k ≡ end + 1) → ends ending (take k bytes) ≡ false
    by_place k (inl before) = is.before k before
    by_place k (inr last) = ap (λ n. ends ending (take n bytes)) last ∙ sym is.end_is ∙ not_end

pub finds : (passed : Search) (ending : Ending) (bytes raw : List ℕ) (end : ℕ) → Passed passed ending bytes raw end → end < length bytes
    → is_end ending passed.lines (is_empty (line_of raw)) ≡ true → FindsAt passed ending bytes (end + 1)
finds passed ending bytes raw end is within at_end = record {
  within = omega arith;
  end = sym is.end_is ∙ at_end;
  first = λ k lt. is.before k (omega arith);
  counts = is.counts;
}

pub empty_length : (line : List ℕ) → (length line == 0) ≡ is_empty line
empty_length [] = refl
empty_length (byte ∷ line) = differs (length (byte ∷ line)) (omega arith)
  where
    differs : (n : ℕ) → 0 < n → (n == 0) ≡ false
    differs n lt = grind (arith, nat_tests)

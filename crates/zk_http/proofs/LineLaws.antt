-- A text that is printed line by line has these lines.
use Rattle.std.proofs.Common.{◌≡◌, ℕ, suc, ◌+◌, ◌-◌, ◌<◌, Bool, true, false, cond, List, [], ◌∷◌, ◌++◌, length, take, drop, map, refl, sym, ap, ◌∙◌, arith, append_assoc, length-append}
use Rattle.std.specs.Prelude.{◌==◌, slice_index, IsTrue}
use Rattle.std.specs.List.{flat_map, slice_split, onto_first, position_or_len}
use Rattle.std.proofs.lemmas.Bool.{true≢false}
use Rattle.std.proofs.lemmas.Bool.Decides.{Decides-eqb, nat_tests}
use Rattle.std.proofs.lemmas.List.{append-nil}
use Rattle.std.proofs.Math.Seq.{take-append_seam}
use Rattle.httparse.specs.Ascii.{line_feed, carriage_return}
use Rattle.httparse.specs.Grammar.{LineEnd, crlf, lf, print_end, AllPass}
use Rattle.zk_http.specs.Lines.{ends_with_byte, before_feeds, line_of, lines}
use Rattle.zk_http.specs.Heads.{line_end, before, behind}

-- ---- bytes that don't stand in a text

abbrev pub NoneIs : ℕ → List ℕ → Type 0
NoneIs byte [] = Unit {0}
NoneIs byte (first ∷ others) = ((first == byte) ≡ false) × NoneIs byte others

-- a byte that fails a test is none that passes it
not_passing : (test : ℕ → Bool) (byte other : ℕ) → test byte ≡ false → IsTrue (test other) → (other == byte) ≡ false
not_passing test byte other fails passes = differs (other == byte) refl
  where
    differs : (same : Bool) → (other == byte) ≡ same → same ≡ false
    differs true is =
        let equal : other ≡ byte = (Decides-eqb other byte).0 is in
        absurd (true≢false (sym passes ∙ ap test equal ∙ fails))
    differs false is = refl

pub none_passing : (test : ℕ → Bool) (byte : ℕ) → test byte ≡ false → (bytes : List ℕ) → AllPass test bytes → NoneIs byte bytes
none_passing test byte fails [] all = tt
none_passing test byte fails (first ∷ others) all =
    (not_passing test byte first fails (all 0 0 (omega arith)), none_passing test byte fails others (λ k d lt. all (suc k) d (omega arith)))

pub none_both : (byte : ℕ) (xs ys : List ℕ) → NoneIs byte xs → NoneIs byte ys → NoneIs byte (xs ++ ys)
none_both byte [] ys first second = second
none_both byte (x ∷ xs) ys first second = (first.0, none_both byte xs ys first.1 second)

-- ---- what stands before a byte, and behind it

pub split_at : (byte : ℕ) (xs rest : List ℕ) → NoneIs byte xs → slice_split (λ b. b == byte) (xs ++ byte ∷ rest) ≡ xs ∷ slice_split (λ b. b == byte) rest
split_at byte [] rest none = ap (λ same. cond same ([] ∷ slice_split (λ b. b == byte) rest) (onto_first byte (slice_split (λ b. b == byte) rest))) (same_byte byte)
  where
    same_byte : (byte : ℕ) → (byte == byte) ≡ true
    same_byte byte = (Decides-eqb byte byte).1 refl
split_at byte (x ∷ xs) rest none = rw (none.0, split_at byte xs rest none.1) refl

same_byte : (byte : ℕ) → (byte == byte) ≡ true
same_byte byte = (Decides-eqb byte byte).1 refl

position_at : (byte : ℕ) (xs rest : List ℕ) → NoneIs byte xs → position_or_len (λ b. b == byte) (xs ++ byte ∷ rest) ≡ length xs
position_at byte [] rest none = rw (same_byte byte) refl
position_at byte (x ∷ xs) rest none = rw (none.0, position_at byte xs rest none.1) (omega arith)

pub before_byte : (byte : ℕ) (xs rest : List ℕ) → NoneIs byte xs → before byte (xs ++ byte ∷ rest) ≡ xs
before_byte byte xs rest none = rw (position_at byte xs rest none) (take-append_seam xs (byte ∷ rest))

pub behind_byte : (byte : ℕ) (xs rest : List ℕ) → NoneIs byte xs → behind byte (xs ++ byte ∷ rest) ≡ rest
behind_byte byte xs rest none =
    ap (λ n. drop (n + 1) (xs ++ byte ∷ rest)) (position_at byte xs rest none) ∙ one_more xs
  where
    one_more : (xs : List ℕ) → drop (length xs + 1) (xs ++ byte ∷ rest) ≡ rest
    one_more [] = refl
    one_more (x ∷ xs) =
        let count : suc (length xs) + 1 ≡ suc (length xs + 1) = omega arith in
        ap (λ n. drop n (x ∷ (xs ++ byte ∷ rest))) count ∙ one_more xs

-- what is left of a list without its last element
pub without_last : {A : Type 0} (xs : List A) (last : A) → take (length (xs ++ last ∷ []) - 1) (xs ++ last ∷ []) ≡ xs
without_last xs last =
    let count : length (xs ++ last ∷ []) - 1 ≡ length xs = omega (arith, length-append xs (last ∷ [])) in
    ap (λ n. take n (xs ++ last ∷ [])) count ∙ take-append_seam xs (last ∷ [])

-- ---- lines

-- a line, and how it ends
pub record Line : Type 0 where
  pub bytes : List ℕ
  pub end : LineEnd

abbrev pub print_line : Line → List ℕ
print_line line = line.bytes ++ print_end line.end

-- no line feed stands in it, and no CR
abbrev pub IsLine : Line → Type 0
IsLine line = NoneIs line_feed line.bytes × NoneIs carriage_return line.bytes

abbrev pub AreLines : List Line → Type 0
AreLines [] = Unit {0}
AreLines (line ∷ others) = IsLine line × AreLines others

abbrev pub cr_of : LineEnd → List ℕ
cr_of crlf = carriage_return ∷ []
cr_of lf = []

-- what stands before its line feed
abbrev pub raw : Line → List ℕ
raw line = line.bytes ++ cr_of line.end

print_raw : (line : Line) (rest : List ℕ) → print_line line ++ rest ≡ raw line ++ line_feed ∷ rest
print_raw line rest = by_end line.end
  where
    by_end : (end : LineEnd) → (line.bytes ++ print_end end) ++ rest ≡ (line.bytes ++ cr_of end) ++ line_feed ∷ rest
    by_end crlf = simp append_assoc
    by_end lf = simp append_assoc

none_raw : (line : Line) → IsLine line → NoneIs line_feed (raw line)
none_raw line is = none_both line_feed line.bytes (cr_of line.end) is.0 (by_end line.end)
  where
    by_end : (end : LineEnd) → NoneIs line_feed (cr_of end)
    by_end crlf = (refl, tt)
    by_end lf = tt

split_lines : (all : List Line) → AreLines all → slice_split (λ byte. byte == line_feed) (flat_map print_line all) ≡ map raw all ++ [] ∷ []
split_lines [] are = refl
split_lines (line ∷ others) are =
    ap (slice_split (λ byte. byte == line_feed)) (print_raw line (flat_map print_line others))
    ∙ split_at line_feed (raw line) (flat_map print_line others) (none_raw line are.0)
    ∙ ap (λ rest. raw line ∷ rest) (split_lines others are.1)

pub before_feeds-print : (all : List Line) → AreLines all → before_feeds (flat_map print_line all) ≡ map raw all
before_feeds-print all are =
    ap (λ (parts : List (List ℕ)). take (length parts - 1) parts) (split_lines all are) ∙ without_last (map raw all) []

-- the last byte of bytes behind others
pub ends_behind : (byte last : ℕ) (xs : List ℕ) → ends_with_byte byte (xs ++ last ∷ []) ≡ (last == byte)
ends_behind byte last [] = refl
ends_behind byte last (x ∷ []) = refl
ends_behind byte last (x ∷ y ∷ xs) = ends_behind byte last (y ∷ xs)

ends_none : (byte : ℕ) (xs : List ℕ) → NoneIs byte xs → ends_with_byte byte xs ≡ false
ends_none byte [] none = refl
ends_none byte (x ∷ []) none = none.0
ends_none byte (x ∷ y ∷ xs) none = ends_none byte (y ∷ xs) none.1

pub line_of-end_crlf : (bytes : List ℕ) → line_of (bytes ++ carriage_return ∷ []) ≡ bytes
line_of-end_crlf bytes =
    ap (λ ends. cond ends (take (length (bytes ++ carriage_return ∷ []) - 1) (bytes ++ carriage_return ∷ [])) (bytes ++ carriage_return ∷ []))
    (ends_behind carriage_return carriage_return bytes)
    ∙ without_last bytes carriage_return

line_of-end : (bytes : List ℕ) (end : LineEnd) → NoneIs carriage_return bytes → line_of (bytes ++ cr_of end) ≡ bytes
line_of-end bytes crlf none = line_of-end_crlf bytes
line_of-end bytes lf none =
    ap line_of (append-nil bytes) ∙ ap (λ ends. cond ends (take (length bytes - 1) bytes) bytes) (ends_none carriage_return bytes none)

pub line_of-raw : (line : Line) → IsLine line → line_of (raw line) ≡ line.bytes
line_of-raw line is = line_of-end line.bytes line.end is.1

line_end-end : (bytes : List ℕ) (end : LineEnd) → NoneIs carriage_return bytes → line_end (bytes ++ cr_of end) ≡ end
line_end-end bytes crlf none = ap (λ ends. cond ends crlf lf) (ends_behind carriage_return carriage_return bytes)
line_end-end bytes lf none = ap line_end (append-nil bytes) ∙ ap (λ ends. cond ends crlf lf) (ends_none carriage_return bytes none)

pub line_end-raw : (line : Line) → IsLine line → line_end (raw line) ≡ line.end
line_end-raw line is = line_end-end line.bytes line.end is.1

pub map_lines : {A : Type 0} (of : List ℕ → A) (is : Line → A) → ((line : Line) → IsLine line → of (raw line) ≡ is line)
    → (all : List Line) → AreLines all → map of (map raw all) ≡ map is all
map_lines of is each [] are = refl
map_lines of is each (line ∷ others) are = rw (each line are.0, map_lines of is each others are.1) refl

pub lines-print : (all : List Line) → AreLines all → lines (flat_map print_line all) ≡ map (λ line. line.bytes) all
lines-print all are = ap (map line_of) (before_feeds-print all are) ∙ map_lines line_of (λ line. line.bytes) line_of-raw all are

-- the last byte by its place
pub ends_with_last : (wanted : ℕ) (bytes : List ℕ) → 0 < length bytes → ends_with_byte wanted bytes ≡ (slice_index bytes (length bytes - 1) == wanted)
ends_with_last wanted [] some = absurd (omega arith)
ends_with_last wanted (byte ∷ []) some = refl
ends_with_last wanted (byte ∷ next ∷ bytes) some =
    let one_more : suc (length (next ∷ bytes) - 1) ≡ length (byte ∷ next ∷ bytes) - 1 = omega arith in
    ends_with_last wanted (next ∷ bytes) (omega arith) ∙ ap (λ k. slice_index (byte ∷ next ∷ bytes) k == wanted) one_more

pub line_of_cr : (bytes : List ℕ) → 0 < length bytes → slice_index bytes (length bytes - 1) ≡ 13 → line_of bytes ≡ take (length bytes - 1) bytes
line_of_cr bytes some is =
    ap (λ ends. cond ends (take (length bytes - 1) bytes) bytes) (ends_with_last carriage_return bytes some ∙ ap (λ last. last == carriage_return) is)

pub line_of_other : (bytes : List ℕ) → ((0 < length bytes) → slice_index bytes (length bytes - 1) ≡ 13 → ⊥) → line_of bytes ≡ bytes
line_of_other [] other = refl
line_of_other (byte ∷ bytes) other =
    let all = byte ∷ bytes in
    ap (λ ends. cond ends (take (length all - 1) all) all) (ends_with_last carriage_return all (omega arith) ∙ differs (slice_index all (length all - 1)) (other (omega arith)))
  where
    differs : (last : ℕ) → (last ≡ 13 → ⊥) → (last == carriage_return) ≡ false
    differs last apart = grind (arith, nat_tests)

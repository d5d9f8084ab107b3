-- What a search knows of the bytes that it has looked through.
use Rattle.std.specs.Prelude.{◌≡◌, ℕ, ◌+◌, ◌<◌, ◌≤◌, Bool, true, false, ◌&&◌, ◌||◌, ◌==◌, nat_lt, if◌then◌else◌, List, ◌++◌, length, take}
use Rattle.std.specs.List.{slice_split}
use Rattle.httparse.specs.Ascii.{line_feed}
use Rattle.zk_http.specs.declared.search.Ending.{Ending}
use Rattle.zk_http.specs.declared.search.Ending.TheVariants.{Line, Section, Head}
use Rattle.zk_http.specs.declared.search.Search.{Search}
use Rattle.zk_http.specs.Heads.{from_start}
use Rattle.zk_http.specs.Lines.{before_feeds, ends_line, ends_section, ends_head, text_length}

-- the bytes end so
abbrev pub ends : Ending → List ℕ → Bool
ends Line text = ends_line text
ends Section text = ends_section text
ends Head text = ends_head text

-- the last of some lines, which is empty or not, is the end
abbrev pub is_end : Ending → ℕ → Bool → Bool
is_end Line lines is_empty = true
is_end Section lines is_empty = is_empty
is_end Head lines is_empty = is_empty && nat_lt 1 lines

-- a text of whole lines
abbrev pub IsWhole : List ℕ → Type 0
IsWhole text =
    (rest : List ℕ) → slice_split (λ byte. byte == line_feed) (text ++ rest) ≡ before_feeds text ++ slice_split (λ byte. byte == line_feed) rest

-- the lines of these bytes were counted
pub record Counts (search : Search) (bytes : List ℕ) : Type 0 where
  pub whole : IsWhole bytes
  pub lines : search.lines ≡ length (from_start (before_feeds bytes))
  pub text : search.text ≡ text_length bytes
  pub few_lines : search.lines ≤ length bytes
  pub short : search.text ≤ length bytes

-- it has looked through the first bytes of these, which don't end so
pub record Knows (search : Search) (ending : Ending) (bytes : List ℕ) : Type 0 where
  pub seen : search.seen ≤ length bytes
  pub line : search.line ≤ search.seen
  pub counts : Counts search (take search.line bytes)
  pub no_end : (k : ℕ) → search.line < k → k ≤ search.seen → ends_line (take k bytes) ≡ false
  pub none : (k : ℕ) → k ≤ search.seen → ends ending (take k bytes) ≡ false

-- it has looked through all of them
abbrev pub KnowsAll : Search → Ending → List ℕ → Type 0
KnowsAll search ending bytes = (search.seen ≡ length bytes) × Knows search ending bytes

-- the first n bytes end so, and fewer don't
pub record FindsAt (search : Search) (ending : Ending) (bytes : List ℕ) (n : ℕ) : Type 0 where
  pub within : n ≤ length bytes
  pub end : ends ending (take n bytes) ≡ true
  pub first : (k : ℕ) → k < n → ends ending (take k bytes) ≡ false
  pub counts : Counts search (take n bytes)

-- what is known behind one more line
abbrev pub PassesLine : Search → Search → ℕ → ℕ → Type 0
PassesLine search passed len end =
    (passed.seen ≡ end) × (passed.line ≡ end)
    × (passed.lines ≡ (if nat_lt 0 search.lines || nat_lt 0 len then search.lines + 1 else 0))
    × (passed.text ≡ search.text + len)

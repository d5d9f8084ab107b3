-- What is said of a text, which goes out in pieces.
use Rattle.std.specs.Prelude.{◌≡◌, ℕ, List, [], ◌∷◌, ◌++◌}
use Rattle.zk_base.specs.Shelf.{Outside}
use Rattle.zk_outcome.specs.Parts.{DoesAll}

-- a line ends in a line feed
abbrev pub line_end : List ℕ
line_end = 10 ∷ []

-- Of a piece that waits to be said, a prefix is said and the rest waits on.
pub record HandsOver (old : Outside) (piece : List ℕ) (new : Outside) (rest : List ℕ) : Type 0 where
  pub said : List ℕ
  pub does : DoesAll [] said [] old new
  pub joined : piece ≡ said ++ rest

-- what was said since the first outside, and the piece that waits, are the text
pub record HasSaid (first : Outside) (text piece : List ℕ) (now : Outside) : Type 0 where
  pub said : List ℕ
  pub does : DoesAll [] said [] first now
  pub joined : text ≡ said ++ piece

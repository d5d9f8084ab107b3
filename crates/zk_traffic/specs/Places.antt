-- Neighbouring places of a stream, each with its byte or as a gap (specs/Places.antt of zk_base).
use Rattle.std.specs.Prelude.{ℕ, ◌+◌, ◌==◌, if◌then◌else◌, List, [], ◌∷◌, Some, None}
use Rattle.zk_base.specs.Places.{Place}

-- gap places one behind another
pub record Gap : Type 0 where
  pub from : ℕ
  pub length : ℕ

-- bytes one behind another
pub record Run : Type 0 where
  pub from : ℕ
  pub bytes : List ℕ

-- a gap place ahead of gaps: it belongs to the first where that stands directly behind it
abbrev pub with_gap : ℕ → List Gap → List Gap
with_gap at [] = record { from = at; length = 1 } ∷ []
with_gap at (next ∷ rest) =
    if next.from == at + 1 then record { from = at; length = next.length + 1 } ∷ rest
    else record { from = at; length = 1 } ∷ next ∷ rest

-- the greatest runs of gap places among the places from `at` on
abbrev pub gaps_from : ℕ → List Place → List Gap
gaps_from at [] = []
gaps_from at (Some byte ∷ places) = gaps_from (at + 1) places
gaps_from at (None ∷ places) = with_gap at (gaps_from (at + 1) places)

-- a byte ahead of runs
abbrev pub with_byte : ℕ → ℕ → List Run → List Run
with_byte at byte [] = record { from = at; bytes = byte ∷ [] } ∷ []
with_byte at byte (next ∷ rest) =
    if next.from == at + 1 then record { from = at; bytes = byte ∷ next.bytes } ∷ rest
    else record { from = at; bytes = byte ∷ [] } ∷ next ∷ rest

-- the greatest runs of bytes among the places from `at` on
abbrev pub runs_from : ℕ → List Place → List Run
runs_from at [] = []
runs_from at (None ∷ places) = runs_from (at + 1) places
runs_from at (Some byte ∷ places) = with_byte at byte (runs_from (at + 1) places)

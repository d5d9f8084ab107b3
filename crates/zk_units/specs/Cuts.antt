-- Bytes that are cut by gaps.
use Rattle.std.specs.Prelude.{ℕ, List, [], ◌∷◌, ◌++◌, map, replicate, sum_by, take, drop, Some, None}
use Rattle.zk_base.specs.Places.{Place}
use Rattle.zk_units.specs.declared.unread.Cut.{Cut}

abbrev pub byte_places : List ℕ → List Place
byte_places bytes = map (λ byte. Some byte) bytes

abbrev pub gap_places : ℕ → List Place
gap_places n = replicate n None

-- the places of these bytes, where each cut is a gap behind so many of them
abbrev pub places_cut : List ℕ → List Cut → List Place
places_cut bytes [] = byte_places bytes
places_cut bytes (cut ∷ cuts) = byte_places (take cut.run bytes) ++ (gap_places cut.gap ++ places_cut (drop cut.run bytes) cuts)

-- how many bytes stand ahead of the last gap
abbrev pub runs_in : List Cut → ℕ
runs_in cuts = sum_by (λ (cut : Cut). cut.run) cuts

-- how many places are gaps
abbrev pub gaps_in : List Cut → ℕ
gaps_in cuts = sum_by (λ (cut : Cut). cut.gap) cuts

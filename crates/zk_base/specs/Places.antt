-- The places of one direction of a connection, in their order.
use Rattle.std.specs.Prelude.{ℕ, List, [], ◌∷◌, Option, None, Some, is_none, count_by}

-- a place holds a byte, or it is a gap: a byte that the peer has and the capture lacks
abbrev pub Place : Type 0
Place = Option ℕ

-- how many of the places are gaps
abbrev pub gaps : List Place → ℕ
gaps places = count_by is_none places

-- the bytes before the first gap
abbrev pub bytes_before_gap : List Place → List ℕ
bytes_before_gap [] = []
bytes_before_gap (None ∷ places) = []
bytes_before_gap (Some byte ∷ places) = byte ∷ bytes_before_gap places

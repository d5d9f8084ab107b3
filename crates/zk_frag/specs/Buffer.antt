-- Bytes with a mark for each place that has one.
use Rattle.std.specs.Prelude.{ℕ, Bool, false, List, slice_index, slice_index_or, Option, None, Some, if◌then◌else◌}

-- the byte of a buffer at a place that is marked as covered
abbrev pub byte_held : List ℕ → List Bool → ℕ → Option ℕ
byte_held bytes covered place =
    if slice_index_or covered place false then Some (slice_index bytes place) else None

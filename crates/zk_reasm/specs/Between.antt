-- The places from one up to another.
use Rattle.std.specs.Prelude.{ℕ, ◌-◌, List, map, count_by, Option, is_some}
use Rattle.std.specs.List.{filter_map, range_with_len}

-- what each of them has
abbrev pub places_between : (ℕ → Option ℕ) → ℕ → ℕ → List (Option ℕ)
places_between bytes from to = map bytes (range_with_len from (to - from))

-- how many of them have a byte
unfoldable pub held_between : (ℕ → Option ℕ) → ℕ → ℕ → ℕ
held_between bytes from to = count_by is_some (places_between bytes from to)

-- their bytes
unfoldable pub bytes_between : (ℕ → Option ℕ) → ℕ → ℕ → List ℕ
bytes_between bytes from to = filter_map (λ byte. byte) (places_between bytes from to)

-- Bytes that stand one behind another.
use Rattle.std.specs.Prelude.{ℕ, ◌-◌, nat_le, List, slice_get, Option, None, if◌then◌else◌}

-- the byte at a place, of bytes that begin at `from`
abbrev pub byte_in : ℕ → List ℕ → ℕ → Option ℕ
byte_in from bytes at = if nat_le from at then slice_get bytes (at - from) else None

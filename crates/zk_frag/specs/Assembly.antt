-- What an assembly holds of a datagram.
use Rattle.std.specs.Prelude.{◌≡◌, ℕ, ◌+◌, ◌<◌, ◌≤◌, Bool, true, false, not, List, length, Option, None, Some, slice_index_or, if◌then◌else◌}
use Rattle.std.specs.Option.{option_or}
use Rattle.zk_frag.specs.declared.assembly.Assembly.{Assembly}
use Rattle.zk_frag.specs.Buffer.{byte_held}
use Rattle.zk_frag.specs.Fragment.{byte_of}

-- an assembly has these bytes at their places, this end, and the first place that is not covered
pub record Holds (assembly : Assembly) (byte_at : ℕ → Option ℕ) (end : Option ℕ) : Type 0 where
  pub bytes : (place : ℕ) → byte_at place ≡ byte_held assembly.bytes.items assembly.covered.items place
  pub end_is : end ≡ assembly.end
  pub before : (place : ℕ) → place < assembly.front → slice_index_or assembly.covered.items place false ≡ true
  pub gap : slice_index_or assembly.covered.items assembly.front false ≡ false
  pub room : length assembly.covered.items ≤ length assembly.bytes.items

-- the bytes with those of a payload, where there was none
abbrev pub with_payload : (ℕ → Option ℕ) → ℕ → List ℕ → ℕ → Option ℕ
with_payload byte_at from payload place = option_or (byte_at place) (byte_of from payload place)

-- the end with a payload behind which more follows or not, where none was named
abbrev pub with_end : Option ℕ → ℕ → Bool → List ℕ → Option ℕ
with_end end from more payload = option_or end (if not more then Some (from + length payload) else None)

-- Chains of pointers that lead to pointers, cut short.
use Rattle.std.specs.Prelude.{◌≡◌, ◌≢◌, ℕ, ◌<◌, List, slice_index, Result, Ok}
use Rattle.zk_dns.specs.declared.fault.DnsFault.{DnsFault}
use Rattle.zk_dns.specs.Name.{◌>>=◌, rest_at, whole}

-- the labels of what is left of a name, behind `size` bytes of it
unfoldable pub labels_at : List ℕ → ℕ → ℕ → Result (List (List ℕ)) DnsFault
labels_at bytes size place = rest_at bytes (whole bytes) size place >>= λ name. Ok name.labels

-- Where a table has a place for a place, that one is before it, and a name goes on there with the same labels or the same fault.
pub record AreSkips (bytes skips : List ℕ) : Type 0 where
  pub before : (place : ℕ) → slice_index skips place ≢ 0 → slice_index skips place < place
  pub same : (place size : ℕ) → slice_index skips place ≢ 0 → labels_at bytes size place ≡ labels_at bytes size (slice_index skips place)

-- The scripts that were read, and the names that are to be read.
use Rattle.std.specs.Prelude.{◌≡◌, ℕ, List, reverse}
use Rattle.std.specs.Str.{bytes_eq}
use Rattle.indexmap.specs.IndexSet.{contains}
use Rattle.zk_load.specs.declared.loading.Scripts.{Scripts}
use Rattle.zk_load.specs.Loading.{is_read}
use Rattle.zk_load.specs.Loading as plain

-- these were read, and these names are to be read, in order
pub record Waits (scripts : Scripts) (read : plain.Scripts) (names : List (List ℕ)) : Type 0 where
  pub reads : scripts.read.items ≡ read
  pub known : (name : List ℕ) → contains bytes_eq scripts.names name ≡ is_read read name
  pub pending : scripts.pending.items ≡ reverse names

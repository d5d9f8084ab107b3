use Rattle.std.proofs.Common.{◌≡◌, ℕ, List, take}
use Rattle.std.specs.Str.{bytes_eq}
use Rattle.indexmap.specs.IndexSet.{contains}
use Rattle.zk_load.specs.Loading.{is_read}
use Rattle.zk_load.proofs.loading.names_of.Given as goal

-- the names of the scripts so far
abbrev pub invariant-loop-script : goal.invariant-loop-script
invariant-loop-script l = (name : List ℕ) → contains bytes_eq l.names name ≡ is_read (take l.script-index l.scripts) name

use Rattle.std.proofs.Common.{◌≡◌, fold, nat_eq, take}
use Rattle.indexmap.specs.IndexSet.{insert_key}
use Rattle.zk_scope.proofs.leading.add_found.Given as goal

abbrev pub invariant-loop-place : goal.invariant-loop-place
invariant-loop-place l = l.found.keys ≡ fold (insert_key nat_eq) l.fn.found.keys (take l.place-index l.places)

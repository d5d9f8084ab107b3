use Rattle.std.proofs.Common.{◌≡◌, ◌++◌, flat_map, take}
use Rattle.zk_scope.specs.Leaves.{further_key}
use Rattle.zk_scope.proofs.type_names.add_further_keys.Given as goal

abbrev pub invariant-loop-key : goal.invariant-loop-key
invariant-loop-key l = l.text.items ≡ l.fn.text.items ++ flat_map further_key (take l.key-index l.keys)

use Rattle.std.proofs.Common.{◌≡◌, ◌++◌, map, take}
use Rattle.std.specs.Prelude.{codes}
use Rattle.zk_tree.specs.Lists.{joined_by}
use Rattle.zk_typed.specs.Columns.{simple_name}
use Rattle.zk_lower.proofs.leaves.push_key_names.Given as goal

abbrev pub invariant-loop-number : goal.invariant-loop-number
invariant-loop-number l = l.out.items ≡ l.initial.out.items ++ joined_by (codes ",") (map simple_name (take l.number l.keys))

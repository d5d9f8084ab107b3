use Rattle.std.proofs.Common.{◌≡◌, take}
use Rattle.zk_tree.specs.Lists.{joined_by}
use Rattle.zk_builtin.proofs.format.join_string_vec.Given as goal

abbrev pub invariant-loop-number : goal.invariant-loop-number
invariant-loop-number l = l.text.items ≡ joined_by l.sep (take l.number l.v)

use Rattle.std.proofs.Common.{◌≡◌, map, take}
use Rattle.zk_machine.proofs.rows.lent.Given as goal

abbrev pub invariant-loop-leaf : goal.invariant-loop-leaf
invariant-loop-leaf l = map (λ leaf. leaf.now) l.lent.items ≡ take l.leaf-index l.leaves

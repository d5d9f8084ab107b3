use Rattle.std.proofs.Common.{add-one, arith}
use Rattle.zk_value.proofs.StoreLemmas.{PlacesFrom-table, PlacesFrom-few}
use Rattle.zk_value.proofs.store.Store.add_table.Goals as goal

pub overflow_add-self : goal.overflow_add-self
overflow_add-self c =
    omega (arith, PlacesFrom-few 0 c.self.inside.slots.items c.self.inside.tables c.self.invariant, c.in_ok-push.ensures.len)

pub invariant_of-self-2 : goal.invariant_of-self-2
invariant_of-self-2 c = rw (c.in_ok-push.ensures.items, add-one) (PlacesFrom-table 0 c.self.inside.slots.items c.self.inside.tables c.self.invariant)

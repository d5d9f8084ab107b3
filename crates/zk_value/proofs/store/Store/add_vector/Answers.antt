use Rattle.std.proofs.Common.{refl}
use Rattle.zk_value.specs.declared.store.Slot.TheVariants.{Vector}
use Rattle.zk_value.proofs.StoreLemmas.{PlacesFrom-object}
use Rattle.zk_value.proofs.store.Store.add_vector.Goals as goal

pub invariant_of-self-2 : goal.invariant_of-self-2
invariant_of-self-2 c =
    rw (c.in_ok-push.ensures.items) (PlacesFrom-object 0 c.self.inside.slots.items c.self.inside.tables (Vector c.args.items) refl c.self.invariant)

use Rattle.std.proofs.Common.{◌≡◌, ◌++◌, ◌∷◌, [], Result, Ok, Err, OnOk, ap}
use Rattle.zk_base.specs.declared.memory.Mem.{Mem}
use Rattle.zk_tree.specs.Store as object
use Rattle.zk_tree.specs.Store.{Store}
use Rattle.zk_typed.specs.State.{World, with_store}
use Rattle.zk_machine.specs.State.{world_of}
use Rattle.zk_machine.proofs.world.World.add_table.Goals as goal

stored : {A : Type 0} (r : Result A Mem) (world : World) (objects store : Store) → OnOk r (objects ≡ store) → OnOk r (with_store objects world ≡ with_store store world)
stored (Ok number) world objects store ok = ap (λ store. with_store store world) ok
stored (Err e) world objects store ok = tt

pub invariant_of-self : goal.invariant_of-self
invariant_of-self c =
    let world = c.args.self.now in
    record { watched = c.add_new.ensures.watched world.globals world.up_to world.watched; up_to = world.up_to }

pub returns-clause-ok : goal.returns-clause-ok
returns-clause-ok c =
    let world = world_of c.args.self.now in
    stored c.add_new.result world c.add_new.new.heap.objects (world.store ++ object.Table c.args.table ∷ []) c.add_new.ensures.ok

use Rattle.std.proofs.Common.{◌≡◌, true, sym, subst}
use Rattle.zk_machine.specs.Owners.{all_up_to, all_watched}
use Rattle.zk_machine.proofs.world.World.set_global.Goals as goal

pub invariant_of-self : goal.invariant_of-self
invariant_of-self c =
    let world = c.args.self.now in
    record {
      watched = subst (λ values. all_watched values c.watch_value.new.heap.unwatched ≡ true) (sym c.set.ensures) (c.watch_value.ensures.watched world.globals c.args.global world.watched);
      up_to = subst (λ values. all_up_to values c.watch_value.new.last ≡ true) (sym c.set.ensures) (c.watch_value.ensures.up_to world.globals c.args.global world.up_to);
    }

use Rattle.zk_machine.proofs.OwnerLemmas.{nothing-up_to, nothing-watched}
use Rattle.zk_machine.proofs.world.World.new.Goals as goal

pub invariant_of-result : goal.invariant_of-result
invariant_of-result c = record {
  watched = nothing-watched c.args.globals _ c.requires;
  up_to = nothing-up_to c.args.globals _ c.requires;
}

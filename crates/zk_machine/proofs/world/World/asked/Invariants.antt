use Rattle.std.proofs.Common.{◌≡◌, ◌++◌, drop}
use Rattle.zk_machine.specs.Agenda.{entry_dues, event_dues, first_of}
use Rattle.zk_machine.specs.State.{world_of}
use Rattle.zk_machine.proofs.world.World.asked.Given as goal

abbrev pub invariant-loop-index : goal.invariant-loop-index
invariant-loop-index l = l.fn.event ≡ first_of (event_dues (world_of l.self))
    → l.first ≡ first_of (entry_dues (world_of l.self) (drop l.index l.globals) ++ event_dues (world_of l.self))

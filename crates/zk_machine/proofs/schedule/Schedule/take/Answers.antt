use Rattle.zk_machine.proofs.ScheduleLemmas.{kept-less}
use Rattle.zk_machine.proofs.schedule.Schedule.take.Goals as goal

pub invariant_of-self : goal.invariant_of-self
invariant_of-self c = kept-less c.self.inside.count c.args.order c.self.inside.slots.items c.take_from.new.slots.items c.self.inside.dues c.expire.new.self c.self.invariant
    (c.take_from.ensures.last c.self.invariant.0) (c.take_from.ensures.left c.self.invariant.0) c.expire.ensures.expired

pub invariant_of-self-2 : goal.invariant_of-self-2
invariant_of-self-2 c = kept-less c.self.inside.count c.args.order c.self.inside.slots.items c.take_from.new.slots.items c.self.inside.dues c.expire.new.self c.self.invariant
    (c.take_from.ensures.last c.self.invariant.0) (c.take_from.ensures.left c.self.invariant.0) c.expire.ensures.expired

use Rattle.std.proofs.Common.{◌++◌, sym, ap, ◌∙◌}
use Rattle.zk_machine.specs.Agenda.{event_dues, first_of}
use Rattle.zk_machine.specs.State.{world_of}
use Rattle.zk_machine.proofs.OwnerLemmas.{watched-each}
use Rattle.zk_machine.proofs.FirstLemmas.{led, no_entries, due_in-ending, due_in-going}
use Rattle.zk_machine.proofs.world.World.due.Goals as goal

-- the end has begun
pub returns-then-self-clause-first : goal.returns-then-self-clause-first
returns-then-self-clause-first c =
    let world = world_of c.args.self.now in
    c.event_due-event.ensures.first ∙ sym (due_in-ending world c.args.globals.now c.if-self.true)

-- no table is due
pub returns-in_default-clause-first : goal.returns-in_default-clause-first
returns-in_default-clause-first c =
    let world = world_of c.args.self.now in
    c.event_due-event.ensures.first
    ∙ (ap (λ entries. first_of (entries ++ event_dues world)) (sym (no_entries world c.args.self.now.heap.unwatched c.args.globals.now (watched-each world.globals c.args.self.now.heap.unwatched c.args.self.now.watched) c.in_default.ensures.none))
    ∙ sym (due_in-going world c.args.globals.now c.if-self.false))

-- the index leads to a global
pub returns-in-Some-first_owner-clause-first : goal.returns-in-Some-first_owner-clause-first
returns-in-Some-first_owner-clause-first c =
    let world = world_of c.args.self.now in
    c.with_entry.ensures (event_dues world) c.event_due-event.ensures.first
    ∙ (led world c.args.self.now.heap.unwatched c.args.globals.now (event_dues world) c.in-Some.field-0-0 c.in-Some.table c.in-Some-first_owner.global (watched-each world.globals c.args.self.now.heap.unwatched c.args.self.now.watched) c.in-Some.ensures.some c.in-Some-first_owner.ensures
    ∙ sym (due_in-going world c.args.globals.now c.if-self.false))

-- each global is asked
pub returns-in-None-clause-first : goal.returns-in-None-clause-first
returns-in-None-clause-first c =
    let world = world_of c.args.self.now in
    c.asked.ensures c.event_due-event.ensures.first ∙ sym (due_in-going world c.args.globals.now c.if-self.false)

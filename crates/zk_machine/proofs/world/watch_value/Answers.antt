use Rattle.std.proofs.Common.{rules, ◌≡◌, None, Some}
use Rattle.zk_value.specs.Plain.{field_of}
use Rattle.zk_machine.specs.Entries.{object_named}
use Rattle.zk_machine.proofs.OwnerLemmas.{up_to-set, up_to-unset, watched-set, watched-unset}
use Rattle.zk_machine.proofs.world.watch_value.Goals as goal

-- it names no object
pub returns-in_default-clause-watched : goal.returns-in_default-clause-watched
returns-in_default-clause-watched c = λ values global all.
    let none : object_named (field_of c.args.value.now) ≡ None = search rules in
    watched-unset c.args.heap.now.unwatched values global (field_of c.args.value.now) none all

pub returns-in_default-clause-up_to : goal.returns-in_default-clause-up_to
returns-in_default-clause-up_to c = λ values global all.
    let none : object_named (field_of c.args.value.now) ≡ None = search rules in
    up_to-unset c.args.last.now values global (field_of c.args.value.now) none all

-- the object is watched
pub returns-clause-watched : goal.returns-clause-watched
returns-clause-watched c = λ values global all.
    let is : object_named (field_of c.args.value.now) ≡ Some c.in-Some.object = search rules in
    watched-set c.args.heap.now.unwatched c.watch.new.self.unwatched values global (field_of c.args.value.now) c.in-Some.object is c.watch.ensures.others c.watch.ensures.watched all

pub returns-clause-up_to : goal.returns-clause-up_to
returns-clause-up_to c = λ values global all.
    let is : object_named (field_of c.args.value.now) ≡ Some c.in-Some.object = search rules in
    up_to-set c.args.last.now c.later.result values global (field_of c.args.value.now) c.in-Some.object is c.later.ensures.kept c.later.ensures.own all

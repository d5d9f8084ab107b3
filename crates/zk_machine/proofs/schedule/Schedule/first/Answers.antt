use Rattle.std.proofs.Common.{rules, ◌≡◌, ◌-◌, length, sym, subst}
use Rattle.zk_machine.specs.Schedule.{IsFound, Plan, plan_of}
use Rattle.zk_machine.proofs.ScheduleLemmas.{each-found}
use Rattle.zk_machine.proofs.schedule.Schedule.first.Goals as goal

pub returns-clause-found : goal.returns-clause-found
returns-clause-found c =
    let count = c.self.inside.count in
    let slots = c.self.inside.slots.items in
    let view : c.args.self.now ≡ plan_of count slots = search rules in
    let P : Plan → Type 0 = λ plan. IsFound plan.events in
    subst P (sym view) (each-found (count - length slots) slots c.self.invariant.0.1)

use Rattle.std.proofs.Common.{◌≡◌, Option, Some, None, IfSome, sym, ap, subst, ◌∙◌}
use Rattle.std.specs.Option.{option_map}
use Rattle.zk_machine.specs.Handling.{expiring_from}
use Rattle.zk_lower.specs.Code.{Code}
use Rattle.zk_typed.specs.Running.{next_turn}
use Rattle.zk_typed.specs.State.{World}
use Rattle.zk_machine.specs.Agenda.{due_of, due_in}
use Rattle.zk_machine.specs.Schedule.{IsFound}
use Rattle.zk_machine.specs.Standing.{IsReady}
use Rattle.zk_machine.specs.State.{world_of}
use Rattle.zk_machine.specs.declared.due.Due.{Due}
use Rattle.zk_machine.specs.declared.due.DueKind.{DueKind}
use Rattle.zk_machine.specs.declared.due.DueKind.TheVariants as kind
use Rattle.zk_machine.specs.declared.machine.Machine.{Machine}
use Rattle.zk_machine.proofs.DueLemmas.{CanTake, due_ready, next_alike, next_found, next_told}
use Rattle.zk_machine.proofs.machine.Machine.due.Goals as goal

pub returns-clause-next : goal.returns-clause-next
returns-clause-next c = λ program given world stands.
    let now = world_of c.args.self.now.running.state.world in
    c.due.ensures.first
    ∙ (ap (due_in now) (c.expiring.ensures ∙ ap (λ (code : Code). expiring_from 0 code.globals) stands.code)
    ∙ (next_alike program now ∙ ap (option_map due_of) (sym (ap (next_turn program) stands.comes ∙ next_told program given now))))

pub returns-clause-event : goal.returns-clause-event
returns-clause-event c = λ program given world at one stands is.
    let P : World → Type 0 = λ world. IsFound world.scheduled in
    next_found program world at one (subst P (sym stands.comes) c.due.ensures.found) is

ready : (machine : Machine) (what : DueKind) → CanTake (world_of machine.running.state.world).scheduled what → IsReady machine what
ready machine (kind.Entry table order) h = h
ready machine (kind.Scheduled order) h = h

pub returns-clause-ready : goal.returns-clause-ready
returns-clause-ready c = by c.due.result c.due.ensures.first
  where
    by : (due : Option Due) → due ≡ due_in (world_of c.args.self.now.running.state.world) c.expiring.result.now → IfSome due (λ due. IsReady c.args.self.now due.what)
    by None is = tt
    by (Some due) is = ready c.args.self.now due.what (due_ready (world_of c.args.self.now.running.state.world) c.expiring.result.now due c.due.ensures.found (sym is))

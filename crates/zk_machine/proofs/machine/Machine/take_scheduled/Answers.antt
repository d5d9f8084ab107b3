use Rattle.std.proofs.Common.{◌≡◌, Some, sym, ap, ◌∙◌}
use Rattle.zk_lower.specs.Told.{behind}
use Rattle.zk_typed.specs.Running.{not_waiting}
use Rattle.zk_typed.specs.State.{World}
use Rattle.zk_machine.specs.Schedule.{Plan, event_numbered, others}
use Rattle.zk_machine.specs.State.{world_of}
use Rattle.zk_machine.proofs.ScheduleLemmas.{order-found}
use Rattle.zk_machine.proofs.machine.Machine.take_scheduled.Goals as goal

pub returns-clause-stands : goal.returns-clause-stands
returns-clause-stands c = λ program given world one stands found.
    let now = world_of c.args.self.now.running.state.world in
    let order = c.args.order in
    let here : event_numbered order now.scheduled ≡ Some one = ap (λ (world : World). event_numbered order world.scheduled) (sym stands.comes) ∙ found in (
      c.in-Some.ensures.some one here,
      record {
        code = stands.code;
        comes = ap (not_waiting one) stands.comes
            ∙ (ap (λ n. behind given (record now { scheduled = others n now.scheduled })) (order-found order now.scheduled one here)
            ∙ ap (λ (plan : Plan). behind given (record now { scheduled = plan.events; schedulings = plan.count })) (sym c.in-Some.ensures.left));
        works = stands.works;
      },
    )
